use Rattle.std.proofs.Common.{◌≡◌, ◌<◌, ◌≤◌, ◌+◌, length, vec_len, ◌∙◌, arith, length-take, drop, rules, ℕ}
use Rattle.std.proofs.lemmas.List.{take-append-le}
use Rattle.ra_top.proofs.DeviceLemmas.Front.{HasFront-more, HasFront-end, HasFront-left, HasFront-most}
use Rattle.ra_top.proofs.devices.moves.read_pieces.Goals as goal

pub returns-in-Ok-eq0-clause-bytes : goal.returns-in-Ok-eq0-clause-bytes
returns-in-Ok-eq0-clause-bytes g c =
    let room : 0 < length c.read.new.piece = search rules in
    let below : vec_len c.pieces.bytes ≤ c.args.limit + 1 = c.pieces.invariant.within in
    HasFront-end _ _ _ _ _ _ _ room below c.pieces.invariant.front (rw c.in-Ok-eq0.field-0-test at c.in-Ok-eq0.ensures.takes)

pub returns-in-Ok-eq0-clause-left : goal.returns-in-Ok-eq0-clause-left
returns-in-Ok-eq0-clause-left g c =
    let room : 0 < length c.read.new.piece = search rules in
    let below : vec_len c.pieces.bytes ≤ c.args.limit + 1 = c.pieces.invariant.within in
    HasFront-left _ _ _ _ _ _ _ room below c.pieces.invariant.front (rw c.in-Ok-eq0.field-0-test at c.in-Ok-eq0.ensures.takes)

pub returns-then-room-eq0-clause-left : goal.returns-then-room-eq0-clause-left
returns-then-room-eq0-clause-left g c =
    let full : vec_len c.pieces.bytes ≡ c.args.limit + 1 = omega arith in
    HasFront-most _ _ _ _ _ full c.pieces.invariant.front

pub pieces-preserved : goal.pieces-preserved
pieces-preserved g c =
    let n : c.in-Ok.n ≤ length c.read.new.piece = search rules in
    let len : vec_len c.extend_from_slice.new.self ≡ vec_len c.pieces.bytes + c.in-Ok.n = omega (arith, c.in_ok-extend_from_slice-in-Ok.ensures.len, length-take {A = ℕ}) in
    let within : vec_len c.pieces.bytes + c.in-Ok.n ≤ c.args.limit + 1 = omega (arith, length-take {A = ℕ}) in
    let same = take-append-le c.in-Ok.n c.read.new.piece (drop c.min-room.result c.pieces.piece) n in
    record {
      contents = λ n. c.in-Ok.ensures.contents n ∙ c.pieces.invariant.contents n;
      faults = c.in-Ok.ensures.cause ∙ c.pieces.invariant.faults;
      front = rw (len, c.in_ok-extend_from_slice-in-Ok.ensures.items, same) (HasFront-more _ _ _ _ c.read.new.piece (vec_len c.pieces.bytes) c.in-Ok.n c.pieces.invariant.front c.in-Ok.ensures.takes);
      within = omega arith;
    }
