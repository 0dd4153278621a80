use Rattle.std.proofs.Common.{◌≡◌, ◌≤◌, ◌++◌, length, take, ◌∙◌}
use Rattle.ra_top.proofs.DeviceLemmas.Chunks.{taken_after, taken_fed, none_more}
use Rattle.ra_top.proofs.devices.chunk.read_piece.Goals as goal

pub chunks-preserved : goal.chunks-preserved
chunks-preserved g c =
    let rest = c.rest.ensures in
    let n = c.in_ok-n-in-Ok-true.n in
    let text : c.feed.new.self ≡ c.chunks.piece ++ take n c.refill.new.chunk = rw rest at c.in_ok-n-in-Ok-true.ensures.text in
    let within : n ≤ length c.refill.new.chunk = rw rest at c.in_ok-n-in-Ok-true.ensures.within in
    let first = rw rest at c.in_ok-n-in-Ok-true.ensures.first in
    let fed = taken_fed _ _ _ c.refill.new.chunk c.chunks.piece n (taken_after _ _ _ _ _ _ c.chunks.piece c.chunks.invariant.taken c.in-Ok-true.ensures.taken) in
    record {
      contents = λ name. c.in-Ok-true.ensures.contents name ∙ c.chunks.invariant.contents name;
      faults = c.in-Ok-true.ensures.cause ∙ c.chunks.invariant.faults;
      taken = rw (text, c.skip.ensures) fed;
      none = none_more c.chunks.piece c.refill.new.chunk c.feed.new.self n c.chunks.invariant.none within text first;
      held = c.in_ok-n-in-Ok-true.ensures.held;
    }
