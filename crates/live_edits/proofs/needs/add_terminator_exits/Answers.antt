use Rattle.std.proofs.Common.{◌≡◌, ◌∙◌, ℕ, ◌++◌, [], append-nil, get_or, sym, ap}
use Rattle.live_lanes.specs.Table.{exit_rank, piece_at, seen_cell}
use Rattle.edit_laws.specs.Update.{Request}
use Rattle.live_edits.specs.declared.pieces.Need.{Need}
use Rattle.live_edits.specs.Leading.{exit_beside}
use Rattle.live_edits.specs.Pieces.{request_of, requests_of}
use Rattle.live_edits.proofs.AlikeLists.{alike-equal}
use Rattle.live_edits.proofs.NeedLists.{listed-more, listed-same}
use Rattle.live_edits.proofs.needs.add_terminator_exits.Goals as goal
use Rattle.live_edits.proofs.needs.add_terminator_exits.Goals.{then-index-last+in_ok-push, else-index-last}

pub terminators-init : goal.terminators-init
terminators-init c = λ rise. let from = requests_of c.args.needs.now.items in alike-equal from (from ++ []) (sym (append-nil from))

pub terminators-preserved : goal.terminators-preserved
terminators-preserved c = λ rise.
    let slots = c.args.order.now.slots in
    let v = seen_cell c.args.cell.now in
    let last = c.args.last in
    let ids = c.args.terminators.now in
    let k = c.terminators.id-index in
    let id = get_or ids k 0 in
    let exits : ℕ → Request = exit_beside slots v (request_of last) in
    let from = requests_of c.args.needs.now.items in
    let mid = c.terminators.needs.items in
    let n : Need = record { spot = record { lane = last.spot.lane; block = last.spot.block; index = c.piece_at-index.result; near = last.spot.near }; cause = last.cause } in
    let at : c.piece_at-index.result ≡ piece_at slots (exit_rank slots id) v.segments = c.piece_at-index.ensures.piece rise ∙ ap (λ r. piece_at slots r v.segments) c.exit_rank.ensures in
    let is : request_of n ≡ exits id = (λ i. record { node = (last.spot.lane, last.spot.block, at i); cause = last.cause }) in
    elim c.if-index-last.branch [
      | then-index-last+in_ok-push w ↦ (rw w.needs-is (listed-more exits from ids k mid c.terminators-test.true (c.terminators.invariant rise) w.push.new.self.items n w.in_ok-push.ensures.items is))
      | else-index-last w ↦
          let same : request_of last ≡ exits id = (λ i. record { node = (last.spot.lane, last.spot.block, (sym w.if-index-last.false ∙ at) i); cause = last.cause }) in
          (rw w.needs-is (listed-same exits from ids k mid c.terminators-test.true (c.terminators.invariant rise) (request_of last) c.requires same))
    ]
