use Rattle.std.proofs.Common.{◌≡◌, map, take}
use Rattle.std.specs.Prelude.{slice_index_or}
use Rattle.live_lanes.specs.Looks.{InOrder}
use Rattle.split_choose.specs.Built.{told, blank}
use Rattle.split_choose.proofs.spans.empty_spans.Given as goal

abbrev pub invariant-positions : goal.invariant-positions
invariant-positions l = InOrder l.live.table → map told l.spans.items ≡ map (λ k. blank l.live l.v (slice_index_or l.freqs k 0) k) (take l.position-index l.positions)
