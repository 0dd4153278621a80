use Rattle.std.proofs.Common.{◌≡◌, ◌<◌, ℕ, length, take}
use Rattle.live_lanes.specs.Looks.{InOrder}
use Rattle.live_lanes.specs.Touching.{ReadsInOrder}
use Rattle.spiller.specs.Walks.{touches_at, touches_in}
use Rattle.spiller.proofs.reaching.touches_of.Given as goal

abbrev pub invariant-touched : goal.invariant-touched
invariant-touched l = record {
  count : length l.blocks.items ≡ length l.view.live.now.func.blocks;
  told : InOrder l.view.live.now.table → ReadsInOrder l.view.live.now.table → (p : ℕ) → p < length l.view.live.now.func.blocks → touches_at l.blocks.items p ≡ touches_in l.view.live.now.table l.view.v l.lane (take l.id-index l.touched) p;
}
