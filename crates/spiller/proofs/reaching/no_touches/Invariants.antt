use Rattle.std.proofs.Common.{◌≡◌, ℕ, [], length}
use Rattle.spiller.specs.Walks.{touches_at}
use Rattle.spiller.proofs.reaching.no_touches.Given as goal

abbrev pub invariant-blocks-2 : goal.invariant-blocks-2
invariant-blocks-2 l = record {
  count : length l.blocks.items ≡ l.counter;
  none : (p : ℕ) → touches_at l.blocks.items p ≡ [];
}
