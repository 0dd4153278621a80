use Rattle.std.proofs.Common.{◌≡◌, ◌++◌, length}
use Rattle.std.specs.Vec.Iter.{into_iter_items, into_iter_len}
use Rattle.target_base.proofs.boxed.BoxedList.from_items.Given as goal

abbrev pub invariant-loop-x : goal.invariant-loop-x
invariant-loop-x g l = (l.made ++ into_iter_items l.x-iterator ≡ l.fn.items.items) × (into_iter_len l.x-iterator ≡ length (into_iter_items l.x-iterator))
