use Rattle.std.proofs.Common.{◌≡◌, drop}
use Rattle.target_base.specs.Storage.{same_numbers}
use Rattle.meaning.specs.Sameness.{same_list}
use Rattle.alloc_check.proofs.rests.same_widths.Given as goal

abbrev pub invariant-loop-k : goal.invariant-loop-k
invariant-loop-k l = same_list same_numbers (drop l.k l.a) (drop l.k l.b) ≡ same_list same_numbers l.a l.b
