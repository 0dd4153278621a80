use Rattle.std.proofs.Common.{[], refl, ap, arith}
use Rattle.std.proofs.lemmas.Cmp.{nat_eq_equiv}
use Rattle.std.proofs.lemmas.Map.Made.{IsDistinct-from_count}
use Rattle.std.specs.List.{list_any}
use Rattle.std.specs.Ordering.{nat_cmp}
use Rattle.std.specs.BTreeMap.{is_at}
use Rattle.greedy_core.proofs.ledger.StepBudget.new.Goals as goal

pub returns : goal.returns
returns c = record { behind = refl; spilled = λ v. ap (list_any (is_at (nat_cmp v))) c.new.ensures.empty; once = IsDistinct-from_count nat_eq_equiv [] refl; spare = omega arith }
