use Rattle.std.proofs.Common.{◌≡◌, take}
use Rattle.std.specs.Prelude.{filter}
use Rattle.target_base.specs.Rules.{regs_of_some}
use Rattle.target_base.specs.Storage.{is_unreserved}
use Rattle.split_choose.proofs.regions.domain_of.Given as goal

abbrev pub invariant-regs : goal.invariant-regs
invariant-regs l = l.domain.items ≡ filter (is_unreserved l.target.reserved l.target.regs) (take l.r-index (regs_of_some l.target.classes l.fn.class))
