use Rattle.std.proofs.Common.{◌≡◌, drop}
use Rattle.std.specs.List.{find}
use Rattle.target_base.specs.Storage.{is_unreserved}
use Rattle.two_address.specs.Classes.{first_register}
use Rattle.two_address.proofs.classes.first_register.Given as goal

abbrev pub invariant-each : goal.invariant-each
invariant-each l = find (is_unreserved l.target.reserved l.target.regs) (drop l.r-index l.r-items) ≡ first_register l.target l.fn.c
