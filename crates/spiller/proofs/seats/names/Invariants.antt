use Rattle.std.proofs.Common.{◌≡◌, drop}
use Rattle.std.specs.List.{list_any}
use Rattle.mir_func.specs.Binding.{registers}
use Rattle.spiller.specs.Setting.{is_own}
use Rattle.spiller.specs.Views.{own_setting}
use Rattle.spiller.proofs.seats.names.Given as goal

-- as far as operands are left
abbrev pub invariant-operands : goal.invariant-operands
invariant-operands l = list_any (is_own (own_setting l.view)) (registers (drop l.operand-index l.operands)) ≡ list_any (is_own (own_setting l.view)) (registers l.operands)
