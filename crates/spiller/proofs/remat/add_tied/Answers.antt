use Rattle.std.proofs.Common.{◌≤◌, length, subst}
use Rattle.mir_func.specs.Binding.{explicit_roles}
use Rattle.spiller.proofs.ListSteps.{tied-done, tied-first, tied-walked}
use Rattle.spiller.proofs.remat.add_tied.Goals as goal

pub operands-init : goal.operands-init
operands-init c = tied-first c.args.view c.args.definitions.now c.args.instr.now c.roles_of-roles.result.now c.args.readings.now.items c.roles_of-roles.ensures

pub operands-preserved : goal.operands-preserved
operands-preserved c =
    tied-walked c.args.view c.args.definitions.now c.args.instr.now (explicit_roles c.operands.roles.now) (explicit_roles c.next_role-role.result.1.now) c.next_role-role.result.0 c.operands.operand-index c.as_slice-operand-items.result.now c.operand-item.result c.tied_own-tied.result
    c.args.readings.now.items c.operands.readings.items c.add_tied_use.new.readings.items
    c.as_slice-operand-items.ensures c.operands-test.true c.operand-item.is c.next_role-role.ensures.role c.next_role-role.ensures.left c.tied_own-tied.ensures c.in_ok-add_tied_use.ensures c.operands.invariant

pub returns : goal.returns
returns c = tied-done c.args.view c.args.definitions.now c.args.instr.now (explicit_roles c.operands.roles.now) c.operands.operand-index c.args.readings.now.items c.operands.readings.items
    (subst (λ os. length os ≤ c.operands.operand-index) c.as_slice-operand-items.ensures c.operands-test.false) c.operands.invariant
