use Rattle.std.proofs.Common.{map}
use Rattle.mir_func.specs.Binding.{explicit_roles}
use Rattle.spiller.specs.Views.{way_of}
use Rattle.spiller.specs.Additions.{own_use}
use Rattle.spiller.proofs.Steps.{ways-walked}
use Rattle.spiller.proofs.seats.add_ways.Goals as goal

pub operands-preserved : goal.operands-preserved
operands-preserved c =
    let v = c.args.view.v in
    ways-walked (own_use c.args.view.target.now c.args.view.live.now.func v) (explicit_roles c.operands.roles.now) (explicit_roles c.next_role-role.result.1.now) c.next_role-role.result.0 c.operands.operand-index
    c.as_slice-operand-items.result.now c.args.instr.now.operands c.operand-item.result (map (way_of v) c.operands.ways.items) (map (way_of v) c.add_way.new.ways.items) _
    c.as_slice-operand-items.ensures c.operands-test.true c.operand-item.is c.next_role-role.ensures.role c.next_role-role.ensures.left c.in_ok-add_way.ensures c.operands.invariant
