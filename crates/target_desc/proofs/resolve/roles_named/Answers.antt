use Rattle.std.proofs.Common.{arith}
use Rattle.target_desc.specs.Resolving.{role_named, roles_named}
use Rattle.target_desc.proofs.Lists.{loop_stops, loop_goes, loop_ends, reads_roles}
use Rattle.target_desc.proofs.resolve.roles_named.Goals as goal

pub returns-in-None : goal.returns-in-None
returns-in-None c =
    loop_stops (role_named c.args.names.now) (roles_named c.args.names.now) (reads_roles c.args.names.now) c.loop-role.made c.args.raw.now c.loop-role.role-index c.role-item.result c.loop-role.invariant (omega arith) c.role-item.is (c.in-None.ensures)

pub loop-role-preserved : goal.loop-role-preserved
loop-role-preserved c =
    loop_goes (role_named c.args.names.now) (roles_named c.args.names.now) (reads_roles c.args.names.now) c.loop-role.made _ c.args.raw.now c.loop-role.role-index c.role-item.result _ c.loop-role.invariant (omega arith) c.role-item.is (c.in-Some.ensures) c.in_ok-push-in-Some.ensures.ok

pub returns : goal.returns
returns c = loop_ends (role_named c.args.names.now) (roles_named c.args.names.now) (reads_roles c.args.names.now) c.loop-role.made c.args.raw.now c.loop-role.role-index c.loop-role.invariant (omega arith)
