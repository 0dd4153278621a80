use Rattle.std.proofs.Common.{◌∙◌, sym, arith}
use Rattle.target_desc.proofs.Shaped.{shape_stops}
use Rattle.target_desc.proofs.roles.have_shape.Goals as goal

pub returns-in-empty : goal.returns-in-empty
returns-in-empty c = sym (c.loop-test.invariant ∙ shape_stops c.args.tests.now c.loop-test.test-index c.loop-test.rest.now (omega arith) c.in-empty.len_below)
