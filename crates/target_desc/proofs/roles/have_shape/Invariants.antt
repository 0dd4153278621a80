use Rattle.std.proofs.Common.{◌≡◌, drop, map}
use Rattle.target_base.specs.Roles.{has_shape}
use Rattle.target_desc.specs.Shapes.{passes}
use Rattle.target_desc.proofs.roles.have_shape.Given as goal

abbrev pub invariant-loop-test : goal.invariant-loop-test
invariant-loop-test l = has_shape (map passes l.tests) l.rs ≡ has_shape (map passes (drop l.test-index l.tests)) l.rest
