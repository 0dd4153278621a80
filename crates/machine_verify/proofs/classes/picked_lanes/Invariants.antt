use Rattle.std.proofs.Common.{◌≡◌, ◌++◌, drop}
use Rattle.std.specs.Prelude.{flat_map}
use Rattle.target_base.specs.Registers.{lanes_of}
use Rattle.mir_meaning.specs.Rules.{index_of}
use Rattle.machine_verify.proofs.classes.picked_lanes.Given as goal

abbrev pub invariant-loop-o : goal.invariant-loop-o
invariant-loop-o l =
    l.made.items ++ flat_map (lanes_of l.target) (flat_map index_of (drop l.o-index l.operands))
    ≡ flat_map (lanes_of l.target) (flat_map index_of l.operands)
