use Rattle.std.proofs.Common.{arith}
use Rattle.target_base.specs.Rules.{regs_of_some}
use Rattle.instr_effects.proofs.ItemLemmas.Targets.{few_lanes_of}
use Rattle.instr_effects.proofs.items.lanes.range_units.Goals as goal

pub returns-clause-few : goal.returns-clause-few
returns-clause-few c = let few = few_lanes_of c.args.t.now (regs_of_some c.args.t.now.classes c.class_of.result) in rw c.class_units.ensures (omega (arith, few))
