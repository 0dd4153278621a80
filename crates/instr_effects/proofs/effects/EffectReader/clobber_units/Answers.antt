use Rattle.std.proofs.Common.{◌∙◌}
use Rattle.instr_effects.specs.Numbered.{number_in}
use Rattle.instr_effects.specs.Runs.{unit_clobbered}
use Rattle.instr_effects.proofs.CountedParts.{units_more}
use Rattle.instr_effects.proofs.effects.EffectReader.clobber_units.Goals as goal

pub units-preserved : goal.units-preserved
units-preserved c =
    c.in_ok-clobber_unit.ensures
    ∙ units_more (unit_clobbered c.args.self.target.now (number_in c.args.self.lanes.now) c.args.operands.now) c.args.writes.now.items c.units.writes.items c.units.u c.units.invariant
