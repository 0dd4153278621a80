use Rattle.std.proofs.Common.{sym, ap, ap₂, ◌∙◌, map}
use Rattle.target_base.specs.declared.types.Unit.{Unit as UnitNumber}
use Rattle.target_base.specs.Registers.{units_of}
use Rattle.instr_effects.specs.Numbered.{number_in}
use Rattle.instr_effects.specs.Numbers.{unit_number_in}
use Rattle.instr_effects.specs.Owners.{located_owners}
use Rattle.instr_effects.proofs.Runs.{unit_run}
use Rattle.instr_effects.proofs.effects.EffectReader.location_lanes.Goals as goal

pub returns-in-Fixed : goal.returns-in-Fixed
returns-in-Fixed c =
    ap₂ (λ r us. map (λ (u : UnitNumber). unit_number_in r u.0) us) c.as_slice.ensures.value c.units_at.ensures
    ∙ unit_run c.args.self.lanes.now (units_of c.args.self.target.now c.in-Fixed.r)
    ∙ ap (λ l. map (number_in c.args.self.lanes.now) (located_owners c.args.self.target.now c.args.self.func.now l c.args.index)) (sym c.in-Fixed.is)
