use Rattle.valid_laws.proofs.SlotEffects.{slots-by-effect}
use Rattle.valid_laws.proofs.slot_effects_law.Goals as goal

pub returns : goal.returns
returns c = slots-by-effect
