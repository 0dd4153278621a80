use Rattle.std.proofs.Common.{◌∙◌, sym, refl}
use Rattle.mir_interp.proofs.Performing.{pure_empty, perform_jumping, perform_idle}
use Rattle.mir_interp.proofs.perform.Executor.compute.Goals as goal

pub returns-in-Jumping : goal.returns-in-Jumping
returns-in-Jumping g c = λ n env h o r. pure_empty _ _ o _ c.new-jumped.ensures (perform_jumping c.args.self.now.rest.now c.args.self.now.rest.now.effect env o _ refl (sym c.requires ∙ c.in-Jumping.is))

pub returns-in-Idle : goal.returns-in-Idle
returns-in-Idle g c = λ n env h o r. pure_empty _ _ o _ c.new-idle.ensures (perform_idle c.args.self.now.rest.now c.args.self.now.rest.now.effect env o _ refl (sym c.requires ∙ c.in-Idle.is))
