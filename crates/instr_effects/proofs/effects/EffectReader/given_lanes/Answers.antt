use Rattle.std.proofs.Common.{ap, ◌∙◌, length}
use Rattle.instr_effects.specs.Numbered.{number_in}
use Rattle.instr_effects.proofs.Runs.{undef_run}
use Rattle.instr_effects.proofs.effects.EffectReader.given_lanes.Goals as goal

pub returns-then-op : goal.returns-then-op
returns-then-op c = undef_run (number_in c.args.self.lanes.now) c.args.self.target.now c.args.self.func.now c.args.op.now c.len.result c.if-op.true (c.len.ensures ∙ ap length c.operand_lanes-lanes.ensures)
