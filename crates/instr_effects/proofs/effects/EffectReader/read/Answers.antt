use Rattle.std.proofs.Common.{sym, ap, ◌∙◌, ◌++◌, append-nil}
use Rattle.instr_effects.specs.Numbered.{number_in}
use Rattle.instr_effects.proofs.Runs.{read_none}
use Rattle.instr_effects.proofs.effects.EffectReader.read.Goals as goal

pub returns-then-op : goal.returns-then-op
returns-then-op c = sym (append-nil c.args.reads.now.items) ∙ ap (λ x. c.args.reads.now.items ++ x) (sym (read_none (number_in c.args.self.lanes.now) c.args.self.target.now c.args.self.func.now c.args.op.now c.if-op.true))
