use Rattle.std.proofs.Common.{ap, ◌∙◌}
use Rattle.instr_effects.specs.Acts.{acts_of, silent_acts}
use Rattle.instr_effects.specs.Numbered.{number_in}
use Rattle.instr_effects.specs.Steps.{act_readings}
use Rattle.instr_effects.proofs.SilentParts.{nothing-added, undefined_readings, whole_readings}
use Rattle.instr_effects.proofs.effects.EffectReader.write_silently.Goals as goal

pub returns-in_ok-undefine-in-Phi-clause-reads : goal.returns-in_ok-undefine-in-Phi-clause-reads
returns-in_ok-undefine-in-Phi-clause-reads c =
    let t = c.args.self.target.now in
    let f = c.args.self.func.now in
    let num = number_in c.args.self.lanes.now in
    nothing-added c.args.effects.now.reads.items _ (ap (λ e. act_readings num (acts_of (silent_acts t f e c.args.early c.args.operands.now))) c.in-Phi.is ∙ undefined_readings t f num c.args.operands.now)

pub returns-in_ok-undefine-in-ImplicitDef-clause-reads : goal.returns-in_ok-undefine-in-ImplicitDef-clause-reads
returns-in_ok-undefine-in-ImplicitDef-clause-reads c =
    let t = c.args.self.target.now in
    let f = c.args.self.func.now in
    let num = number_in c.args.self.lanes.now in
    nothing-added c.args.effects.now.reads.items _ (ap (λ e. act_readings num (acts_of (silent_acts t f e c.args.early c.args.operands.now))) c.in-ImplicitDef.is ∙ undefined_readings t f num c.args.operands.now)

pub returns-in_ok-put_together-in-RegSequence-clause-reads : goal.returns-in_ok-put_together-in-RegSequence-clause-reads
returns-in_ok-put_together-in-RegSequence-clause-reads c =
    let t = c.args.self.target.now in
    let f = c.args.self.func.now in
    let num = number_in c.args.self.lanes.now in
    nothing-added c.args.effects.now.reads.items _ (ap (λ e. act_readings num (acts_of (silent_acts t f e c.args.early c.args.operands.now))) c.in-RegSequence.is ∙ whole_readings t f num c.args.operands.now)

pub returns-in_ok-put_together-in-InsertSubreg-clause-reads : goal.returns-in_ok-put_together-in-InsertSubreg-clause-reads
returns-in_ok-put_together-in-InsertSubreg-clause-reads c =
    let t = c.args.self.target.now in
    let f = c.args.self.func.now in
    let num = number_in c.args.self.lanes.now in
    nothing-added c.args.effects.now.reads.items _ (ap (λ e. act_readings num (acts_of (silent_acts t f e c.args.early c.args.operands.now))) c.in-InsertSubreg.is ∙ whole_readings t f num c.args.operands.now)
