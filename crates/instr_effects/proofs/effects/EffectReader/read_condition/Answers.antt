use Rattle.std.proofs.Common.{sym, ap, ◌∙◌, ◌++◌, append-nil}
use Rattle.instr_effects.specs.Numbered.{number_in}
use Rattle.std.proofs.Common.{◌≡◌, None, nat_abs}
use Rattle.meaning.specs.Perform.{condition_lane}
use Rattle.mir_func.specs.Binding.{immediate_of}
use Rattle.instr_effects.proofs.CountedParts.{untested, is_none_none}
use Rattle.instr_effects.proofs.effects.EffectReader.read_condition.Goals as goal

pub returns-then-is_none : goal.returns-then-is_none
returns-then-is_none c =
    let none : c.args.tested ≡ None = is_none_none c.args.tested c.if-is_none.ensures in
    sym (append-nil c.args.reads.now.items) ∙ ap (λ x. c.args.reads.now.items ++ x) (sym (untested c.args.self.target.now c.args.self.func.now (number_in c.args.self.lanes.now) c.args.tested (condition_lane (nat_abs (immediate_of c.args.operands.now))) c.args.operands.now none))
