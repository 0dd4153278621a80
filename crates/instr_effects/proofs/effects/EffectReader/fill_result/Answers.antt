use Rattle.std.proofs.Common.{sym, ap, ◌∙◌, ◌++◌, flat_map}
use Rattle.instr_effects.specs.Numbered.{number_in}
use Rattle.instr_effects.specs.Runs.{one_writing}
use Rattle.instr_effects.proofs.Loops.{joined}
use Rattle.instr_effects.proofs.Runs.{result_run}
use Rattle.instr_effects.proofs.effects.EffectReader.fill_result.Goals as goal

pub returns : goal.returns
returns c =
    joined c.args.writes.now.items c.push_writings.new.writes.items c.push_writings-2.new.writes.items _ _
    (c.in_ok-push_writings.ensures ∙ ap (λ x. c.args.writes.now.items ++ flat_map (one_writing c.args.early) x) c.operand_lanes.ensures)
    (c.in_ok-push_writings-2.ensures ∙ ap (λ x. c.push_writings.new.writes.items ++ flat_map (one_writing c.args.early) x) c.other_lanes.ensures)
    ∙ ap (λ x. c.args.writes.now.items ++ x) (sym (result_run (number_in c.args.self.lanes.now) c.args.self.target.now c.args.self.func.now c.args.op.now c.args.early))
