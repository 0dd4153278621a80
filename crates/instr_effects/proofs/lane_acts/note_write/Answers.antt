use Rattle.std.proofs.Common.{ap, ◌∙◌, Some}
use Rattle.instr_effects.specs.LaneActs.{act_on, add_write}
use Rattle.instr_effects.proofs.LaneActs.{write-noted}
use Rattle.instr_effects.proofs.lane_acts.note_write.Goals as goal

pub returns-clause-told : goal.returns-clause-told
returns-clause-told c =
    write-noted c.args.acts.now.items c.put_act.new.acts.items c.args.lane c.with_write.result c.args.write
    (c.with_write.ensures ∙ ap (λ a. add_write a (Some c.args.write)) (c.act_on-act.ensures ∙ ap (λ acts. act_on acts c.args.lane) c.as_slice.ensures.value))
    c.in_ok-put_act.ensures.told
