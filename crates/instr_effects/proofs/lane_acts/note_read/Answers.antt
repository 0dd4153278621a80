use Rattle.std.proofs.Common.{ap, ◌∙◌, Some}
use Rattle.instr_effects.specs.LaneActs.{act_on, add_read}
use Rattle.instr_effects.proofs.LaneActs.{read-noted}
use Rattle.instr_effects.proofs.lane_acts.note_read.Goals as goal

pub returns-clause-told : goal.returns-clause-told
returns-clause-told c =
    read-noted c.args.acts.now.items c.put_act.new.acts.items c.args.lane c.with_read.result c.args.read
    (c.with_read.ensures ∙ ap (λ a. add_read a (Some c.args.read)) (c.act_on-act.ensures ∙ ap (λ acts. act_on acts c.args.lane) c.as_slice.ensures.value))
    c.in_ok-put_act.ensures.told
