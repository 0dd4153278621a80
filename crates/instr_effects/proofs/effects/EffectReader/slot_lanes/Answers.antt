use Rattle.std.proofs.Common.{sym, ap, ◌∙◌, map}
use Rattle.target_base.specs.Registers.{lanes_of}
use Rattle.mir_meaning.specs.Registers.{numbers}
use Rattle.instr_effects.specs.declared.owner.Owner.TheVariants as owners
use Rattle.instr_effects.specs.Acts.{slot_numbers}
use Rattle.instr_effects.specs.Numbered.{number_in}
use Rattle.instr_effects.specs.Row.{lane_in}
use Rattle.instr_effects.proofs.SilentParts.{slot_run, first_numbers}
use Rattle.instr_effects.proofs.effects.EffectReader.slot_lanes.Goals as goal

pub returns-in-Index : goal.returns-in-Index
returns-in-Index c =
    let t = c.args.self.target.now in
    let x = c.of_slot-own.result in
    ap (map (lane_in x.first x.count)) c.lanes_at.ensures
    ∙ slot_run x c.args.self.lanes.now c.args.slot c.of_slot-own.ensures (lanes_of t c.in-Index.x)
    ∙ ap (λ o. map (number_in c.args.self.lanes.now) (map (owners.Slot c.args.slot) (slot_numbers t c.args.count o))) (sym c.in-Index.is)

pub returns-in_default : goal.returns-in_default
returns-in_default c =
    slot_run c.of_slot-own.result c.args.self.lanes.now c.args.slot c.of_slot-own.ensures (numbers 0 c.args.count)
    ∙ ap (λ ks. map (number_in c.args.self.lanes.now) (map (owners.Slot c.args.slot) ks)) (first_numbers c.args.self.target.now c.args.count c.args.lanes.now c.in_default.not-Index)
