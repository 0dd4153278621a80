use Rattle.std.proofs.Common.{◌∙◌, sym, ap}
use Rattle.std.proofs.lemmas.Bool.{eq-eqb}
use Rattle.std.specs.Prelude.{◌&&◌}
use Rattle.target_base.specs.Storage.{same_numbers}
use Rattle.mir_meaning.specs.Registers.{operand_widths, slot_lane_numbers}
use Rattle.spiller.specs.Setting.{own_lanes, lanes_named}
use Rattle.spiller.specs.Views.{spilling_of}
use Rattle.spiller.proofs.FirstLanes.{own-widths}
use Rattle.spiller.proofs.places.is_own_slot.Goals as goal

pub returns-then-part-view : goal.returns-then-part-view
returns-then-part-view c facts own =
    let s = spilling_of c.args.view c.args.view.slot facts in
    let o = c.args.register.now in
    let widths = operand_widths s.target s.func o in
    c.name_own_lanes.ensures c.args.view.slot facts widths (own-widths s o.loc o.index own)
    ∙ sym (ap (λ b. b && same_numbers (slot_lane_numbers s.target widths (lanes_named c.args.part.index)) (own_lanes s o.index)) (eq-eqb c.args.part.slot c.args.view.slot c.if-part-view.true))
