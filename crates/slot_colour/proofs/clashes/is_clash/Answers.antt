use Rattle.std.proofs.Common.{◌≡◌, Option, Some, None, sym, ap, ◌∙◌}
use Rattle.std.specs.List.{list_any}
use Rattle.std.specs.Ordering.{nat_cmp}
use Rattle.std.specs.BTreeMap.{get}
use Rattle.instr_effects.specs.declared.row.LaneSpan.{LaneSpan}
use Rattle.slot_colour.specs.Clashes.{do_meet, lanes_in, numbers_in, slot_lanes}
use Rattle.slot_colour.proofs.Meeting.{meets-no-others}
use Rattle.slot_colour.proofs.clashes.is_clash.Goals as goal

pub returns-in-None-lanes_of_slot : goal.returns-in-None-lanes_of_slot
returns-in-None-lanes_of_slot c = λ ordered.
    let x = c.args.live.now.table in
    let none : get nat_cmp x.lanes.slots c.args.r ≡ None = sym c.lanes_of_slot-in-Some.ensures ∙ c.in-None-lanes_of_slot.is in
    meets-no-others x (slot_lanes x c.args.s) ∙ ap (λ (q : Option LaneSpan). list_any (λ one. list_any (do_meet x one) (lanes_in q)) (slot_lanes x c.args.s)) (sym none)

pub returns-in-Some-lanes_of_slot : goal.returns-in-Some-lanes_of_slot
returns-in-Some-lanes_of_slot c = λ ordered.
    let x = c.args.live.now.table in
    let these : get nat_cmp x.lanes.slots c.args.s ≡ Some c.in-Some.these = sym c.lanes_of_slot.ensures ∙ c.in-Some.is in
    let those : get nat_cmp x.lanes.slots c.args.r ≡ Some c.in-Some-lanes_of_slot.those = sym c.lanes_of_slot-in-Some.ensures ∙ c.in-Some-lanes_of_slot.is in
    c.some_meet.ensures ordered
    ∙ ap (λ (q : Option LaneSpan). list_any (λ one. list_any (do_meet x one) (numbers_in c.in-Some-lanes_of_slot.those)) (lanes_in q)) (sym these)
    ∙ ap (λ (q : Option LaneSpan). list_any (λ one. list_any (do_meet x one) (lanes_in q)) (slot_lanes x c.args.s)) (sym those)
