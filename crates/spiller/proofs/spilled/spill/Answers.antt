use Rattle.std.proofs.Common.{◌≡◌, ◌+◌, ◌≤◌, length, refl, subst, sym, arith}
use Rattle.live_lanes.specs.declared.live.LiveFunc.{LiveFunc}
use Rattle.live_edits.proofs.DraftEdits.{any-err}
use Rattle.live_lanes.specs.Touching.{AreTouched}
use Rattle.spiller.specs.SlotMaps.{slots_of}
use Rattle.spiller.specs.Slots.{Slots}
use Rattle.spiller.specs.Spilled.{setting_of}
use Rattle.spiller.specs.Views.{planned}
use Rattle.spiller.specs.WholePlan.{whole_plan}
use Rattle.spiller.proofs.Spills.{count-is, none-left, too-many}
use Rattle.spiller.proofs.spilled.spill.Goals as goal

pub returns-clause-ok : goal.returns-clause-ok
returns-clause-ok c = λ facts now.
    let x : LiveFunc = c.args.m.now.live in
    let slots : Slots = slots_of c.args.slots.now in
    let room : length x.func.classes + length c.in_ok-plan.plan.classes.items ≤ 1048576 = c.has_room.ensures.room c.if-not-has_room.false in
    let touched : AreTouched x.table c.args.v c.as_slice.result.now = subst (AreTouched x.table c.args.v) (sym c.as_slice.ensures.value) (subst (λ (y : LiveFunc). AreTouched y.table c.args.v c.in_ok-touched.touched.items) c.live.ensures c.in_ok-touched.ensures) in
    let is : planned c.in_ok-plan.plan ≡ whole_plan (setting_of x.target x.func slots c.args.v facts) =
    subst (λ n. planned c.in_ok-plan.plan ≡ whole_plan (record { target = x.target; func = x.func; range = c.args.v; slot = n; facts = facts })) (c.own_slot.ensures now.free)
    (c.in_ok-plan.ensures facts now.may (omega (arith, room)) now.are_facts touched) in
    c.in_ok-do_plan.ensures.ok facts now is (omega (arith, room))

pub returns-clause-exact : goal.returns-clause-exact
returns-clause-exact c = λ facts now.
    let x : LiveFunc = c.args.m.now.live in
    let slots : Slots = slots_of c.args.slots.now in
    let room : length x.func.classes + length c.in_ok-plan.plan.classes.items ≤ 1048576 = c.has_room.ensures.room c.if-not-has_room.false in
    let touched : AreTouched x.table c.args.v c.as_slice.result.now = subst (AreTouched x.table c.args.v) (sym c.as_slice.ensures.value) (subst (λ (y : LiveFunc). AreTouched y.table c.args.v c.in_ok-touched.touched.items) c.live.ensures c.in_ok-touched.ensures) in
    let is : planned c.in_ok-plan.plan ≡ whole_plan (setting_of x.target x.func slots c.args.v facts) =
    subst (λ n. planned c.in_ok-plan.plan ≡ whole_plan (record { target = x.target; func = x.func; range = c.args.v; slot = n; facts = facts })) (c.own_slot.ensures now.free)
    (c.in_ok-plan.ensures facts now.may (omega (arith, room)) now.are_facts touched) in
    c.in_ok-do_plan.ensures.exact facts now is (omega (arith, room))

pub returns-clause-few : goal.returns-clause-few
returns-clause-few c = λ facts now.
    let x : LiveFunc = c.args.m.now.live in
    let slots : Slots = slots_of c.args.slots.now in
    let room : length x.func.classes + length c.in_ok-plan.plan.classes.items ≤ 1048576 = c.has_room.ensures.room c.if-not-has_room.false in
    let touched : AreTouched x.table c.args.v c.as_slice.result.now = subst (AreTouched x.table c.args.v) (sym c.as_slice.ensures.value) (subst (λ (y : LiveFunc). AreTouched y.table c.args.v c.in_ok-touched.touched.items) c.live.ensures c.in_ok-touched.ensures) in
    let is : planned c.in_ok-plan.plan ≡ whole_plan (setting_of x.target x.func slots c.args.v facts) =
    subst (λ n. planned c.in_ok-plan.plan ≡ whole_plan (record { target = x.target; func = x.func; range = c.args.v; slot = n; facts = facts })) (c.own_slot.ensures now.free)
    (c.in_ok-plan.ensures facts now.may (omega (arith, room)) now.are_facts touched) in
    let n = count-is x slots c.args.v facts now (planned c.in_ok-plan.plan) is in
    omega (arith, room, n)

pub returns-then-not-has_room-clause-ranges : goal.returns-then-not-has_room-clause-ranges
returns-then-not-has_room-clause-ranges c = λ stop facts now.
    let x : LiveFunc = c.args.m.now.live in
    let slots : Slots = slots_of c.args.slots.now in
    let touched : AreTouched x.table c.args.v c.as_slice.result.now = subst (AreTouched x.table c.args.v) (sym c.as_slice.ensures.value) (subst (λ (y : LiveFunc). AreTouched y.table c.args.v c.in_ok-touched.touched.items) c.live.ensures c.in_ok-touched.ensures) in
    too-many x slots c.args.v facts now (planned c.in_ok-plan.plan)
    (λ few. subst (λ n. planned c.in_ok-plan.plan ≡ whole_plan (record { target = x.target; func = x.func; range = c.args.v; slot = n; facts = facts })) (c.own_slot.ensures now.free) (c.in_ok-plan.ensures facts now.may few now.are_facts touched))
    (c.has_room.ensures.full c.if-not-has_room.true)

pub returns-clause-kept : goal.returns-clause-kept
returns-clause-kept c = λ facts now keeps clear.
    let x : LiveFunc = c.args.m.now.live in
    let slots : Slots = slots_of c.args.slots.now in
    let room : length x.func.classes + length c.in_ok-plan.plan.classes.items ≤ 1048576 = c.has_room.ensures.room c.if-not-has_room.false in
    let touched : AreTouched x.table c.args.v c.as_slice.result.now = subst (AreTouched x.table c.args.v) (sym c.as_slice.ensures.value) (subst (λ (y : LiveFunc). AreTouched y.table c.args.v c.in_ok-touched.touched.items) c.live.ensures c.in_ok-touched.ensures) in
    let is : planned c.in_ok-plan.plan ≡ whole_plan (setting_of x.target x.func slots c.args.v facts) =
    subst (λ n. planned c.in_ok-plan.plan ≡ whole_plan (record { target = x.target; func = x.func; range = c.args.v; slot = n; facts = facts })) (c.own_slot.ensures now.free)
    (c.in_ok-plan.ensures facts now.may (omega (arith, room)) now.are_facts touched) in
    c.in_ok-do_plan.ensures.kept facts now is (omega (arith, room)) keeps clear

pub returns-in_err-do_plan-clause-err : goal.returns-in_err-do_plan-clause-err
returns-in_err-do_plan-clause-err c = any-err c.from_residual-in_err-do_plan.result _ (λ facts now.
    let x : LiveFunc = c.args.m.now.live in
    let slots : Slots = slots_of c.args.slots.now in
    let room : length x.func.classes + length c.in_ok-plan.plan.classes.items ≤ 1048576 = c.has_room.ensures.room c.if-not-has_room.false in
    let touched : AreTouched x.table c.args.v c.as_slice.result.now = subst (AreTouched x.table c.args.v) (sym c.as_slice.ensures.value) (subst (λ (y : LiveFunc). AreTouched y.table c.args.v c.in_ok-touched.touched.items) c.live.ensures c.in_ok-touched.ensures) in
    let is : planned c.in_ok-plan.plan ≡ whole_plan (setting_of x.target x.func slots c.args.v facts) =
    subst (λ n. planned c.in_ok-plan.plan ≡ whole_plan (record { target = x.target; func = x.func; range = c.args.v; slot = n; facts = facts })) (c.own_slot.ensures now.free)
    (c.in_ok-plan.ensures facts now.may (omega (arith, room)) now.are_facts touched) in
    c.in_err-do_plan.ensures.err facts now is (omega (arith, room)))

pub returns-in_err-do_plan-clause-refused : goal.returns-in_err-do_plan-clause-refused
returns-in_err-do_plan-clause-refused c = any-err c.from_residual-in_err-do_plan.result _ (λ facts now keeps.
    let x : LiveFunc = c.args.m.now.live in
    let slots : Slots = slots_of c.args.slots.now in
    let room : length x.func.classes + length c.in_ok-plan.plan.classes.items ≤ 1048576 = c.has_room.ensures.room c.if-not-has_room.false in
    let touched : AreTouched x.table c.args.v c.as_slice.result.now = subst (AreTouched x.table c.args.v) (sym c.as_slice.ensures.value) (subst (λ (y : LiveFunc). AreTouched y.table c.args.v c.in_ok-touched.touched.items) c.live.ensures c.in_ok-touched.ensures) in
    let is : planned c.in_ok-plan.plan ≡ whole_plan (setting_of x.target x.func slots c.args.v facts) =
    subst (λ n. planned c.in_ok-plan.plan ≡ whole_plan (record { target = x.target; func = x.func; range = c.args.v; slot = n; facts = facts })) (c.own_slot.ensures now.free)
    (c.in_ok-plan.ensures facts now.may (omega (arith, room)) now.are_facts touched) in
    c.in_err-do_plan.ensures.refused facts now is (omega (arith, room)) keeps)

pub returns-in_err-touched-clause-err : goal.returns-in_err-touched-clause-err
returns-in_err-touched-clause-err c = any-err c.from_residual.result _ (λ facts now. none-left c.args.m.now.live (slots_of c.args.slots.now) c.args.v facts now (slots_of c.args.slots.now) refl)

pub returns-in_err-touched-clause-refused : goal.returns-in_err-touched-clause-refused
returns-in_err-touched-clause-refused c = any-err c.from_residual.result _ (λ facts now keeps. keeps)

pub returns-in_err-plan-clause-err : goal.returns-in_err-plan-clause-err
returns-in_err-plan-clause-err c = any-err c.from_residual-in_err-plan.result _ (λ facts now. none-left c.args.m.now.live (slots_of c.args.slots.now) c.args.v facts now (slots_of c.args.slots.now) refl)

pub returns-in_err-plan-clause-refused : goal.returns-in_err-plan-clause-refused
returns-in_err-plan-clause-refused c = any-err c.from_residual-in_err-plan.result _ (λ facts now keeps. keeps)

pub returns-then-not-has_room-clause-err : goal.returns-then-not-has_room-clause-err
returns-then-not-has_room-clause-err c = λ facts now. none-left c.args.m.now.live (slots_of c.args.slots.now) c.args.v facts now (slots_of c.args.slots.now) refl

pub returns-then-not-has_room-clause-refused : goal.returns-then-not-has_room-clause-refused
returns-then-not-has_room-clause-refused c = λ facts now keeps. keeps
