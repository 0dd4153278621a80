use Rattle.std.proofs.Common.{◌<◌, ◌≤◌, ◌++◌, ◌∷◌, ◌∙◌, cond, [], None, length, get_or, sym, ap, arith, eqb-true}
use Rattle.instr_effects.specs.declared.lane_acts.LaneAct.{LaneAct}
use Rattle.live_edits.specs.Aside.{is_aside}
use Rattle.live_edits.proofs.AsideActs.{acts-left, more-own, none-out, none-yet}
use Rattle.live_edits.proofs.edit_run.EditRun.own_acts.Goals as goal

pub returns-then-is_empty : goal.returns-then-is_empty
returns-then-is_empty c =
    let aside = c.args.self.now.aside in
    none-out aside.items c.args.acts.items (sym aside.ok.0 ∙ eqb-true aside.len 0 (sym c.is_empty.ensures ∙ c.if-is_empty.true))

pub acts-init : goal.acts-init
acts-init c = none-yet c.args.self.now.aside.items c.args.acts.items c.in_ok-own.own.items c.in_ok-own.ensures.items

pub acts-preserved : goal.acts-preserved
acts-preserved c =
    let aside = c.args.self.now.aside.items in
    let same = c.as_slice-act-items.ensures.value in
    let none : LaneAct = record { lane = 0; read = None; write = None } in
    let within : c.acts.act-index < length c.args.acts.items = omega (arith, c.acts-test.true, ap length same) in
    more-own aside c.args.acts.items c.acts.own.items c.acts.act-index none within c.acts.invariant c.add_own.new.own.items
    (c.in_ok-add_own.ensures ∙ ap (λ xs. cond (is_aside aside (get_or xs c.acts.act-index none).lane) c.acts.own.items (c.acts.own.items ++ get_or xs c.acts.act-index none ∷ [])) same)

pub returns : goal.returns
returns c =
    let past : length c.args.acts.items ≤ c.acts.act-index = omega (arith, ap length c.as_slice-act-items.ensures.value) in
    acts-left c.args.self.now.aside.items c.args.acts.items c.acts.own.items c.acts.act-index past c.acts.invariant
