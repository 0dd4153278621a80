use Rattle.std.proofs.Common.{◌≡◌, ◌<◌, ◌++◌, ◌∷◌, ◌∙◌, [], List, None, length, get_or, take, ap, sym, subst, ◌+◌, arith}
use Rattle.instr_effects.specs.declared.lane_acts.LaneAct.{LaneAct}
use Rattle.instr_effects.proofs.Loops.{get-same}
use Rattle.live_edits.specs.ActChanges.{AddsFormer}
use Rattle.live_edits.proofs.ActChanges.{same-former, more-former}
use Rattle.live_edits.proofs.act_changes.add_former.Goals.{then-not-same_act+in_ok-push, else-not-same_act}
use Rattle.live_edits.proofs.act_changes.add_former.Goals as goal

pub acts-preserved : goal.acts-preserved
acts-preserved c =
    let none : LaneAct = record { lane = 0; read = None; write = None } in
    let before = c.args.before.now in
    let after = c.args.after.now in
    let old = c.args.changed.now.items in
    let mid = c.acts.changed.items in
    let new = c.if-not-same_act.changed.items in
    let k = c.acts.act-index in
    let x = get_or before k none in
    let within : k < length before = omega (arith, c.acts-test.true) in
    let own : x ≡ get_or before k x = get-same before k none x within in
    elim c.if-not-same_act.branch [
      | then-not-same_act+in_ok-push w ↦
          more-former before after old mid k x within own c.acts.invariant new
          (ap (λ v. v.items) w.changed-is ∙ (w.in_ok-push.ensures.items ∙ ap (λ (a : LaneAct). mid ++ a ∷ []) c.act_on-now.ensures))
      | else-not-same_act w ↦
          subst (λ (zs : List LaneAct). AddsFormer (take (k + 1) before) after old zs) (sym (ap (λ v. v.items) w.changed-is))
          (same-former before after old mid k x within own c.acts.invariant (c.same_act.ensures.same w.if-not-same_act.false ∙ c.act_on-now.ensures))
    ]
