use Rattle.std.proofs.Common.{◌≡◌, ◌<◌, ◌∙◌, List, None, length, get_or, take, ap, sym, subst, ◌+◌, arith}
use Rattle.instr_effects.specs.declared.lane_acts.LaneAct.{LaneAct}
use Rattle.instr_effects.proofs.Loops.{get-same}
use Rattle.live_edits.specs.ActChanges.{AddsFurther}
use Rattle.live_edits.proofs.ActChanges.{same-further, more-further}
use Rattle.live_edits.proofs.act_changes.add_further.Goals.{then-not-has_act+in_ok-push, else-not-has_act}
use Rattle.live_edits.proofs.act_changes.add_further.Goals as goal

pub acts-preserved : goal.acts-preserved
acts-preserved c =
    let none : LaneAct = record { lane = 0; read = None; write = None } in
    let before = c.args.before.now in
    let after = c.args.after.now in
    let old = c.args.changed.now.items in
    let mid = c.acts.changed.items in
    let new = c.if-not-has_act.changed.items in
    let k = c.acts.act-index in
    let x = get_or after k none in
    let within : k < length after = omega (arith, c.acts-test.true) in
    let own : x ≡ get_or after k x = get-same after k none x within in
    elim c.if-not-has_act.branch [
      | then-not-has_act+in_ok-push w ↦
          more-further before after old mid k x within own c.acts.invariant new (ap (λ v. v.items) w.changed-is ∙ w.in_ok-push.ensures.items)
      | else-not-has_act w ↦
          subst (λ (zs : List LaneAct). AddsFurther before (take (k + 1) after) old zs) (sym (ap (λ v. v.items) w.changed-is))
          (same-further before after old mid k x within own c.acts.invariant (sym c.has_act.ensures ∙ w.if-not-has_act.false))
    ]
