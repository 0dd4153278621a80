use Rattle.std.proofs.Common.{◌≡◌, true, sym, ap, ◌∙◌, subst}
use Rattle.std.specs.Prelude.{find}
use Rattle.live_lanes.specs.Table.{readings_in, rises_from, seen_cell, cause_of, certain_cause}
use Rattle.live_edits.specs.Leading.{moves_on}
use Rattle.live_edits.specs.Updated.{LeadsOut}
use Rattle.live_edits.proofs.AskFound.{certain-found, moved-found, none-found}
use Rattle.live_edits.proofs.log.LoggedRows.reason_in.Goals as goal

pub returns-then-is_live-2-clause-found : goal.returns-then-is_live-2-clause-found
returns-then-is_live-2-clause-found c = λ rise live.
    let s = c.args.spot in
    certain-found c.args.order.now.slots c.args.flow.now c.args.self.now.rows.rows.items s.lane s.block s.index c.certain_cause-certain.result
    (c.certain_cause-certain.ensures ∙ ap (λ v. certain_cause v s.index) c.requires) live

pub returns-then-is_live-3-clause-found : goal.returns-then-is_live-3-clause-found
returns-then-is_live-3-clause-found c = λ rise live.
    let s = c.args.spot in
    let slots = c.args.order.now.slots in
    let flow = c.args.flow.now in
    let rises : rises_from slots 0 (seen_cell c.args.cell.now).segments ≡ true = ap (λ v. rises_from slots 0 v.segments) c.requires ∙ rise s.lane s.block in
    c.follower_cause-follower.ensures.found slots (λ e. subst (λ v. LeadsOut slots flow v s.block s.index) c.requires ((c.has_exit.ensures rises).0 e)) live

pub returns-clause-found : goal.returns-clause-found
returns-clause-found c = λ rise live.
    let s = c.args.spot in
    let slots = c.args.order.now.slots in
    let rows = c.args.self.now.rows.rows.items in
    moved-found slots c.args.flow.now rows s.lane s.block s.index c.moving_cause.result
    (c.moving_cause.ensures rise ∙ ap (λ rs. cause_of (find (moves_on slots rows s.block) rs)) (c.readings_in.ensures ∙ ap (λ v. readings_in v s.index) c.requires)) live

pub returns-clause-whole : goal.returns-clause-whole
returns-clause-whole c = λ rise dead none.
    let s = c.args.spot in
    let slots = c.args.order.now.slots in
    let flow = c.args.flow.now in
    let rows = c.args.self.now.rows.rows.items in
    let rises : rises_from slots 0 (seen_cell c.args.cell.now).segments ≡ true = ap (λ v. rises_from slots 0 v.segments) c.requires ∙ rise s.lane s.block in
    none-found slots flow rows s.lane s.block s.index c.certain_cause-certain.result c.moving_cause.result
    (c.certain_cause-certain.ensures ∙ ap (λ v. certain_cause v s.index) c.requires) (sym c.is_live-2.ensures ∙ c.if-is_live-2.false)
    (c.follower_cause-follower.ensures.whole slots (λ out. (c.has_exit.ensures rises).1 (subst (λ v. LeadsOut slots flow v s.block s.index) (sym c.requires) out)) (sym c.is_live-3.ensures ∙ c.if-is_live-3.false))
    (c.moving_cause.ensures rise ∙ ap (λ rs. cause_of (find (moves_on slots rows s.block) rs)) (c.readings_in.ensures ∙ ap (λ v. readings_in v s.index) c.requires)) none
