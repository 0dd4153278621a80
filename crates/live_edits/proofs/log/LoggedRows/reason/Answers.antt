use Rattle.std.proofs.Common.{◌≡◌, refl, sym, ap, subst}
use Rattle.std.specs.Prelude.{find}
use Rattle.live_lanes.specs.declared.row.Cause.TheVariants as reasons
use Rattle.live_lanes.specs.Table.{unseen, cause_of}
use Rattle.live_lanes.specs.Entered.{rows_seen}
use Rattle.live_edits.specs.Leading.{moves_on}
use Rattle.live_edits.specs.Updated.{LeadsOut}
use Rattle.live_edits.proofs.AskFound.{none-found}
use Rattle.live_edits.proofs.CellsSeen.{found-seen, none-seen, none-dead, none-read, none-certain, unseen-leads, unseen-first}
use Rattle.live_edits.proofs.log.LoggedRows.reason.Goals as goal

pub reason_in-requires : goal.reason_in-requires
reason_in-requires c = found-seen c.args.self.now.rows.rows.items c.args.spot.lane c.args.spot.block c.in-Some.cell.now c.in-Some.ensures

pub returns-in-None-clause-dead : goal.returns-in-None-clause-dead
returns-in-None-clause-dead c = λ live.
    let s = c.args.spot in
    let rows = c.args.self.now.rows.rows.items in
    none-dead rows s.lane s.block s.index (none-seen rows s.lane s.block c.in-None.ensures)

pub returns-in-None-clause-found : goal.returns-in-None-clause-found
returns-in-None-clause-found c = λ rise live.
    let s = c.args.spot in
    let slots = c.args.order.now.slots in
    let flow = c.args.flow.now in
    let none : unseen ≡ rows_seen c.args.self.now.rows.rows.items s.lane s.block = none-seen c.args.self.now.rows.rows.items s.lane s.block c.in-None.ensures in
    c.follower_cause.ensures.found slots (λ e. subst (λ v. LeadsOut slots flow v s.block s.index) none (unseen-leads slots flow s.block s.index e)) live

pub returns-in-None-clause-whole : goal.returns-in-None-clause-whole
returns-in-None-clause-whole c = λ rise dead stays.
    let s = c.args.spot in
    let slots = c.args.order.now.slots in
    let flow = c.args.flow.now in
    let rows = c.args.self.now.rows.rows.items in
    let none : unseen ≡ rows_seen rows s.lane s.block = none-seen rows s.lane s.block c.in-None.ensures in
    none-found slots flow rows s.lane s.block s.index reasons.None reasons.None (none-certain rows s.lane s.block s.index none) refl
    (c.follower_cause.ensures.whole slots (λ out. unseen-first slots flow s.block s.index (subst (λ v. LeadsOut slots flow v s.block s.index) (sym none) out)) stays)
    (sym (ap (λ rs. cause_of (find (moves_on slots rows s.block) rs)) (none-read rows s.lane s.block s.index none))) refl
