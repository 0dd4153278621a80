use Rattle.std.proofs.Common.{◌≡◌, sym, ap, ◌∙◌, subst, eqb-true}
use Rattle.live_lanes.specs.Table.{Seen, cause_in, entry_rank, piece_at, rises_from, seen_cell}
use Rattle.live_lanes.specs.Entered.{rows_seen}
use Rattle.edit_laws.specs.Rechecked.{held_reading}
use Rattle.live_edits.specs.Updated.{LeadsOut}
use Rattle.live_edits.proofs.CellsSeen.{found-seen}
use Rattle.live_edits.proofs.Held.{untold, exit-held}
use Rattle.live_edits.proofs.log.LoggedRows.holds.Goals as goal

pub returns-else-contains-clause-held : goal.returns-else-contains-clause-held
returns-else-contains-clause-held c = λ touched told rise e.
    let spot = c.args.spot in
    let slots = c.args.order.now.slots in
    let v = seen_cell c.in-Some.cell.now in
    let seen : v ≡ rows_seen c.args.self.now.rows.rows.items spot.lane spot.block = found-seen c.args.self.now.rows.rows.items spot.lane spot.block c.in-Some.cell.now c.in-Some.ensures in
    let at : c.piece_at.result ≡ piece_at slots c.entry_rank-at.result v.segments = c.piece_at.ensures.piece (ap (λ (w : Seen). rises_from slots 0 w.segments) seen ∙ rise spot.lane spot.block) in
    held_reading c.in-Reading.id (ap (λ (w : Seen). cause_in w spot.index) (sym seen) ∙ (sym c.cause_in.ensures ∙ c.in-Reading.is))
    (λ a. untold touched c.args.ids.now.keys c.in-Reading.id c.contains.result told c.contains.ensures c.if-contains.false a spot.block)
    (ap (λ (w : Seen). piece_at slots (entry_rank slots c.in-Reading.id) w.segments) (sym seen) ∙ (ap (λ r. piece_at slots r v.segments) (sym c.entry_rank-at.ensures) ∙ (sym at ∙ eqb-true c.piece_at.result spot.index e)))

pub returns-in-Follower-clause-held : goal.returns-in-Follower-clause-held
returns-in-Follower-clause-held c = λ touched told rise e.
    let spot = c.args.spot in
    let slots = c.args.order.now.slots in
    let flow = c.args.flow.now in
    let rows = c.args.self.now.rows.rows.items in
    let seen : seen_cell c.in-Some.cell.now ≡ rows_seen rows spot.lane spot.block = found-seen rows spot.lane spot.block c.in-Some.cell.now c.in-Some.ensures in
    exit-held touched slots flow rows spot.lane spot.block spot.index c.in-Follower.field-0
    (ap (λ (w : Seen). cause_in w spot.index) (sym seen) ∙ (sym c.cause_in.ensures ∙ c.in-Follower.is))
    (subst (λ (w : Seen). LeadsOut slots flow w spot.block spot.index) seen ((c.has_exit.ensures (ap (λ (w : Seen). rises_from slots 0 w.segments) seen ∙ rise spot.lane spot.block)).0 e))
