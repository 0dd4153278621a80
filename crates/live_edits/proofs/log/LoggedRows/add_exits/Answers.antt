use Rattle.std.proofs.Common.{◌≡◌, ◌++◌, ◌∷◌, [], ◌∙◌, ℕ, length, ap, arith}
use Rattle.std.proofs.lemmas.List.{length-map}
use Rattle.live_lanes.specs.declared.row.Cause.TheVariants as why
use Rattle.live_lanes.specs.Table.{Seen, begun, rises_from, seen_cell, unseen}
use Rattle.live_lanes.specs.Entered.{rows_seen}
use Rattle.live_lanes.proofs.Raised.{on-ok}
use Rattle.live_edits.specs.declared.pieces.Need.{Need}
use Rattle.live_edits.proofs.NeedLists.{exits-only, exits-all, last-among}
use Rattle.live_edits.proofs.log.LoggedRows.add_exits.Goals as goal

pub returns-in_default : goal.returns-in_default
returns-in_default c = λ rise.
    let s = c.args.spot in
    let rows = c.args.self.now.rows.rows.items in
    let none : unseen ≡ rows_seen rows s.lane c.args.before = rw c.in_default.is at c.find-near.ensures.seen in
    exits-only c.args.order.now.slots rows s.lane s.block c.args.before c.find-near.result.0 c.args.needs.now.items c.push.new.self.items c.args.terminators.now c.in_ok-push.ensures.items (ap (λ (v : Seen). length v.segments) none)

pub returns-then-index-eq0 : goal.returns-then-index-eq0
returns-then-index-eq0 c = λ rise.
    let s = c.args.spot in
    let rows = c.args.self.now.rows.rows.items in
    let from = c.args.needs.now.items in
    let last : ℕ → Need = λ k. record { spot = record { lane = s.lane; block = c.args.before; index = k; near = c.find-near.result.0 }; cause = why.Follower s.block } in
    let seen : seen_cell c.in-Some.cell.now ≡ rows_seen rows s.lane c.args.before = rw c.in-Some.is at c.find-near.ensures.seen in
    let count : length (seen_cell c.in-Some.cell.now).segments ≡ length (rows_seen rows s.lane c.args.before).segments = ap (λ (v : Seen). length v.segments) seen in
    exits-only c.args.order.now.slots rows s.lane s.block c.args.before c.find-near.result.0 from c.push-2.new.self.items c.args.terminators.now (c.in_ok-push-2.ensures.items ∙ ap (λ k. from ++ last k ∷ []) c.if-index-eq0.true)
    (omega (arith, c.if-index-eq0.true, c.len-index.ensures, length-map c.in-Some.cell.now.segments.items begun, count))

pub add_terminator_exits-requires : goal.add_terminator_exits-requires
add_terminator_exits-requires c =
    let s = c.args.spot in
    last-among c.args.needs.now.items c.push-2.new.self.items (record { spot = record { lane = s.lane; block = c.args.before; index = c.len-index.result; near = c.find-near.result.0 }; cause = why.Follower s.block }) c.in_ok-push-2.ensures.items

pub returns : goal.returns
returns c =
    let s = c.args.spot in
    let slots = c.args.order.now.slots in
    let rows = c.args.self.now.rows.rows.items in
    let cell = c.in-Some.cell.now in
    let seen : seen_cell cell ≡ rows_seen rows s.lane c.args.before = rw c.in-Some.is at c.find-near.ensures.seen in
    on-ok c.add_terminator_exits.result c.add_terminator_exits.ensures (λ h rise. exits-all slots rows s.lane s.block c.args.before c.find-near.result.0 c.args.needs.now.items c.push-2.new.self.items c.add_terminator_exits.new.needs.items c.len-index.result c.args.terminators.now (seen_cell cell) seen
    (omega (arith, c.len-index.ensures, length-map cell.segments.items begun)) c.in_ok-push-2.ensures.items
    (h (ap (λ (v : Seen). rises_from slots 0 v.segments) seen ∙ rise s.lane c.args.before)))
