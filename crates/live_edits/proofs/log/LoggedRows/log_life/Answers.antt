use Rattle.std.proofs.Common.{◌≡◌, ◌<◌, ◌++◌, ◌∷◌, [], length, ap, ◌∙◌, arith}
use Rattle.live_lanes.specs.Table.{Seen, seen_cell, cause_in, end_in}
use Rattle.live_lanes.specs.Entered.{rows_seen}
use Rattle.live_edits.specs.declared.log.Former.TheVariants as formers
use Rattle.live_edits.proofs.ChangedRows.{own-within, own-seen}
use Rattle.live_edits.proofs.log.LoggedRows.log_life.Goals as goal

pub index-requires-2 : goal.index-requires-2
index-requires-2 c =
    let rows = c.make_in.new.rows.rows.items in
    let here : c.args.spot.lane < length rows = omega (arith, c.requires, c.make_in.ensures.added.lanes) in
    let within = own-within rows c.args.spot.lane c.index.result.now here c.index.ensures c.args.spot.block c.in_ok-place.place c.in_ok-place.ensures.within c.in_ok-place.ensures.place in
    omega (arith, within, c.index.result.now.cells.ok.0)

pub returns-clause-life : goal.returns-clause-life
returns-clause-life c =
    let old = c.args.self.now.rows.rows.items in
    let rows = c.make_in.new.rows.rows.items in
    let spot = c.args.spot in
    let here : spot.lane < length rows = omega (arith, c.requires, c.make_in.ensures.added.lanes) in
    let own : seen_cell c.index-2.result.now ≡ rows_seen old spot.lane spot.block = own-seen rows spot.lane c.index.result.now here c.index.ensures spot.block c.in_ok-place.place c.in_ok-place.ensures.within c.in_ok-place.ensures.place c.index-2.result.now c.index-2.ensures ∙ c.make_in.ensures.added.seen spot.lane spot.block in
    record {
      rows = c.make_in.ensures.added;
      there = c.in_ok-place.ensures.there;
      list = c.in_ok-push.ensures.items ∙ ap (λ e. c.args.self.now.log.items ++ e ∷ []) (c.life_of-former.ensures ∙ ap (λ (v : Seen). formers.Life spot (cause_in v spot.index) (end_in v spot.index)) own);
    }
