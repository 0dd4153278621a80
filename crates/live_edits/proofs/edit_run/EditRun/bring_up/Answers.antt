use Rattle.std.proofs.Common.{◌≡◌, List, length, sym, ap, subst, ◌∙◌}
use Rattle.mir_meaning.specs.Paths.{Among}
use Rattle.live_lanes.specs.Entered.{rows_seen}
use Rattle.live_lanes.proofs.Numbered.{among-left, among-right}
use Rattle.instr_effects.specs.Numbered.{number_in}
use Rattle.live_lanes.specs.Lasting.{AllRise}
use Rattle.live_lanes.specs.declared.table.LaneRanges.{LaneRanges}
use Rattle.live_edits.specs.declared.cells.CellNotes.{CellNotes}
use Rattle.live_edits.specs.declared.notes.TouchedInstr.{TouchedInstr}
use Rattle.live_lanes.specs.declared.compute.flow.BlockFlow.{BlockFlow}
use Rattle.live_edits.specs.declared.pieces.PieceSpot.{PieceSpot}
use Rattle.live_edits.specs.EditedRuns.{AreBelow}
use Rattle.live_edits.specs.Noted.{HasNotes, TellLatest}
use Rattle.live_edits.specs.Pieces.{nodes_of}
use Rattle.live_edits.specs.Remade.{RemakesAll}
use Rattle.live_edits.specs.Runs.{AreSuspects, HasIds}
use Rattle.live_edits.specs.Updated.{Updates}
use Rattle.live_edits.proofs.Logged.{logged-alike, logged-then, logged-behind}
use Rattle.live_edits.proofs.edit_run.EditRun.bring_up.Goals as goal

pub returns-clause-brings : goal.returns-clause-brings
returns-clause-brings c =
    let old = c.args.self.now in
    let f = old.draft.func in
    let num = number_in old.lanes in
    let gone = old.gone.keys in
    let slots = old.draft.order.slots in
    let all = c.in_ok-all.all.items in
    let rows = old.rows.rows.rows.items in
    let made = c.remake_all.new.self.rows.rows.items in
    let rows' = c.update.new.self.rows.rows.items in
    let suspects = c.in_ok-suspects.suspects.items in
    let told = c.in_ok-ids.ids.keys in
    let remade = subst (λ (xs : List CellNotes). RemakesAll slots rows made xs) c.as_slice-3.ensures.value (subst (λ (r : LaneRanges). RemakesAll slots r.rows.items made c.as_slice-3.result.now) c.make_room.ensures.rows c.in_ok-remake_all.ensures.remade) in
    let suspected = λ (r : AllRise slots made). subst (λ (xs : List CellNotes). AreSuspects slots made xs (nodes_of suspects)) c.as_slice-4.ensures.value (c.in_ok-suspects.ensures r) in
    let telling = subst (λ (xs : List TouchedInstr). HasIds xs told) c.as_slice-5.ensures.value c.in_ok-ids.ensures in
    let count : c.len.result ≡ length rows = c.len.ensures ∙ old.rows.rows.rows.ok.0 in
    let below : AreBelow (length rows) all = subst (λ (xs : List CellNotes). AreBelow (length rows) xs) c.as_slice-2.ensures.value (subst (λ n. AreBelow n c.as_slice-2.result.now) count (c.are_below.ensures c.if-not-are_below.false)) in
    λ t tell. record {
      all = all;
      notes = subst (λ (xs : List TouchedInstr). HasNotes t f num gone xs all) c.as_slice.ensures.value (c.in_ok-all.ensures t f num gone (subst (TellLatest t f num gone) (sym c.as_slice.ensures.value) tell));
      there = below;
      made = made;
      remade = remade;
      made_lanes = c.remake_all.ensures.logged.lanes ∙ ap (λ (r : LaneRanges). length r.rows.items) c.make_room.ensures.rows;
      suspects = suspects;
      suspected = suspected;
      told = told;
      telling = telling;
      updated = subst (λ (w : List BlockFlow). Updates told slots w made rows' suspects) c.as_slice-6.ensures.value (subst (λ (xs : List PieceSpot). Updates told slots c.as_slice-6.result.now made rows' xs) c.as_slice-7.ensures.value c.in_ok-update.ensures.updates);
      lanes = c.update.ensures.logged.logged.lanes;
    }

-- room for the log comes first, and then the cells are made
pub returns-clause-logged : goal.returns-clause-logged
returns-clause-logged c = logged-then c.args.self.now.rows c.remake_all.new.self c.update.new.self (logged-behind c.args.self.now.rows c.make_room.new.self c.remake_all.new.self c.make_room.ensures.rows c.make_room.ensures.log c.remake_all.ensures.logged) c.update.ensures.logged.logged

pub returns-in_err-update-clause-logged : goal.returns-in_err-update-clause-logged
returns-in_err-update-clause-logged c = logged-then c.args.self.now.rows c.remake_all.new.self c.update.new.self (logged-behind c.args.self.now.rows c.make_room.new.self c.remake_all.new.self c.make_room.ensures.rows c.make_room.ensures.log c.remake_all.ensures.logged) c.update.ensures.logged.logged

pub returns-in_err-make_room-clause-logged : goal.returns-in_err-make_room-clause-logged
returns-in_err-make_room-clause-logged c = logged-alike c.args.self.now.rows c.make_room.new.self c.make_room.ensures.rows c.make_room.ensures.log

pub returns-in_err-remake_all-clause-logged : goal.returns-in_err-remake_all-clause-logged
returns-in_err-remake_all-clause-logged c = logged-behind c.args.self.now.rows c.make_room.new.self c.remake_all.new.self c.make_room.ensures.rows c.make_room.ensures.log c.remake_all.ensures.logged

pub returns-in_err-suspects-clause-logged : goal.returns-in_err-suspects-clause-logged
returns-in_err-suspects-clause-logged c = logged-behind c.args.self.now.rows c.make_room.new.self c.remake_all.new.self c.make_room.ensures.rows c.make_room.ensures.log c.remake_all.ensures.logged

pub returns-in_err-ids-clause-logged : goal.returns-in_err-ids-clause-logged
returns-in_err-ids-clause-logged c = logged-behind c.args.self.now.rows c.make_room.new.self c.remake_all.new.self c.make_room.ensures.rows c.make_room.ensures.log c.remake_all.ensures.logged

-- what is logged: cells that are made anew, and then lives
pub returns-clause-told : goal.returns-clause-told
returns-clause-told c =
    let rows = c.args.self.now.rows.rows.rows.items in
    let made = c.remake_all.new.self.rows.rows.items in
    let first = c.remake_all.ensures.logged in
    let second = c.update.ensures.logged in
    let remade = subst (λ (xs : List CellNotes). RemakesAll c.args.self.now.draft.order.slots rows made xs) c.as_slice-3.ensures.value (subst (λ (r : LaneRanges). RemakesAll c.args.self.now.draft.order.slots r.rows.items made c.as_slice-3.result.now) c.make_room.ensures.rows c.in_ok-remake_all.ensures.remade) in
    record {
      made = made;
      shapes = first.added;
      lives = second.logged.added;
      shapes_in = λ e m. subst (Among e) (sym second.logged.list) (among-left e c.remake_all.new.self.log.items second.logged.added (subst (Among e) (sym first.list) (among-right e c.make_room.new.self.log.items first.added m)));
      lives_in = λ e m. subst (Among e) (sym second.logged.list) (among-right e c.remake_all.new.self.log.items second.logged.added m);
      are_lives = second.lives;
      shapes_back = λ l b. first.back l b ∙ ap (λ (r : LaneRanges). rows_seen r.rows.items l b) c.make_room.ensures.rows;
      lives_back = second.logged.back;
      remade = remade.untold;
    }
