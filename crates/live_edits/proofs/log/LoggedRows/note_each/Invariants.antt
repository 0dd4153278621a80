use Rattle.std.proofs.Common.{◌≡◌, ℕ, false, ◌&&◌, drop, length}
use Rattle.std.specs.Prelude.{nat_eq}
use Rattle.live_lanes.specs.Table.{Seen}
use Rattle.live_lanes.specs.Entered.{rows_seen}
use Rattle.live_edits.specs.Logged.{IsLogged}
use Rattle.live_edits.specs.Renoted.{NotesAll}
use Rattle.live_edits.proofs.log.LoggedRows.note_each.Given as goal

abbrev pub invariant-notes : goal.invariant-notes
invariant-notes x = record {
  lanes : length x.self.rows.rows.items ≡ length x.fn.self.rows.rows.items;
  logged : IsLogged x.fn.self x.self;
  others : (l b : ℕ) → (nat_eq x.spot.lane l && nat_eq x.spot.block b) ≡ false → rows_seen x.self.rows.rows.items l b ≡ rows_seen x.fn.self.rows.rows.items l b;
  rest : (w : Seen) → NotesAll x.slots (drop x.each-index x.notes) (rows_seen x.self.rows.rows.items x.spot.lane x.spot.block) w → NotesAll x.slots x.notes (rows_seen x.fn.self.rows.rows.items x.spot.lane x.spot.block) w;
}
