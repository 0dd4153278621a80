-- What a table answers inside blocks is where lanes are live.
use Rattle.std.proofs.Common.{◌≡◌, ℕ, true, List, [], ◌∷◌, ◌++◌, refl, sym, ap, ◌∙◌, subst}
use Rattle.std.specs.Prelude.{◌↔◌}
use Rattle.live_lanes.specs.declared.compute.flow.BlockFlow.{BlockFlow}
use Rattle.live_lanes.specs.declared.row.LaneRange.{LaneRange}
use Rattle.live_lanes.specs.Paths.{Live}
use Rattle.mir_meaning.specs.Paths.{Step, Code, steps_of, Point, Entry, Exit}
use Rattle.live_lanes.specs.Graph.{writes_in}
use Rattle.live_lanes.specs.Table.{Numbers, entry_rank, exit_rank, piece_at}
use Rattle.live_lanes.specs.Entered.{rows_seen, causes}
use Rattle.live_lanes.specs.Ends.{row_end, reaches}
use Rattle.live_lanes.specs.Laws.{LookLaw}
use Rattle.live_lanes.proofs.Ending.{end-law}
use Rattle.live_lanes.proofs.Growth.{piece-law}
use Rattle.live_lanes.proofs.Numbered.{entry-piece, exit-piece}

pub look-law : LookLaw
look-law code slots flow rows table grown ended = record {
  rises = piece-law code slots flow rows table;
  entry = λ l b before s rest e.
      let at : piece_at slots (entry_rank slots s.id) (rows_seen rows l b).segments ≡ writes_in l before = entry-piece code slots table.numbered l b (rows_seen rows l b).segments (ap (λ h. h.segments) (table.entered l b)) before s rest e in
      subst (λ n. (reaches slots (row_end rows l b n) (entry_rank slots s.id) ≡ true) ↔ Live code b (Entry (s ∷ rest)) l) (sym at) ((end-law code slots (causes rows) table.matched grown table.numbered l b before s rest e (row_end rows l b (writes_in l before))).entry (ended l b (writes_in l before)));
  exit = λ l b before s rest e.
      let at : piece_at slots (exit_rank slots s.id) (rows_seen rows l b).segments ≡ writes_in l (before ++ s ∷ []) = exit-piece code slots table.numbered l b (rows_seen rows l b).segments (ap (λ h. h.segments) (table.entered l b)) before s rest e in
      subst (λ n. (reaches slots (row_end rows l b n) (exit_rank slots s.id) ≡ true) ↔ Live code b (Exit s rest) l) (sym at) ((end-law code slots (causes rows) table.matched grown table.numbered l b before s rest e (row_end rows l b (writes_in l (before ++ s ∷ [])))).exit (ended l b (writes_in l (before ++ s ∷ []))));
}
