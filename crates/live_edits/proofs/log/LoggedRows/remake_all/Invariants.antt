use Rattle.std.proofs.Common.{List, drop}
use Rattle.live_lanes.specs.declared.row.LaneRange.{LaneRange}
use Rattle.live_edits.specs.Logged.{IsLogged}
use Rattle.live_edits.proofs.CellsRemade.{RemakesEach}
use Rattle.live_edits.proofs.log.LoggedRows.remake_all.Given as goal

abbrev pub invariant-cells : goal.invariant-cells
invariant-cells x = record {
  logged : IsLogged x.fn.self x.self;
  rest : (new : List LaneRange) → RemakesEach x.slots x.self.rows.rows.items (drop x.notes-index x.all) new → RemakesEach x.slots x.fn.self.rows.rows.items x.all new;
}
