use Rattle.std.proofs.Common.{◌≡◌, true, sym, subst}
use Rattle.live_lanes.proofs.Cells.{both-left, both-right}
use Rattle.live_edits.specs.Changes.{TakesBack}
use Rattle.live_edits.specs.CellChanges.{fits_in}
use Rattle.live_edits.specs.Logged.{has_cell, room_of, cell_there}
use Rattle.live_edits.proofs.Lives.{shape-taken}
use Rattle.live_edits.proofs.log.LoggedRows.take_one_back.Goals as goal

pub returns-in-Shape-clause-back : goal.returns-in-Shape-clause-back
returns-in-Shape-clause-back c =
    let rows = c.args.self.now.rows.rows.items in
    let new = c.change_in.new.rows.rows.items in
    let s = c.in-Shape in
    subst (λ f. cell_there rows f ≡ true → TakesBack rows new f) (sym s.is) (λ h.
    let has = both-left (has_cell rows s.lane s.block) (fits_in s.change (room_of rows s.lane s.block)) h in
    let fits = both-right (has_cell rows s.lane s.block) (fits_in s.change (room_of rows s.lane s.block)) h in
    shape-taken rows new s.lane s.block s.change c.change_in.result (c.change_in.ensures.succeeds has fits) (c.change_in.ensures.changed has))
