use Rattle.std.proofs.Common.{◌≤◌, length, drop}
use Rattle.live_edits.specs.NotedTable.{IsNoteTable}
use Rattle.live_edits.proofs.NotedAll.{AllNoted}
use Rattle.live_edits.proofs.notes.notes_of.Given as goal

abbrev pub invariant-edits : goal.invariant-edits
invariant-edits l = record {
  table : IsNoteTable l.table;
  within : l.left ≤ length l.touched;
  noted : AllNoted (drop l.left l.touched) l.table.all.items;
}

abbrev pub decreases-edits : goal.decreases-edits
decreases-edits l = l.left
