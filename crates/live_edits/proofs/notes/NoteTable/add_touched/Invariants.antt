use Rattle.std.proofs.Common.{take}
use Rattle.live_edits.specs.NotedTable.{IsNoteTable}
use Rattle.live_edits.proofs.NotedAll.{ActsNoted}
use Rattle.live_edits.proofs.notes.NoteTable.add_touched.Given as goal

abbrev pub invariant-acts : goal.invariant-acts
invariant-acts l = record {
  table : IsNoteTable l.self;
  noted : ActsNoted l.touched l.fn.self.all.items l.self.all.items (take l.act-index l.act-items);
}
