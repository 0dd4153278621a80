use Rattle.std.proofs.Common.{◌∙◌}
use Rattle.live_edits.proofs.NotedLists.{noted-more, noted-same}
use Rattle.live_edits.proofs.notes.add_note.Goals as goal

pub returns-in_ok-push : goal.returns-in_ok-push
returns-in_ok-push c = c.in_ok-push.ensures.items ∙ noted-more c.args.note c.args.notes.now.items c.as_slice.result.now c.is_noted.result c.as_slice.ensures.value c.is_noted.ensures c.if-not-is_noted.true

pub returns-else-not-is_noted : goal.returns-else-not-is_noted
returns-else-not-is_noted c = noted-same c.args.note c.args.notes.now.items c.as_slice.result.now c.is_noted.result c.as_slice.ensures.value c.is_noted.ensures c.if-not-is_noted.false
