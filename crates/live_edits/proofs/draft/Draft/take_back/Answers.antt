use Rattle.std.proofs.Common.{◌∙◌}
use Rattle.live_edits.proofs.DraftEdits.{undone-step}
use Rattle.live_edits.proofs.draft.Draft.take_back.Goals as goal

pub edits-preserved : goal.edits-preserved
edits-preserved c = record {
  func = undone-step c.edits.self.log.items c.pop.new.self.items c.in-Some.former c.edits.self.func c.undo.new.func c.in-Some.ensures.items c.undo.ensures.func ∙ c.edits.invariant.func;
  order = λ order. c.undo.ensures.order (c.edits.invariant.order order);
}
