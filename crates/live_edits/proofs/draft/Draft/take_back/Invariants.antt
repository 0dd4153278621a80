use Rattle.std.proofs.Common.{◌≡◌, vec_len}
use Rattle.live_edits.specs.Drafts.{IsOrderOf, all_undone}
use Rattle.live_edits.proofs.draft.Draft.take_back.Given as goal

abbrev pub invariant-edits : goal.invariant-edits
invariant-edits l = record {
  func : all_undone l.self.log.items l.self.func ≡ all_undone l.fn.self.log.items l.fn.self.func;
  order : IsOrderOf l.fn.self.func l.fn.self.order → IsOrderOf l.self.func l.self.order;
}

abbrev pub decreases-edits : goal.decreases-edits
decreases-edits l = vec_len l.self.log
