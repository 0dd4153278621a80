use Rattle.std.proofs.Common.{take}
use Rattle.live_edits.specs.Drafts.{IsOrderOf, LetsGo}
use Rattle.live_edits.proofs.draft.Draft.finish.Given as goal

abbrev pub invariant-erased : goal.invariant-erased
invariant-erased l = IsOrderOf l.fn.self.func l.fn.self.order → LetsGo l.fn.self.func l.self.func l.fn.self.order l.self.order (take l.id-index l.erased)
