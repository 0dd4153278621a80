use Rattle.std.proofs.Common.{reverse, vec_len}
use Rattle.live_edits.specs.Drafts.{IsDraftLogged}
use Rattle.live_edits.specs.EditedRuns.{MayDo}
use Rattle.live_edits.specs.Runs.{edits_of, KeepsTables}
use Rattle.live_edits.proofs.EditedSteps.{DoesSome}
use Rattle.live_edits.proofs.edit_run.EditRun.do_all.Given as goal

abbrev pub invariant-edits : goal.invariant-edits
invariant-edits l = record {
  tables : KeepsTables l.fn.self l.self;
  draft : MayDo l.target l.fn.self (edits_of (reverse l.fn.edits.items)) → IsDraftLogged l.fn.self.draft l.self.draft;
  does : MayDo l.target l.fn.self (edits_of (reverse l.fn.edits.items)) → DoesSome l.target l.fn.self l.self (edits_of (reverse l.fn.edits.items)) (edits_of (reverse l.left.items));
}

abbrev pub decreases-edits : goal.decreases-edits
decreases-edits l = vec_len l.left
