use Rattle.std.proofs.Common.{ℕ, List, subst}
use Rattle.live_edits.specs.EditedRuns.{LetsAllGo}
use Rattle.live_edits.specs.Runs.{edits_of}
use Rattle.live_edits.proofs.LiveRuns.{committed}
use Rattle.live_edits.proofs.live.commit.Goals as goal

pub returns-clause-exact : goal.returns-clause-exact
returns-clause-exact c = λ es before begun.
    let run = c.take_run-run.result in
    let kept = c.keep.new.self in
    let goes = subst (λ (xs : List ℕ). LetsAllGo run kept xs) c.as_slice.ensures.value c.keep.ensures in
    committed (edits_of es) before c.args.live.now c.give_back.new.live c.args.changes run kept begun c.take_run-run.ensures.run goes c.give_back.ensures.run
