use Rattle.std.proofs.Common.{◌∙◌}
use Rattle.ra_top.specs.declared.commands.status.Status.TheVariants as status
use Rattle.ra_top.proofs.Starts.{memory_told}
use Rattle.ra_top.proofs.Watched.{undone, words_untold}
use Rattle.ra_top.proofs.run.top.Goals as goal

pub returns-in-Err-clause-does : goal.returns-in-Err-clause-does
returns-in-Err-clause-does g c = memory_told _ _ _ _ _ _ _ _ c.ends.result.status c.tell.result _ c.ends.result.detail c.ends.ensures.0 c.tell.ensures.status c.tell.ensures.line

pub returns-in-Err-clause-told : goal.returns-in-Err-clause-told
returns-in-Err-clause-told g c =
    words_untold g.W.Watcher.next _ _ c.args.watchers.now.items c.tell.result (undone c.tell.result status.Memory (c.tell.ensures.status ∙ c.ends.ensures.0) tt)
