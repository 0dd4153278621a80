use Rattle.std.proofs.Common.{◌∙◌, ap}
use Rattle.watchers.proofs.telling.BoxDynWatcherWatcher.lines.Goals as goal

-- what is behind the box is what the box holds
pub returns : goal.returns
returns g c = c.lines.ensures ∙ ap (λ v. (goal.Watcher-dyn g v).count v.1) c.deref_box-1.ensures.1
