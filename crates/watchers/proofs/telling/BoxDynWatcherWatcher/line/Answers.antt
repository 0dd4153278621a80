use Rattle.std.proofs.Common.{◌≡◌, IfOk, subst}
use Rattle.watchers.proofs.telling.BoxDynWatcherWatcher.line.Goals as goal

-- what is behind the box is what the box holds
pub returns : goal.returns
returns g c = subst (λ v. IfOk c.line.result (λ line. line ≡ (goal.Watcher-dyn g v).text v.1 c.args.k)) c.deref_box-1.ensures.1 c.line.ensures
