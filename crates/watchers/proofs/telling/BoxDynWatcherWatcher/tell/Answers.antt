use Rattle.std.proofs.Common.{◌∙◌, ap}
use Rattle.std.proofs.lemmas.Result.{on_ok_weaker, on_err_weaker}
use Rattle.watchers.proofs.Told.{boxed}
use Rattle.watchers.proofs.telling.BoxDynWatcherWatcher.tell.Goals as goal

-- what is behind the box is what the box holds
pub returns-clause-ok : goal.returns-clause-ok
returns-clause-ok g c =
    on_ok_weaker c.tell.result
    (boxed (λ v. record c.args.self.now { vtable = v.0; value = v.1 }) (λ v. (goal.Watcher-dyn g v).next c.args.target.now v.1 c.args.step.now) _ _ c.tell.new.self c.deref_box_mut-1.ensures.value.1)
    c.tell.ensures.0

pub returns-clause-err : goal.returns-clause-err
returns-clause-err g c =
    on_err_weaker c.tell.result
    (λ same. ap (λ v. record c.args.self.now { vtable = v.0; value = v.1 })
    (ap (λ w. (c.deref_box_mut-1.result.now.0, w)) same ∙ c.deref_box_mut-1.ensures.value.1))
    c.tell.ensures.1
