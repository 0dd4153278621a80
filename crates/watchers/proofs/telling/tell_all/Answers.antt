use Rattle.std.proofs.Common.{length, set, sym, ◌∙◌, ap, arith}
use Rattle.std.proofs.lemmas.List.Edits.{map_over_more}
use Rattle.watchers.proofs.Told.{on_err, first_became}
use Rattle.watchers.proofs.telling.tell_all.Goals as goal

pub returns-in_err-tell-clause-err : goal.returns-in_err-tell-clause-err
returns-in_err-tell-clause-err g c =
    let long = ap length c.deref_mut-watcher-items.ensures.value in
    on_err c.from_residual.result
    (first_became (λ w. g.W.Watcher.next c.args.target.now w c.args.step.now) c.args.watchers.now.items c.watchers.watcher-items c.args.watchers.now.len c.watchers.watcher-index c.watcher-item.result c.tell.new.self
    (sym c.deref_mut-watcher-items.ensures.len ∙ long) (c.watchers.auto.watcher-items ∙ long) (omega (arith, c.watchers-test.true, long)) c.watchers.invariant c.in_err-tell.ensures.err)

pub watchers-preserved : goal.watchers-preserved
watchers-preserved g c =
    ap (set c.watchers.watcher-items c.watchers.watcher-index) (c.in_ok-tell.ensures.ok ∙ ap (λ w. g.W.Watcher.next c.args.target.now w c.args.step.now) (sym c.watcher-item.is))
    ∙ map_over_more (λ w. g.W.Watcher.next c.args.target.now w c.args.step.now) c.args.watchers.now.items c.watchers.watcher-items c.watchers.watcher-index c.watcher-item.result
    (omega (arith, c.watchers-test.true, ap length c.deref_mut-watcher-items.ensures.value)) c.watchers.invariant c.watcher-item.is
