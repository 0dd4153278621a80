use Rattle.std.proofs.Common.{◌∙◌, rules, refl, sym, subst}
use Rattle.std.proofs.lemmas.Result.{err_from_is_err_and}
use Rattle.target_base.specs.declared.types.Target.{Target}
use Rattle.mir_func.specs.Value.{Function}
use Rattle.pipeline.specs.Guarded.Function.{IfRefused, IsGuarded}
use Rattle.pipeline.specs.Guarded.Told.{ToldRun}
use Rattle.pipeline.proofs.GuardLemmas.Refused.{refused_late, untold_late}
use Rattle.pipeline.proofs.GuardLemmas.Told.{part_of_none, part_of_run, on_err}
use Rattle.pipeline.proofs.guarded.function.allocate_function.Goals as goal

pub returns-in_err-live-clause-err : goal.returns-in_err-live-clause-err
returns-in_err-live-clause-err g c =
    let p = err_from_is_err_and c.from_residual.result c.from_residual.ensures.1 in
    rw p.1 (subst (IfRefused c.args.reader.now c.args.f) (sym p.2) (rw c.shared_target.ensures at c.in_err-live.ensures.err))

pub returns-in_err-live-clause-part : goal.returns-in_err-live-clause-part
returns-in_err-live-clause-part g c = on_err c.from_residual.result (part_of_none (g.W.Watcher.next c.args.reader.now) c.args.watchers.now.items c.args.watchers.now.items refl)

pub returns-in_err-func-clause-part : goal.returns-in_err-func-clause-part
returns-in_err-func-clause-part g c = on_err c.from_residual-in_err-func.result (part_of_none (g.W.Watcher.next c.args.reader.now) c.args.watchers.now.items c.args.watchers.now.items refl)

pub returns-in_err-made-clause-err : goal.returns-in_err-made-clause-err
returns-in_err-made-clause-err g c =
    let p = err_from_is_err_and c.from_residual-in_err-made.result c.from_residual-in_err-made.ensures.1 in
    let ok = rw c.shared_target.ensures at c.in_ok-live.ensures.ok in
    rw p.1 (refused_late c.args.reader.now c.args.f c.in_err-made.field-0.0 p.0 p.2 ok.2 ok.3)

pub returns-in_err-made-clause-untold : goal.returns-in_err-made-clause-untold
returns-in_err-made-clause-untold g c =
    let p = err_from_is_err_and c.from_residual-in_err-made.result c.from_residual-in_err-made.ensures.1 in
    rw p.1 (untold_late c.in_err-made.field-0.0 p.0 p.2)

pub returns-in_err-made-clause-part : goal.returns-in_err-made-clause-part
returns-in_err-made-clause-part g c = on_err c.from_residual-in_err-made.result (rw c.target-target.ensures at c.in_err-made.ensures.part)

-- the run had come to its end
pub returns-in_err-made-2-clause-part : goal.returns-in_err-made-2-clause-part
returns-in_err-made-2-clause-part g c =
    let old = c.args.watchers.now.items in
    let new = c.with_registers.new.watchers.items in
    let run = subst (λ (t : Target). ToldRun (g.W.Watcher.next t) c.args.number old new) c.target-target.ensures c.in_ok-made.ensures.told in
    on_err c.from_residual-in_err-made-2.result (part_of_run (g.W.Watcher.next c.args.reader.now) c.args.number old new run)

pub returns-in-Some-clause-ok : goal.returns-in-Some-clause-ok
returns-in-Some-clause-ok g c =
    let ok = rw c.shared_target.ensures at c.in_ok-live.ensures.ok in
    let same = c.in_ok-func.ensures ∙ (c.func.ensures ∙ c.in_ok-live.ensures.ok.1) in
    record {
      taken = ok.2;
      serve = ok.3;
      guarded = subst (λ (f : Function). IsGuarded c.args.reader.now f c.in-Some.made.func) same (search rules);
    }

pub returns-clause-err : goal.returns-clause-err
returns-clause-err g c = let ok = rw c.shared_target.ensures at c.in_ok-live.ensures.ok in (ok.2, ok.3)

pub returns-clause-part : goal.returns-clause-part
returns-clause-part g c =
    let old = c.args.watchers.now.items in
    let new = c.with_registers.new.watchers.items in
    let run = subst (λ (t : Target). ToldRun (g.W.Watcher.next t) c.args.number old new) c.target-target.ensures c.in_ok-made.ensures.told in
    part_of_run (g.W.Watcher.next c.args.reader.now) c.args.number old new run
