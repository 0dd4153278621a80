use Rattle.std.proofs.Common.{refl, subst}
use Rattle.std.specs.Prelude.{IfOk}
use Rattle.pipeline.proofs.GuardLemmas.Told.{part_of_none, on_err}
use Rattle.ra_top.specs.Commands.Told.{ToldOne}
use Rattle.ra_top.proofs.CommandLemmas.Watched.{answer_of_one}
use Rattle.ra_top.proofs.commands.documents.at_document.Goals as goal

pub returns-in-Alloc-clause-told : goal.returns-in-Alloc-clause-told
returns-in-Alloc-clause-told g c = λ tells.
    let next = g.W.Watcher.next c.args.reader.now in
    let old = c.args.watchers.now.items in
    let new = c.allocated_function.new.watchers.items in
    rw c.in-Function.is (answer_of_one next c.in-Function.before c.in-Function.f c.allocated_function.result c.args.number.now c.next-number.new.number old new c.next-number.ensures.next
    (subst (λ n. IfOk c.allocated_function.result (ToldOne next n old new)) c.next-number.ensures.now c.allocated_function.ensures.told))

pub returns-in-Trace-clause-told : goal.returns-in-Trace-clause-told
returns-in-Trace-clause-told g c = λ tells.
    let next = g.W.Watcher.next c.args.reader.now in
    let old = c.args.watchers.now.items in
    let new = c.trace_function.new.watchers.items in
    rw c.in-Function.is (answer_of_one next c.in-Function.before c.in-Function.f c.trace_function.result c.args.number.now c.next-number-in-Trace.new.number old new c.next-number-in-Trace.ensures.next
    (subst (λ n. IfOk c.trace_function.result (ToldOne next n old new)) c.next-number-in-Trace.ensures.now (rw c.shared_target-in-Trace.ensures at c.trace_function.ensures.told)))

pub returns-in-Trace-clause-answer : goal.returns-in-Trace-clause-answer
returns-in-Trace-clause-answer g c = rw (c.in-Trace.is, c.in-Function.is) (rw c.shared_target-in-Trace.ensures at c.trace_function.ensures.answer)

pub returns-in-Intervals-clause-answer : goal.returns-in-Intervals-clause-answer
returns-in-Intervals-clause-answer g c = rw (c.in-Intervals.is, c.in-Function.is) (rw c.shared_target.ensures at c.intervals_of.ensures)

pub returns-in-Trace-clause-part : goal.returns-in-Trace-clause-part
returns-in-Trace-clause-part g c = rw c.shared_target-in-Trace.ensures at c.trace_function.ensures.part

pub returns-in-Verify-clause-part : goal.returns-in-Verify-clause-part
returns-in-Verify-clause-part g c = on_err c.verified_function.result (part_of_none (g.W.Watcher.next c.args.reader.now) c.args.watchers.now.items c.args.watchers.now.items refl)

pub returns-in-Run-clause-part : goal.returns-in-Run-clause-part
returns-in-Run-clause-part g c = on_err c.at_named.result (part_of_none (g.W.Watcher.next c.args.reader.now) c.args.watchers.now.items c.args.watchers.now.items refl)

pub returns-in-Intervals-clause-part : goal.returns-in-Intervals-clause-part
returns-in-Intervals-clause-part g c = on_err c.intervals_of.result (part_of_none (g.W.Watcher.next c.args.reader.now) c.args.watchers.now.items c.args.watchers.now.items refl)
