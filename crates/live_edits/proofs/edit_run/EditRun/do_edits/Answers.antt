use Rattle.std.proofs.Common.{arith, sym, subst}
use Rattle.live_edits.specs.EditedRuns.{MayDo, DoesEdits}
use Rattle.live_edits.specs.Runs.{edits_of, NumbersSlots}
use Rattle.live_edits.proofs.EditedParts.{adds-rows, may-do, may-spare, is-ready, logged-first, logged-edits}
use Rattle.live_edits.proofs.EditedSteps.{turned-twice}
use Rattle.live_edits.proofs.edit_run.EditRun.do_edits.Goals as goal

pub returns-in_err-add_slots-clause-logged : goal.returns-in_err-add_slots-clause-logged
returns-in_err-add_slots-clause-logged c = λ may.
    let adds = adds-rows c.args.self.now c.add_slots.new.self c.add_slots.ensures.added c.add_slots.ensures.further c.add_slots.ensures.long c.add_slots.ensures.draft in
    logged-first c.args.target.now (edits_of c.args.edits.items) c.args.self.now c.add_slots.new.self may adds

pub returns-in_err-do_all-clause-logged : goal.returns-in_err-do_all-clause-logged
returns-in_err-do_all-clause-logged c = λ may.
    let t = c.args.target.now in
    let es = edits_of c.args.edits.items in
    let old = c.args.self.now in
    let ready = c.add_slots.new.self in
    let adds = adds-rows old ready c.add_slots.ensures.added c.add_slots.ensures.further c.add_slots.ensures.long c.add_slots.ensures.draft in
    let turned = turned-twice c.args.edits.items c.reverse.new.self.items c.reverse.ensures.items in
    let asked = subst (MayDo t ready) (sym turned) (may-do t es old ready may adds) in
    logged-edits t old ready c.do_all.new.self (logged-first t es old ready may adds) c.do_all.ensures.tables (c.do_all.ensures.logged asked)

pub returns-clause-done : goal.returns-clause-done
returns-clause-done c = λ may.
    let t = c.args.target.now in
    let es = edits_of c.args.edits.items in
    let old = c.args.self.now in
    let ready = c.add_slots.new.self in
    let adds = adds-rows old ready c.add_slots.ensures.added c.add_slots.ensures.further c.add_slots.ensures.long c.add_slots.ensures.draft in
    let done = c.do_all.new.self in
    let turned = turned-twice c.args.edits.items c.reverse.new.self.items c.reverse.ensures.items in
    let asked = subst (MayDo t ready) (sym turned) (may-do t es old ready may adds) in
    let does = subst (DoesEdits t ready done) turned (c.in_ok-do_all.ensures.done asked) in
    let named = subst (λ xs. NumbersSlots ready.lanes (edits_of xs)) c.as_slice.ensures.value c.in_ok-add_slots.ensures.numbered in
    let high = c.highest-highest.ensures does.order in
    record { ready = ready; first = is-ready t es old ready may adds named; does = does; tells = does.tells (may-spare t es old ready may adds); small = omega (arith, high) }

pub returns-clause-logged : goal.returns-clause-logged
returns-clause-logged c = λ may.
    let t = c.args.target.now in
    let es = edits_of c.args.edits.items in
    let old = c.args.self.now in
    let ready = c.add_slots.new.self in
    let adds = adds-rows old ready c.add_slots.ensures.added c.add_slots.ensures.further c.add_slots.ensures.long c.add_slots.ensures.draft in
    let turned = turned-twice c.args.edits.items c.reverse.new.self.items c.reverse.ensures.items in
    let asked = subst (MayDo t ready) (sym turned) (may-do t es old ready may adds) in
    logged-edits t old ready c.do_all.new.self (logged-first t es old ready may adds) c.do_all.ensures.tables (c.do_all.ensures.logged asked)
