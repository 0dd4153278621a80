use Rattle.std.proofs.Common.{subst, arith, None}
use Rattle.live_edits.proofs.DraftEdits.{any-err}
use Rattle.live_edits.proofs.DraftPlaces.{take-past}
use Rattle.spiller.specs.Growing.{HasGrown}
use Rattle.spiller.specs.SlotMaps.{slots_of}
use Rattle.spiller.proofs.NewRanges.{none-grown}
use Rattle.spiller.proofs.spilled.make_ranges.Goals as goal

pub classes-init : goal.classes-init
classes-init c = λ may. (none-grown c.args.m.now.live (slots_of c.args.slots.now) c.args.classes.now may, λ h. h)

pub classes-preserved : goal.classes-preserved
classes-preserved c = λ may.
    let z = c.classes.invariant may in (
      c.in_ok-make_range.ensures.ok c.args.m.now.live (slots_of c.args.slots.now) c.args.classes.now c.classes.class-index None (record { 0 = 0 }) may (omega arith) c.unwrap_or.ensures z.0,
      λ h. c.make_range.ensures.lists c.args.m.now.live (slots_of c.args.slots.now) c.args.classes.now c.classes.class-index may (omega arith) z.0 (z.1 h),
    )

pub returns-in_err-make_range-clause-err : goal.returns-in_err-make_range-clause-err
returns-in_err-make_range-clause-err c = any-err c.from_residual.result _ (λ may.
    c.in_err-make_range.ensures.err c.args.m.now.live (slots_of c.args.slots.now) c.args.classes.now c.classes.class-index None (record { 0 = 0 }) may (omega arith) c.unwrap_or.ensures (c.classes.invariant may).0)

pub returns-in_err-make_range-clause-lists : goal.returns-in_err-make_range-clause-lists
returns-in_err-make_range-clause-lists c = λ may keeps.
    let z = c.classes.invariant may in
    c.make_range.ensures.lists c.args.m.now.live (slots_of c.args.slots.now) c.args.classes.now c.classes.class-index may (omega arith) z.0 (z.1 keeps)

pub returns-clause-ok : goal.returns-clause-ok
returns-clause-ok c = λ may. subst (λ cs. HasGrown c.args.m.now.live (slots_of c.args.slots.now) cs c.classes.m.live (slots_of c.classes.slots)) (take-past c.classes.class-index c.args.classes.now (omega arith)) (c.classes.invariant may).0

pub returns-clause-lists : goal.returns-clause-lists
returns-clause-lists c = λ may keeps. (c.classes.invariant may).1 keeps
