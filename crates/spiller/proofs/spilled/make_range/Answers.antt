use Rattle.live_edits.proofs.DraftEdits.{any-err}
use Rattle.spiller.specs.SlotMaps.{slots_of}
use Rattle.spiller.proofs.NewRanges.{grown-more, mid-few, mid-stands, some-grown, some-renamed, some-without}
use Rattle.spiller.proofs.spilled.make_range.Goals as goal

pub returns-clause-ok : goal.returns-clause-ok
returns-clause-ok c = λ old before cs k d other may h own has.
    let few = mid-few old before cs may k c.args.m.now.live (slots_of c.args.slots.now) h has in
    let made = c.in_ok-range.ensures.func few in
    grown-more old before cs may k d other c.args.class c.in_ok-range.range c.args.m.now.live c.fresh.new.self.live (slots_of c.args.slots.now) (slots_of c.add_original.new.self) h own has made.0 c.fresh.ensures.target made.1 c.fresh.ensures.computed c.in_ok-add_original.ensures.ok

pub returns-in_err-range-clause-err : goal.returns-in_err-range-clause-err
returns-in_err-range-clause-err c = any-err c.from_residual.result _ (λ old before cs k d other may h own has.
    some-grown old before cs may k c.args.m.now.live c.fresh.new.self.live (slots_of c.args.slots.now) h has c.fresh.ensures.target c.in_err-range.ensures.refused.0 c.fresh.ensures.computed)

pub returns-in_err-add_original-clause-err : goal.returns-in_err-add_original-clause-err
returns-in_err-add_original-clause-err c = any-err c.from_residual-in_err-add_original.result _ (λ old before cs k d other may h own has.
    let few = mid-few old before cs may k c.args.m.now.live (slots_of c.args.slots.now) h has in
    let made = c.in_ok-range.ensures.func few in
    some-renamed old before cs c.fresh.new.self.live (slots_of c.args.slots.now) (slots_of c.add_original.new.self) c.in_err-add_original.ensures.err
    (some-without old before cs may k d other c.args.class c.in_ok-range.range c.args.m.now.live c.fresh.new.self.live (slots_of c.args.slots.now) h own has made.0 c.fresh.ensures.target made.1 c.fresh.ensures.computed))

pub returns-clause-lists : goal.returns-clause-lists
returns-clause-lists c = λ old before cs k may h has keeps.
    let z = mid-stands old before cs may k c.args.m.now.live (slots_of c.args.slots.now) h has in
    c.fresh.ensures.lists z.0 z.1 z.2 z.3 keeps

pub returns-in_err-range-clause-lists : goal.returns-in_err-range-clause-lists
returns-in_err-range-clause-lists c = λ old before cs k may h has keeps.
    let z = mid-stands old before cs may k c.args.m.now.live (slots_of c.args.slots.now) h has in
    c.fresh.ensures.lists z.0 z.1 z.2 z.3 keeps

pub returns-in_err-add_original-clause-lists : goal.returns-in_err-add_original-clause-lists
returns-in_err-add_original-clause-lists c = λ old before cs k may h has keeps.
    let z = mid-stands old before cs may k c.args.m.now.live (slots_of c.args.slots.now) h has in
    c.fresh.ensures.lists z.0 z.1 z.2 z.3 keeps
