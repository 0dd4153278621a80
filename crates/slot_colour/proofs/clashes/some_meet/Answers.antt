use Rattle.std.proofs.Common.{◌≡◌, ◌<◌, ℕ, Bool, sym, ◌∙◌, arith}
use Rattle.std.specs.List.{list_any}
use Rattle.slot_colour.specs.Clashes.{do_meet, numbers_in}
use Rattle.slot_colour.proofs.Meeting.{left-hit, left-miss}
use Rattle.slot_colour.proofs.clashes.some_meet.Goals as goal

pub returns-then-meets_one : goal.returns-then-meets_one
returns-then-meets_one c = λ ordered.
    let x = c.args.live.now.table in
    let p : ℕ → Bool = λ one. list_any (do_meet x one) (numbers_in c.args.those) in
    let lt : c.lanes.k < c.args.these.count = omega arith in
    left-hit p c.args.these.first c.args.these.count c.lanes.k lt (c.lanes.invariant ordered) (sym (c.meets_one.ensures ordered) ∙ c.if-meets_one.true)

pub lanes-preserved : goal.lanes-preserved
lanes-preserved c = λ ordered.
    let x = c.args.live.now.table in
    let p : ℕ → Bool = λ one. list_any (do_meet x one) (numbers_in c.args.those) in
    let lt : c.lanes.k < c.args.these.count = omega arith in
    left-miss p c.args.these.first c.args.these.count c.lanes.k lt (c.lanes.invariant ordered) (sym (c.meets_one.ensures ordered) ∙ c.if-meets_one.false)
