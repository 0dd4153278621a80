use Rattle.std.proofs.Common.{◌≡◌, ◌&&◌, List, ◌∷◌, true, false, refl, subst, arith}
use Rattle.meaning.specs.declared.types.EdgePair.{EdgePair}
use Rattle.meaning.specs.Facts.{Knowledge, all_known}
use Rattle.meaning.specs.Agree.{Family, known_along, way_holds, ways_hold}
use Rattle.alloc_check.specs.Needs.{Adds, Least}
use Rattle.alloc_check.specs.Cells.{asked}
use Rattle.alloc_check.proofs.Least.{each-enough-none, each-fewest-none, each-enough-next, each-fewest-next, each-fewest-never, each-enough-all, each-fewest-all}
use Rattle.alloc_check.proofs.closed.add_ways.Goals as goal

step : (family : Family) (k : Knowledge) (e : EdgePair) (es : List EdgePair) → ways_hold family k (e ∷ es) ≡ way_holds family k e && ways_hold family k es
step family k e es = refl

pub loop-e-init : goal.loop-e-init
loop-e-init c =
    let family = c.args.family.now in
    let init = asked c.args.needs.now in
    (each-enough-none (ways_hold family) (way_holds family) (step family) init c.args.exits.now, each-fewest-none (ways_hold family) (way_holds family) (step family) init c.args.exits.now)

pub loop-e-preserved : goal.loop-e-preserved
loop-e-preserved c =
    let family = c.args.family.now in
    let init = asked c.args.needs.now in
    let old = asked c.loop-e.needs in
    let new = asked c.add_along.new.needs in
    let e = c.e-item.result in
    let enough : Adds old (λ k. way_holds family k e) new = subst (λ fs. Adds old (λ k. all_known (known_along e k) fs) new) c.facts_at.ensures (c.in_ok-add_along.ensures.enough c.if-not-branch.false) in
    let least : Least (λ k. way_holds family k e && all_known k old) true new =
    subst (λ fs. Least (λ k. all_known (known_along e k) fs && all_known k old) true new) c.facts_at.ensures (subst (λ b. Least (λ k. all_known (known_along e k) c.facts_at.result.now && all_known k old) b new) c.if-not-branch.false c.in_ok-add_along.ensures.least) in (
      each-enough-next (ways_hold family) (way_holds family) (step family) init c.args.exits.now old new c.loop-e.e-index e (omega arith) c.e-item.is c.loop-e.invariant.0 enough,
      each-fewest-next (ways_hold family) (way_holds family) (step family) init c.args.exits.now old new c.loop-e.e-index e (omega arith) c.e-item.is true c.loop-e.invariant.1 least,
    )

pub returns-then-not-branch-clause-least : goal.returns-then-not-branch-clause-least
returns-then-not-branch-clause-least c =
    let family = c.args.family.now in
    let old = asked c.loop-e.needs in
    let new = asked c.add_along.new.needs in
    let e = c.e-item.result in
    let least : Least (λ k. way_holds family k e && all_known k old) false new =
    subst (λ fs. Least (λ k. all_known (known_along e k) fs && all_known k old) false new) c.facts_at.ensures (subst (λ b. Least (λ k. all_known (known_along e k) c.facts_at.result.now && all_known k old) b new) c.if-not-branch.true c.in_ok-add_along.ensures.least) in
    each-fewest-never (ways_hold family) (way_holds family) (step family) (asked c.args.needs.now) c.args.exits.now old new c.loop-e.e-index e (omega arith) c.e-item.is c.loop-e.invariant.1 least

pub returns-clause-enough : goal.returns-clause-enough
returns-clause-enough c =
    let family = c.args.family.now in
    λ yes. each-enough-all (ways_hold family) (way_holds family) (step family) (asked c.args.needs.now) c.args.exits.now (asked c.loop-e.needs) c.loop-e.e-index (omega arith) (λ k. refl) c.loop-e.invariant.0

pub returns-clause-least : goal.returns-clause-least
returns-clause-least c =
    let family = c.args.family.now in
    each-fewest-all (ways_hold family) (way_holds family) (step family) (asked c.args.needs.now) c.args.exits.now (asked c.loop-e.needs) c.loop-e.e-index c.loop-e.invariant.1
