use Rattle.std.proofs.Common.{◌≡◌, true, Some, None, IfSome, subst, arith}
use Rattle.meaning.specs.Facts.{Knowledge}
use Rattle.meaning.specs.Agree.{known_along}
use Rattle.alloc_check.specs.Needs.{IsInstead}
use Rattle.alloc_check.specs.Cells.{asked}
use Rattle.alloc_check.proofs.Least.{enough-none, fewest-none, enough-next, fewest-next, fewest-never, enough-all, fewest-all}
use Rattle.alloc_check.proofs.needs.add_along.Goals as goal

pub loop-f-init : goal.loop-f-init
loop-f-init c =
    let K = known_along c.args.way.now in
    let init = asked c.args.needs.now in
    (enough-none K init c.args.facts.now, fewest-none K init c.args.facts.now)

pub loop-f-preserved : goal.loop-f-preserved
loop-f-preserved c =
    let K = known_along c.args.way.now in
    let init = asked c.args.needs.now in
    let facts = c.args.facts.now in
    let old = asked c.loop-f.needs in
    let new = asked c.add.new.self in
    let i = c.loop-f.f-index in
    let f = c.f-item.result in
    let g = c.in-Some.asked in
    let back : (k : Knowledge) → k g.0 g.1 ≡ true → K k f.0 f.1 ≡ true =
    subst (λ o. IfSome o (λ g. (k : Knowledge) → k g.0 g.1 ≡ true → known_along c.args.way.now k f.0 f.1 ≡ true)) c.in-Some.is c.in_ok-before_way.ensures.enough in
    let instead : IsInstead K f (Some g) = subst (IsInstead K f) c.in-Some.is c.in_ok-before_way.ensures.least in (
      enough-next K init facts old new i f g (omega arith) c.f-item.is c.loop-f.invariant.0 back c.in_ok-add-in-Some.ensures.enough,
      fewest-next K init facts old new i f g (omega arith) c.f-item.is c.loop-f.invariant.1 instead c.in_ok-add-in-Some.ensures.least,
    )

pub returns-in-None-clause-least : goal.returns-in-None-clause-least
returns-in-None-clause-least c =
    let K = known_along c.args.way.now in
    let f = c.f-item.result in
    let never : IsInstead K f None = subst (IsInstead K f) c.in-None.is c.in_ok-before_way.ensures.least in
    fewest-never K (asked c.args.needs.now) c.args.facts.now (asked c.loop-f.needs) (asked c.loop-f.needs) c.loop-f.f-index f (omega arith) c.f-item.is c.loop-f.invariant.1 never

pub returns-clause-enough : goal.returns-clause-enough
returns-clause-enough c = λ yes. enough-all (known_along c.args.way.now) (asked c.args.needs.now) c.args.facts.now (asked c.loop-f.needs) c.loop-f.f-index (omega arith) c.loop-f.invariant.0

pub returns-clause-least : goal.returns-clause-least
returns-clause-least c = fewest-all (known_along c.args.way.now) (asked c.args.needs.now) c.args.facts.now (asked c.loop-f.needs) c.loop-f.f-index c.loop-f.invariant.1
