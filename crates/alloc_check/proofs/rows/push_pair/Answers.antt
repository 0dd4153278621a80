use Rattle.std.proofs.Common.{◌≡◌, true, false, IfSome, MatchOption, refl, subst, sym, ap, ◌∙◌}
use Rattle.mir_meaning.specs.Codes.{target_of}
use Rattle.alloc_check.specs.Bare.{CountedItem, needed_reads}
use Rattle.alloc_check.proofs.Pairs.{in-both, needed-used}
use Rattle.mir_meaning.specs.Agreement.{is_counted}
use Rattle.meaning.specs.Sameness.{same_option}
use Rattle.alloc_check.specs.Compared.{Counts}
use Rattle.alloc_check.proofs.Stepping.{pair-goes, rests-apart, targets-differ}
use Rattle.alloc_check.proofs.rows.push_pair.Goals as goal

pub returns-in_ok-push_both-in-Some-clause-sides : goal.returns-in_ok-push_both-in-Some-clause-sides
returns-in_ok-push_both-in-Some-clause-sides c =
    let t = c.args.t.now in
    let f = c.args.pair.now.f.now in
    let g = c.args.pair.now.g.now in
    let b = c.args.pair.now.b.now in
    let d = c.args.pair.now.c.now in
    let i = c.args.i.now in
    let x = c.args.x.now in
    let left = c.in-Some.both.0 in
    let right = c.in-Some.both.1 in
    let items : CountedItem t f b i left.rest left.reads left.writes × CountedItem t g d x right.rest right.reads right.writes =
    subst (λ o. IfSome o (λ m. CountedItem t f b i m.0.rest m.0.reads m.0.writes × CountedItem t g d x m.1.rest m.1.reads m.1.writes)) c.in-Some.is c.in_ok-counted_items.ensures.sides in
    let own : c.target_of-target.result ≡ target_of i.operands = c.target_of-target.ensures ∙ ap target_of c.as_slice.ensures in
    let other : c.target_of-other.result ≡ target_of x.operands = c.target_of-other.ensures ∙ ap target_of c.as_slice-2.ensures in
    let e = left.rest.effect in
    let asked = needed_reads e left.reads right.reads in
    let asked' = needed_reads e right.reads left.reads in
    λ yes. in-both t f g b d i x c.args.rows.now c.push_both.new.rows left.rest right.rest left.reads right.reads asked asked' left.writes right.writes c.in_ok-ways-in-Some.ways.0 c.in_ok-ways-in-Some.ways.1 items.0 items.1
    (c.same_rest.ensures.equal c.if-not-same_rest.false)
    (needed-used e left.reads right.reads asked refl)
    (needed-used e right.reads left.reads asked' refl)
    (sym own ∙ (c.same_number.ensures.equal c.if-not-same_number.false ∙ other))
    c.requires
    c.in_ok-ways-in-Some.ensures.sides.0 c.in_ok-ways-in-Some.ensures.sides.1
    c.in_ok-push_both-in-Some.ensures

pub returns-then-not-same_number-clause-exact : goal.returns-then-not-same_number-clause-exact
returns-then-not-same_number-clause-exact c h h' alike p q =
    let i = c.args.i.now in
    let x = c.args.x.now in
    let own : c.target_of-target.result ≡ target_of i.operands = c.target_of-target.ensures ∙ ap target_of c.as_slice.ensures in
    let other : c.target_of-other.result ≡ target_of x.operands = c.target_of-other.ensures ∙ ap target_of c.as_slice-2.ensures in
    targets-differ c.args.t.now c.args.pair.now.f.now c.args.pair.now.g.now c.args.pair.now.b.now c.args.pair.now.c.now alike c.requires i x h h' ((λ k. same_option (sym own k) (sym other k)) ∙ (sym c.same_number.ensures.exact ∙ c.if-not-same_number.true)) p q

pub returns-in-None-clause-exact : goal.returns-in-None-clause-exact
returns-in-None-clause-exact c h h' alike p q =
    let t = c.args.t.now in
    let f = c.args.pair.now.f.now in
    let g = c.args.pair.now.g.now in
    let i = c.args.i.now in
    let x = c.args.x.now in
    absurd
    ((subst (λ o. MatchOption o (is_counted t i ≡ true → is_counted t x ≡ true → ⊥) (λ m. Counts t f i m.0.rest m.0.reads m.0.writes × Counts t g x m.1.rest m.1.reads m.1.writes)) c.in-None.is c.in_ok-counted_items.ensures.exact) h h')

pub returns-then-not-same_rest-clause-exact : goal.returns-then-not-same_rest-clause-exact
returns-then-not-same_rest-clause-exact c h h' alike p q =
    let t = c.args.t.now in
    let f = c.args.pair.now.f.now in
    let g = c.args.pair.now.g.now in
    let i = c.args.i.now in
    let x = c.args.x.now in
    let left = c.in-Some.both.0 in
    let right = c.in-Some.both.1 in
    let both : Counts t f i left.rest left.reads left.writes × Counts t g x right.rest right.reads right.writes =
    subst (λ o. MatchOption o (is_counted t i ≡ true → is_counted t x ≡ true → ⊥) (λ m. Counts t f i m.0.rest m.0.reads m.0.writes × Counts t g x m.1.rest m.1.reads m.1.writes)) c.in-Some.is c.in_ok-counted_items.ensures.exact in
    rests-apart t f g c.args.pair.now.b.now c.args.pair.now.c.now alike c.requires i x left.rest right.rest left.reads right.reads left.writes right.writes both.0 both.1 p q (sym c.same_rest.ensures.exact ∙ c.if-not-same_rest.true)

pub returns-in_ok-push_both-in-Some-clause-exact : goal.returns-in_ok-push_both-in-Some-clause-exact
returns-in_ok-push_both-in-Some-clause-exact c h h' alike p q =
    let t = c.args.t.now in
    let f = c.args.pair.now.f.now in
    let g = c.args.pair.now.g.now in
    let i = c.args.i.now in
    let x = c.args.x.now in
    let left = c.in-Some.both.0 in
    let right = c.in-Some.both.1 in
    let both : Counts t f i left.rest left.reads left.writes × Counts t g x right.rest right.reads right.writes =
    subst (λ o. MatchOption o (is_counted t i ≡ true → is_counted t x ≡ true → ⊥) (λ m. Counts t f i m.0.rest m.0.reads m.0.writes × Counts t g x m.1.rest m.1.reads m.1.writes)) c.in-Some.is c.in_ok-counted_items.ensures.exact in
    let own : c.target_of-target.result ≡ target_of i.operands = c.target_of-target.ensures ∙ ap target_of c.as_slice.ensures in
    let other : c.target_of-other.result ≡ target_of x.operands = c.target_of-other.ensures ∙ ap target_of c.as_slice-2.ensures in
    let e = left.rest.effect in
    let asked = needed_reads e left.reads right.reads in
    let asked' = needed_reads e right.reads left.reads in
    pair-goes t f g c.args.pair.now.b.now c.args.pair.now.c.now alike c.requires i x left.rest right.rest left.reads right.reads left.writes right.writes both.0 both.1 p q c.args.rows.now c.push_both.new.rows asked asked' c.in_ok-ways-in-Some.ways.0 c.in_ok-ways-in-Some.ways.1
    (sym c.same_rest.ensures.exact ∙ c.if-not-same_rest.false)
    ((λ k. same_option (sym own k) (sym other k)) ∙ (sym c.same_number.ensures.exact ∙ c.if-not-same_number.false))
    refl refl
    c.in_ok-ways-in-Some.ensures.exact.0 c.in_ok-ways-in-Some.ensures.exact.1
    c.in_ok-push_both-in-Some.ensures
