-- Sums that stop at the greatest number.
use Rattle.std.proofs.Common.{◌≡◌, ◌∙◌, ℕ, ◌+◌, ◌<◌, ◌≤◌, List, [], ◌∷◌, ◌++◌, refl, sym, ap, length, map, take, get_or, arith}
use Rattle.std.specs.List.{sum_by, fold}
use Rattle.std.proofs.lemmas.List.{take_more, take_all}
use Rattle.split_choose.specs.declared.spans.Span.{Span}
use Rattle.split_choose.specs.declared.regions.InsidePart.{InsidePart}
use Rattle.split_choose.specs.declared.regions.InsidePart.TheVariants as places
use Rattle.split_choose.specs.Regions.{capped, uses_of, span_cost, costs_of}
use Rattle.split_choose.proofs.Walks.{mapped-at}

fold-push : {X : Type 0} (f : X → ℕ) (a : ℕ) (xs : List X) (x : X) → fold (λ n y. n + f y) a (xs ++ x ∷ []) ≡ fold (λ n y. n + f y) a xs + f x
fold-push f a [] x = refl
fold-push f a (y ∷ ys) x = fold-push f (a + f y) ys x

pub sum_push : {X : Type 0} (f : X → ℕ) (xs : List X) (x : X) → sum_by f (xs ++ x ∷ []) ≡ sum_by f xs + f x
sum_push f xs x = fold-push f 0 xs x

pub capped_more : (a b c : ℕ) → a ≡ capped b → capped (a + c) ≡ capped (b + c)
capped_more a b c e = omega arith

pub uses_next : (spans : List Span) (k : ℕ) (s : Span) (sum : ℕ) → k < length spans → s ≡ get_or spans k s → sum ≡ capped (uses_of (take k spans)) → capped (sum + s.uses) ≡ capped (uses_of (take (k + 1) spans))
uses_next spans k s sum h at was =
    capped_more sum (uses_of (take k spans)) s.uses was
    ∙ ap capped (sym (ap uses_of (take_more spans k s h ∙ ap (λ y. take k spans ++ y ∷ []) (sym at)) ∙ sum_push (λ (x : Span). x.uses) (take k spans) s))

pub uses_last : (spans : List Span) (k sum : ℕ) → length spans ≤ k → sum ≡ capped (uses_of (take k spans)) → sum ≡ capped (uses_of spans)
uses_last spans k sum h was = was ∙ ap (λ xs. capped (uses_of xs)) (take_all k spans h)

pub ruleset uses = (uses_next, uses_last)

pub costs_next : (test : Span → InsidePart) (spans : List Span) (insides : List InsidePart) (k : ℕ) (s : Span) (cost here : ℕ) → k < length spans → s ≡ get_or spans k s → insides ≡ map test spans → here ≡ span_cost s (get_or insides k places.Nowhere) → cost ≡ capped (costs_of test (take k spans)) → capped (cost + here) ≡ capped (costs_of test (take (k + 1) spans))
costs_next test spans insides k s cost here h at are is was =
    let e : get_or insides k places.Nowhere ≡ test s = ap (λ xs. get_or xs k places.Nowhere) are ∙ mapped-at test spans k s places.Nowhere h at in
    capped_more cost (costs_of test (take k spans)) here was
    ∙ ap (λ n. capped (costs_of test (take k spans) + n)) (is ∙ ap (span_cost s) e)
    ∙ ap capped (sym (ap (costs_of test) (take_more spans k s h ∙ ap (λ y. take k spans ++ y ∷ []) (sym at)) ∙ sum_push (λ (x : Span). span_cost x (test x)) (take k spans) s))

pub costs_last : (test : Span → InsidePart) (spans : List Span) (k cost : ℕ) → length spans ≤ k → cost ≡ capped (costs_of test (take k spans)) → cost ≡ capped (costs_of test spans)
costs_last test spans k cost h was = was ∙ ap (λ xs. capped (costs_of test xs)) (take_all k spans h)

pub ruleset costs = (costs_next, costs_last)
