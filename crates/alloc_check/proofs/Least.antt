-- What is asked one after the other: all that is needed, and nothing more.
use Rattle.std.proofs.Common.{◌≡◌, ◌∷◌, ◌&&◌, ◌<◌, ◌≤◌, ◌+◌, ℕ, suc, Bool, true, false, List, [], refl, sym, ap, subst, ◌∙◌, drop, get_or, length}
use Rattle.std.proofs.lemmas.Bool.{and_from}
use Rattle.std.proofs.lemmas.List.{at_drop_more, at_drop_all}
use Rattle.meaning.specs.declared.types.Source.{Source}
use Rattle.meaning.specs.Lanes.{Reads}
use Rattle.meaning.specs.Facts.{Fact, Facts, Knowledge, all_known, reads_known, operands_known}
use Rattle.laws.proofs.Following.{both-true}
use Rattle.alloc_check.specs.Needs.{IsLawful, Adds, Least}
use Rattle.alloc_check.proofs.Placed.{known-more}

-- facts behind an instruction, of which the first i have been asked for in front of it; K is what is known behind it
abbrev pub Enough : (Knowledge → Knowledge) → Facts → Facts → ℕ → Facts → Type 0
Enough K init facts i needs = (k : Knowledge) → IsLawful k → all_known k needs ≡ true → (all_known k init ≡ true) × (all_known (K k) (drop i facts) ≡ all_known (K k) facts)

abbrev pub Fewest : (Knowledge → Knowledge) → Facts → Facts → ℕ → Facts → Type 0
Fewest K init facts i needs = (k : Knowledge) → IsLawful k → all_known (K k) facts ≡ true → all_known k init ≡ true → (all_known k needs ≡ true) × (all_known (K k) (drop i facts) ≡ true)

known-drop : (k : Knowledge) (facts : Facts) (i : ℕ) (f : Fact) → i < length facts → f ≡ get_or facts i f → all_known k (drop i facts) ≡ true → (k f.0 f.1 ≡ true) × (all_known k (drop (i + 1) facts) ≡ true)
known-drop k facts i f lt at h =
    both-true (k f.0 f.1) (all_known k (drop (i + 1) facts))
    (ap (λ (y : Fact). k y.0 y.1 && all_known k (drop (i + 1) facts)) at ∙ (sym (at_drop_more (all_known k) facts i f lt) ∙ h))

module _ (K : Knowledge → Knowledge) (init : Facts) where
  pub enough-none : (facts : Facts) → Enough K init facts 0 init
  enough-none facts k l h = (h, refl)

  pub fewest-none : (facts : Facts) → Fewest K init facts 0 init
  fewest-none facts k l h e = (e, h)

  module _ (facts old new : Facts) (i : ℕ) (f g : Fact) (lt : i < length facts) (at : f ≡ get_or facts i f) where
    pub enough-next : Enough K init facts i old → ((k : Knowledge) → k g.0 g.1 ≡ true → K k f.0 f.1 ≡ true) → Adds old (λ k. k g.0 g.1) new → Enough K init facts (i + 1) new
    enough-next inv back adds k l h =
        let p = both-true (k g.0 g.1) (all_known k old) (adds k l h) in
        let q = inv k l p.1 in
        (q.0, known-more (K k) facts i f lt (subst (λ (y : Fact). K k y.0 y.1 ≡ true) at (back k p.0)) ∙ q.1)

    pub fewest-next : Fewest K init facts i old → ((k : Knowledge) → IsLawful k → K k f.0 f.1 ≡ true → k g.0 g.1 ≡ true) → Least (λ k. k g.0 g.1 && all_known k old) true new → Fewest K init facts (i + 1) new
    fewest-next inv back least k l h e =
        let q = inv k l h e in
        let here = known-drop (K k) facts i f lt at q.1 in
        let r = least k l (and_from (k g.0 g.1) (all_known k old) (back k l here.0) q.0) in
        (r.1, here.1)

  -- a fact that can't be known
  pub fewest-never : (facts old new : Facts) (i : ℕ) (f : Fact) → i < length facts → f ≡ get_or facts i f → Fewest K init facts i old → ((k : Knowledge) → K k f.0 f.1 ≡ false) → Least (λ k. all_known (K k) facts && all_known k init) false new
  fewest-never facts old new i f lt at inv never k l h =
      let p = both-true (all_known (K k) facts) (all_known k init) h in
      let answer : K k f.0 f.1 ≡ true = (known-drop (K k) facts i f lt at (inv k l p.0 p.1).1).0 in
      let apart : K k f.0 f.1 ≡ false = never k in
      absurd (cc)

  pub enough-all : (facts needs : Facts) (i : ℕ) → length facts ≤ i → Enough K init facts i needs → Adds init (λ k. all_known (K k) facts) needs
  enough-all facts needs i le inv k l h =
      let q = inv k l h in
      and_from (all_known (K k) facts) (all_known k init) (sym q.1 ∙ at_drop_all (all_known (K k)) facts i le) q.0

  pub fewest-all : (facts needs : Facts) (i : ℕ) → Fewest K init facts i needs → Least (λ k. all_known (K k) facts && all_known k init) true needs
  fewest-all facts needs i inv k l h =
      let p = both-true (all_known (K k) facts) (all_known k init) h in
      (refl, (inv k l p.0 p.1).0)

-- two lists of which a test asks place by place
abbrev pub EnoughPairs : {X : Type 0} → (Knowledge → List X → List X → Bool) → Facts → List X → List X → ℕ → Facts → Type 0
EnoughPairs T init xs ys i needs = (k : Knowledge) → IsLawful k → all_known k needs ≡ true → (all_known k init ≡ true) × (T k (drop i xs) (drop i ys) ≡ T k xs ys)

abbrev pub FewestPairs : {X : Type 0} → (Knowledge → List X → List X → Bool) → Facts → List X → List X → ℕ → Facts → Type 0
FewestPairs T init xs ys i needs = (k : Knowledge) → IsLawful k → T k xs ys ≡ true → all_known k init ≡ true → (all_known k needs ≡ true) × (T k (drop i xs) (drop i ys) ≡ true)

module _ {X : Type 0} (T : Knowledge → List X → List X → Bool) (one : Knowledge → X → X → Bool) (step : (k : Knowledge) (x y : X) (xs ys : List X) → T k (x ∷ xs) (y ∷ ys) ≡ one k x y && T k xs ys) (init : Facts) (xs ys : List X) where
  pub pairs-enough-none : EnoughPairs T init xs ys 0 init
  pairs-enough-none k l h = (h, refl)

  pub pairs-fewest-none : FewestPairs T init xs ys 0 init
  pairs-fewest-none k l h e = (e, h)

  module _ (old new : Facts) (i : ℕ) (x y : X) (lt : i < length xs) (lt' : i < length ys) (at : x ≡ get_or xs i x) (at' : y ≡ get_or ys i y) where
    pairs-at : (k : Knowledge) → T k (drop i xs) (drop i ys) ≡ one k x y && T k (drop (i + 1) xs) (drop (i + 1) ys)
    pairs-at k =
        at_drop_more (λ zs. T k zs (drop i ys)) xs i x lt
        ∙ (ap (λ z. T k (z ∷ drop (i + 1) xs) (drop i ys)) (sym at)
        ∙ (at_drop_more (λ zs. T k (x ∷ drop (i + 1) xs) zs) ys i y lt'
        ∙ (ap (λ z. T k (x ∷ drop (i + 1) xs) (z ∷ drop (i + 1) ys)) (sym at')
        ∙ step k x y (drop (i + 1) xs) (drop (i + 1) ys))))

    pub pairs-enough-next : EnoughPairs T init xs ys i old → Adds old (λ k. one k x y) new → EnoughPairs T init xs ys (i + 1) new
    pairs-enough-next inv adds k l h =
        let p = both-true (one k x y) (all_known k old) (adds k l h) in
        let q = inv k l p.1 in
        (q.0, sym (pairs-at k ∙ ap (λ b. b && T k (drop (i + 1) xs) (drop (i + 1) ys)) p.0) ∙ q.1)

    pub pairs-fewest-more : (answer : Bool) → FewestPairs T init xs ys i old → Least (λ k. one k x y && all_known k old) answer new → (k : Knowledge) → IsLawful k → T k xs ys ≡ true → all_known k init ≡ true →
        (answer ≡ true) × ((all_known k new ≡ true) × (T k (drop (i + 1) xs) (drop (i + 1) ys) ≡ true))
    pairs-fewest-more answer inv least k l h e =
        let q = inv k l h e in
        let here = both-true (one k x y) (T k (drop (i + 1) xs) (drop (i + 1) ys)) (sym (pairs-at k) ∙ q.1) in
        let r = least k l (and_from (one k x y) (all_known k old) here.0 q.0) in
        (r.0, (r.1, here.1))

    pub pairs-fewest-next : (answer : Bool) → FewestPairs T init xs ys i old → Least (λ k. one k x y && all_known k old) answer new → FewestPairs T init xs ys (i + 1) new
    pairs-fewest-next answer inv least k l h e = (pairs-fewest-more answer inv least k l h e).1

    -- what one pair can't have
    pub pairs-fewest-never : FewestPairs T init xs ys i old → Least (λ k. one k x y && all_known k old) false new → Least (λ k. T k xs ys && all_known k init) false new
    pairs-fewest-never inv least k l h =
        let p = both-true (T k xs ys) (all_known k init) h in
        let r = pairs-fewest-more false inv least k l p.0 p.1 in
        (r.0, r.1.0)

  pub pairs-enough-all : (needs : Facts) (i : ℕ) → length xs ≤ i → length ys ≤ i → ((k : Knowledge) → T k [] [] ≡ true) → EnoughPairs T init xs ys i needs → Adds init (λ k. T k xs ys) needs
  pairs-enough-all needs i le le' none inv k l h =
      let q = inv k l h in
      and_from (T k xs ys) (all_known k init)
      (sym q.1 ∙ (at_drop_all (λ zs. T k zs (drop i ys)) xs i le ∙ (at_drop_all (λ zs. T k [] zs) ys i le' ∙ none k))) q.0

  pub pairs-fewest-all : (needs : Facts) (i : ℕ) → FewestPairs T init xs ys i needs → Least (λ k. T k xs ys && all_known k init) true needs
  pairs-fewest-all needs i inv k l h =
      let p = both-true (T k xs ys) (all_known k init) h in
      (refl, (inv k l p.0 p.1).0)

pub reads-step : (k : Knowledge) (s t : Source) (ss ts : List Source) → reads_known k (s ∷ ss) (t ∷ ts) ≡ k s t && reads_known k ss ts
reads-step k s t ss ts = refl

pub operands-step : (k : Knowledge) (ss ts : List Source) (reads reads' : Reads) → operands_known k (ss ∷ reads) (ts ∷ reads') ≡ reads_known k ss ts && operands_known k reads reads'
operands-step k ss ts reads reads' = refl

-- known lists are of one length
reads-long : (k : Knowledge) (ss ts : List Source) → reads_known k ss ts ≡ true → length ss ≡ length ts
reads-long k [] [] h = refl
reads-long k [] (t ∷ ts) h = absurd (cc)
reads-long k (s ∷ ss) [] h = absurd (cc)
reads-long k (s ∷ ss) (t ∷ ts) h = ap suc (reads-long k ss ts (both-true (k s t) (reads_known k ss ts) h).1)

operands-long : (k : Knowledge) (ss ts : Reads) → operands_known k ss ts ≡ true → length ss ≡ length ts
operands-long k [] [] h = refl
operands-long k [] (t ∷ ts) h = absurd (cc)
operands-long k (s ∷ ss) [] h = absurd (cc)
operands-long k (s ∷ ss) (t ∷ ts) h = ap suc (operands-long k ss ts (both-true (reads_known k s t) (operands_known k ss ts) h).1)

pub reads-never : (ss ts : List Source) (init new : Facts) → (length ss ≡ length ts → ⊥) → Least (λ k. reads_known k ss ts && all_known k init) false new
reads-never ss ts init new apart k l h = absurd (apart (reads-long k ss ts (both-true (reads_known k ss ts) (all_known k init) h).0))

pub operands-never : (ss ts : Reads) (init new : Facts) → (length ss ≡ length ts → ⊥) → Least (λ k. operands_known k ss ts && all_known k init) false new
operands-never ss ts init new apart k l h = absurd (apart (operands-long k ss ts (both-true (operands_known k ss ts) (all_known k init) h).0))

-- a list of which a test asks element by element
abbrev pub EnoughEach : {X : Type 0} → (Knowledge → List X → Bool) → Facts → List X → ℕ → Facts → Type 0
EnoughEach T init xs i needs = (k : Knowledge) → IsLawful k → all_known k needs ≡ true → (all_known k init ≡ true) × (T k (drop i xs) ≡ T k xs)

abbrev pub FewestEach : {X : Type 0} → (Knowledge → List X → Bool) → Facts → List X → ℕ → Facts → Type 0
FewestEach T init xs i needs = (k : Knowledge) → IsLawful k → T k xs ≡ true → all_known k init ≡ true → (all_known k needs ≡ true) × (T k (drop i xs) ≡ true)

module _ {X : Type 0} (T : Knowledge → List X → Bool) (one : Knowledge → X → Bool) (step : (k : Knowledge) (x : X) (xs : List X) → T k (x ∷ xs) ≡ one k x && T k xs) (init : Facts) (xs : List X) where
  pub each-enough-none : EnoughEach T init xs 0 init
  each-enough-none k l h = (h, refl)

  pub each-fewest-none : FewestEach T init xs 0 init
  each-fewest-none k l h e = (e, h)

  module _ (old new : Facts) (i : ℕ) (x : X) (lt : i < length xs) (at : x ≡ get_or xs i x) where
    each-at : (k : Knowledge) → T k (drop i xs) ≡ one k x && T k (drop (i + 1) xs)
    each-at k = at_drop_more (T k) xs i x lt ∙ (ap (λ z. T k (z ∷ drop (i + 1) xs)) (sym at) ∙ step k x (drop (i + 1) xs))

    pub each-enough-next : EnoughEach T init xs i old → Adds old (λ k. one k x) new → EnoughEach T init xs (i + 1) new
    each-enough-next inv adds k l h =
        let p = both-true (one k x) (all_known k old) (adds k l h) in
        let q = inv k l p.1 in
        (q.0, sym (each-at k ∙ ap (λ b. b && T k (drop (i + 1) xs)) p.0) ∙ q.1)

    each-fewest-more : (answer : Bool) → FewestEach T init xs i old → Least (λ k. one k x && all_known k old) answer new → (k : Knowledge) → IsLawful k → T k xs ≡ true → all_known k init ≡ true →
        (answer ≡ true) × ((all_known k new ≡ true) × (T k (drop (i + 1) xs) ≡ true))
    each-fewest-more answer inv least k l h e =
        let q = inv k l h e in
        let here = both-true (one k x) (T k (drop (i + 1) xs)) (sym (each-at k) ∙ q.1) in
        let r = least k l (and_from (one k x) (all_known k old) here.0 q.0) in
        (r.0, (r.1, here.1))

    pub each-fewest-next : (answer : Bool) → FewestEach T init xs i old → Least (λ k. one k x && all_known k old) answer new → FewestEach T init xs (i + 1) new
    each-fewest-next answer inv least k l h e = (each-fewest-more answer inv least k l h e).1

    pub each-fewest-never : FewestEach T init xs i old → Least (λ k. one k x && all_known k old) false new → Least (λ k. T k xs && all_known k init) false new
    each-fewest-never inv least k l h =
        let p = both-true (T k xs) (all_known k init) h in
        let r = each-fewest-more false inv least k l p.0 p.1 in
        (r.0, r.1.0)

  pub each-enough-all : (needs : Facts) (i : ℕ) → length xs ≤ i → ((k : Knowledge) → T k [] ≡ true) → EnoughEach T init xs i needs → Adds init (λ k. T k xs) needs
  each-enough-all needs i le none inv k l h =
      let q = inv k l h in
      and_from (T k xs) (all_known k init) (sym q.1 ∙ (at_drop_all (T k) xs i le ∙ none k)) q.0

  pub each-fewest-all : (needs : Facts) (i : ℕ) → FewestEach T init xs i needs → Least (λ k. T k xs && all_known k init) true needs
  each-fewest-all needs i inv k l h =
      let p = both-true (T k xs) (all_known k init) h in
      (refl, (inv k l p.0 p.1).0)
