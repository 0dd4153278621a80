-- What lawful knowledge knows.
use Rattle.std.proofs.Common.{◌≡◌, ◌∷◌, ◌++◌, ◌&&◌, ◌||◌, Bool, true, false, [], refl, sym, ap, subst, ◌∙◌, inl, inr, Result, Ok, Err, OnOk, IfOk}
use Rattle.std.proofs.lemmas.Bool.{and_from}
use Rattle.meaning.specs.declared.types.Source.{Source}
use Rattle.meaning.specs.declared.types.Source.TheVariants.{FromLane, Undef, Bits}
use Rattle.meaning.specs.Sameness.{same_source}
use Rattle.meaning.specs.Facts.{Fact, Facts, Knowledge, all_known, always, known, gives, among, known_at_start}
use Rattle.meaning.specs.Code.{Given}
use Rattle.laws.proofs.Following.{both-true}
use Rattle.laws.proofs.Same.{source-true, constant-refl}
use Rattle.laws.proofs.Quiet.{same-refl}
use Rattle.meaning.specs.Sameness.{same_constant}
use Rattle.std.proofs.lemmas.Bool.{eq-eqb}
use Rattle.std.proofs.Common.{eqb}
use Rattle.laws.proofs.Closed.{either-true, or-left, or-right, closed-known}
use Rattle.alloc_check.specs.Needs.{IsLawful, Lead, Adds, Has}

pub lawful-always : (k : Knowledge) → IsLawful k → (s t : Source) → always s t ≡ true → k s t ≡ true
lawful-always k l Undef t e = l.undef t
lawful-always k l (FromLane a) t e = absurd (cc)
lawful-always k l (Bits c low width) t e = subst (λ u. k (Bits c low width) u ≡ true) (source-true (Bits c low width) t e) (l.constant c low width)

pub lawful-known : (facts : Facts) → IsLawful (known facts)
lawful-known facts = record { undef = (closed-known facts).undef; constant = (closed-known facts).constant }

-- what always holds and what is asked already needn't be asked
pub added-always : (old : Facts) (f : Fact) → always f.0 f.1 ≡ true → Adds old (λ k. k f.0 f.1) old
added-always old f e k l h = and_from (k f.0 f.1) (all_known k old) (lawful-always k l f.0 f.1 e) h

pub added-has : (old : Facts) (f : Fact) → Has old f → Adds old (λ k. k f.0 f.1) old
added-has old f e k l h = and_from (k f.0 f.1) (all_known k old) (e k h) h

pub known-always : (facts : Facts) (s t : Source) → always s t ≡ true → known facts s t ≡ true
known-always facts s t e = or-left (always s t) _ e

source-refl : (s : Source) → same_source s s ≡ true
source-refl (FromLane a) = same-refl a
source-refl Undef = refl
source-refl (Bits c low width) = and_from (same_constant c c) (eqb low low && eqb width width) (constant-refl c) (and_from (eqb low low) (eqb width width) (eq-eqb low low refl) (eq-eqb width width refl))

gives-itself : (f : Fact) → gives f f.0 f.1 ≡ true
gives-itself f = and_from (same_source f.0 f.0) (same_source f.1 Undef || same_source f.1 f.1) (source-refl f.0) (or-right (same_source f.1 Undef) (same_source f.1 f.1) (source-refl f.1))

more-known : (facts : Facts) (x : Fact) (s t : Source) → known facts s t ≡ true → known (x ∷ facts) s t ≡ true
more-known facts x s t h =
    elim (either-true (always s t) (among facts s t) h) [
      | inl e ↦ or-left (always s t) (gives x s t || among facts s t) e
      | inr e ↦ or-right (always s t) (gives x s t || among facts s t) (or-right (gives x s t) (among facts s t) e)
    ]

all-more-known : (facts : Facts) (x : Fact) (rest : Facts) → all_known (known facts) rest ≡ true → all_known (known (x ∷ facts)) rest ≡ true
all-more-known facts x [] h = refl
all-more-known facts x (f ∷ rest) h =
    let p = both-true (known facts f.0 f.1) (all_known (known facts) rest) h in
    and_from (known (x ∷ facts) f.0 f.1) (all_known (known (x ∷ facts)) rest) (more-known facts x f.0 f.1 p.0) (all-more-known facts x rest p.1)

-- facts know themselves
pub facts-known : (facts : Facts) → all_known (known facts) facts ≡ true
facts-known [] = refl
facts-known (x ∷ facts) =
    and_from (known (x ∷ facts) x.0 x.1) (all_known (known (x ∷ facts)) facts)
    (or-right (always x.0 x.1) (gives x x.0 x.1 || among facts x.0 x.1) (or-left (gives x x.0 x.1) (among facts x.0 x.1) (gives-itself x)))
    (all-more-known facts x facts (facts-known facts))

pub known-has : (facts : Facts) (f : Fact) → Has facts f → known facts f.0 f.1 ≡ true
known-has facts f h = h (known facts) (facts-known facts)

pub all-append : (k : Knowledge) (xs ys : Facts) → all_known k (xs ++ ys) ≡ all_known k xs && all_known k ys
all-append k [] ys = refl
all-append k (f ∷ xs) ys = ap (λ b. k f.0 f.1 && b) (all-append k xs ys) ∙ and-assoc (k f.0 f.1) (all_known k xs) (all_known k ys)
  where
    and-assoc : (a b c : Bool) → a && (b && c) ≡ (a && b) && c
    and-assoc true b c = refl
    and-assoc false b c = refl

and-swapped : (a b : Bool) → a && (b && true) ≡ true → b && a ≡ true
and-swapped true true h = refl
and-swapped true false h = absurd (cc)
and-swapped false b h = absurd (cc)

pub added-push : (old : Facts) (f : Fact) → Adds old (λ k. k f.0 f.1) (old ++ f ∷ [])
added-push old f k l h = and-swapped (all_known k old) (k f.0 f.1) (sym (all-append k old (f ∷ [])) ∙ h)

pub ok-more : {A E P Q : Type 0} (r : Result A E) → (P → Q) → OnOk r P → OnOk r Q
ok-more (Ok a) f h = f h
ok-more (Err e) f h = h

pub if-more : {A E : Type 0} (P Q : A → Type 0) (r : Result A E) → ((a : A) → P a → Q a) → IfOk r P → IfOk r Q
if-more P Q (Ok a) f h = f a h
if-more P Q (Err e) f h = h

pub lawful-start : (a b : Given) → IsLawful (known_at_start a b)
lawful-start a b = record { undef = λ t. refl; constant = λ c low width. source-refl (Bits c low width) }

-- needs that were put otherwise, and then more
pub adds-behind : (old middle new : Facts) (test : Knowledge → Bool) → Lead middle (λ k. all_known k old) → Adds middle test new → Adds old test new
adds-behind old middle new test lead adds k l h =
    let p = both-true (test k) (all_known k middle) (adds k l h) in
    and_from (test k) (all_known k old) p.0 (lead k l p.1)

pub same-leads : (facts : Facts) → Lead facts (λ k. all_known k facts)
same-leads facts k l h = h

pub added-leads : (old new : Facts) → Adds [] (λ k. all_known k old) new → Lead new (λ k. all_known k old)
added-leads old new adds k l h = (both-true (all_known k old) true (adds k l h)).0
