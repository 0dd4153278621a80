-- What is known is closed under the rules of Undef and constants, before and after an instruction.
use Rattle.std.proofs.Common.{◌≡◌, ◌∷◌, ◌&&◌, ◌||◌, ◌⊎◌, ◌∙◌, ℕ, Bool, true, false, eqb, Option, Some, None, refl, sym, ap, subst, inl, inr, []}
use Rattle.std.proofs.lemmas.Bool.{and_from, eq-eqb}
use Rattle.meaning.specs.Code.{Given}
use Rattle.meaning.specs.Facts.{Fact, Facts, Knowledge, all_known, among, everything, gives, known, known_at_start, known_both, known_first, known_left, known_second, known_unit, one_result}
use Rattle.meaning.specs.Lanes.{Writes, settled, through}
use Rattle.meaning.specs.Sameness.{same_constant, same_source}
use Rattle.meaning.specs.declared.types.Constant.{Constant}
use Rattle.meaning.specs.declared.types.Fill.{Fill}
use Rattle.meaning.specs.declared.types.Fill.TheVariants.{Computed, Moved}
use Rattle.meaning.specs.declared.types.Lane.TheVariants.{SlotLane, UnitLane, VirtualLane}
use Rattle.meaning.specs.declared.types.Source.{Source}
use Rattle.meaning.specs.declared.types.Source.TheVariants.{Bits, FromLane, Undef}
use Rattle.laws.proofs.Following.{both-true}
use Rattle.laws.proofs.Same.{constant-refl, source-true}

pub record IsClosed (k : Knowledge) : Type 0 where
  -- Undef has every fact
  pub undef : (t : Source) → k Undef t ≡ true
  -- so has what is Undef
  pub undef_all : (s t : Source) → k s Undef ≡ true → k s t ≡ true
  pub constant : (c : Constant) (low width : ℕ) → k (Bits c low width) (Bits c low width) ≡ true

bits-refl : (c : Constant) (low width : ℕ) → same_source (Bits c low width) (Bits c low width) ≡ true
bits-refl c low width = and_from (same_constant c c) (eqb low low && eqb width width) (constant-refl c) (and_from (eqb low low) (eqb width width) (eq-eqb low low refl) (eq-eqb width width refl))

pub either-true : (a b : Bool) → a || b ≡ true → (a ≡ true) ⊎ (b ≡ true)
either-true true b e = inl refl
either-true false b e = inr e

pub or-left : (a b : Bool) → a ≡ true → a || b ≡ true
or-left a b e = ap (λ x. x || b) e

pub or-right : (a b : Bool) → b ≡ true → a || b ≡ true
or-right true b e = refl
or-right false b e = e

module _ (k : Knowledge) (c : IsClosed k) where
  left-lost : (f : Fill) (t : Source) → known_left k f Undef ≡ true → known_left k f t ≡ true
  left-lost (Moved s) t h = c.undef_all s t h
  left-lost (Computed i) t h = absurd (cc)

  pub closed-first : (ws : Writes) → IsClosed (known_first ws k)
  closed-first ws = record { undef = λ t. c.undef t; undef_all = λ s t h. left-lost (through ws s) t h; constant = λ n low width. c.constant n low width }

  pub closed-second : (ws : Writes) → IsClosed (known_second ws k)
  closed-second ws = record { undef = λ t. c.undef (settled (through ws t)); undef_all = λ s t h. c.undef_all s (settled (through ws t)) h; constant = λ n low width. c.constant n low width }

no-result : (f : Fill) → one_result f (Moved Undef) ≡ false
no-result (Moved s) = refl
no-result (Computed i) = refl

pub closed-both : (k : Knowledge) → IsClosed k → (ws vs : Writes) → IsClosed (known_both ws vs k)
closed-both k c ws vs =
    let k' = known_second vs (known_first ws k) in
    let c' : IsClosed k' = closed-second (known_first ws k) (closed-first k c ws) vs in
    record {
      undef = λ t. or-right (one_result (Moved Undef) (through vs t)) (k' Undef t) (c'.undef t);
      undef_all = λ s t h. or-right (one_result (through ws s) (through vs t)) (k' s t) (c'.undef_all s t (ap (λ b. b || k' s Undef) (sym (no-result (through ws s))) ∙ h));
      constant = λ n low width. c'.constant n low width;
    }

pub closed-everything : IsClosed everything
closed-everything = record { undef = λ t. refl; undef_all = λ s t h. refl; constant = λ n low width. refl }

gives-lost : (f : Fact) (s t : Source) → gives f s Undef ≡ true → gives f s t ≡ true
gives-lost f s t h =
    let k = both-true (same_source s f.0) (same_source f.1 Undef || same_source f.1 Undef) h in
    ap (λ b. b && (same_source f.1 Undef || same_source f.1 t)) k.0 ∙ or-left (same_source f.1 Undef) (same_source f.1 t) (twice (same_source f.1 Undef) k.1)
  where
    twice : (a : Bool) → a || a ≡ true → a ≡ true
    twice true e = refl
    twice false e = e

among-lost : (facts : Facts) (s t : Source) → among facts s Undef ≡ true → among facts s t ≡ true
among-lost [] s t h = absurd (cc)
among-lost (f ∷ facts) s t h =
    elim (either-true (gives f s Undef) (among facts s Undef) h) [
      | inl e ↦ or-left (gives f s t) (among facts s t) (gives-lost f s t e)
      | inr e ↦ or-right (gives f s t) (among facts s t) (among-lost facts s t e)
    ]

known-lost : (facts : Facts) (s t : Source) → known facts s Undef ≡ true → known facts s t ≡ true
known-lost facts Undef t h = refl
known-lost facts (FromLane a) t h = among-lost facts (FromLane a) t h
known-lost facts (Bits c low width) t h = or-right (same_source (Bits c low width) t) (among facts (Bits c low width) t) (among-lost facts (Bits c low width) t h)

pub closed-known : (facts : Facts) → IsClosed (known facts)
closed-known facts = record {
  undef = λ t. refl;
  undef_all = known-lost facts;
  constant = λ c low width. or-left (same_source (Bits c low width) (Bits c low width)) (among facts (Bits c low width) (Bits c low width)) (bits-refl c low width);
}

-- facts that are known give nothing new
module _ (k : Knowledge) (c : IsClosed k) where
  given-known : (f : Fact) (s t : Source) → k f.0 f.1 ≡ true → gives f s t ≡ true → k s t ≡ true
  given-known f s t h g =
      let p = both-true (same_source s f.0) (same_source f.1 Undef || same_source f.1 t) g in
      let x : k s f.1 ≡ true = subst (λ u. k u f.1 ≡ true) (sym (source-true s f.0 p.0)) h in
      elim (either-true (same_source f.1 Undef) (same_source f.1 t) p.1) [
        | inl e ↦ c.undef_all s t (subst (λ u. k s u ≡ true) (source-true f.1 Undef e) x)
        | inr e ↦ subst (λ u. k s u ≡ true) (source-true f.1 t e) x
      ]

  among-known : (facts : Facts) (s t : Source) → all_known k facts ≡ true → among facts s t ≡ true → k s t ≡ true
  among-known [] s t h g = absurd (cc)
  among-known (f ∷ facts) s t h g =
      let p = both-true (k f.0 f.1) (all_known k facts) h in
      elim (either-true (gives f s t) (among facts s t) g) [
        | inl e ↦ given-known f s t p.0 e
        | inr e ↦ among-known facts s t p.1 e
      ]

  pub known-known : (facts : Facts) → all_known k facts ≡ true → (s t : Source) → known facts s t ≡ true → k s t ≡ true
  known-known facts h Undef t g = c.undef t
  known-known facts h (FromLane a) t g = among-known facts (FromLane a) t h g
  known-known facts h (Bits n low width) t g =
      elim (either-true (same_source (Bits n low width) t) (among facts (Bits n low width) t) g) [
        | inl e ↦ subst (λ u. k (Bits n low width) u ≡ true) (source-true (Bits n low width) t e) (c.constant n low width)
        | inr e ↦ among-known facts (Bits n low width) t h e
      ]

pub closed-start : (given given' : Given) → IsClosed (known_at_start given given')
closed-start given given' = record { undef = λ t. refl; undef_all = start-undef; constant = bits-refl }
  where
    unit-undef : (w w' : Option ℕ) (u : ℕ) (t : Source) → known_unit w w' u Undef ≡ true → known_unit w w' u t ≡ true
    unit-undef None w' u t h = refl
    unit-undef (Some w) w' u t h = absurd (cc)

    start-undef : (s t : Source) → known_at_start given given' s Undef ≡ true → known_at_start given given' s t ≡ true
    start-undef Undef t h = refl
    start-undef (FromLane (VirtualLane v k)) t h = refl
    start-undef (FromLane (SlotLane s k width)) t h = refl
    start-undef (FromLane (UnitLane u)) t h = unit-undef (given u) (given' u) u t h
    start-undef (Bits c low width) t h = absurd (cc)
