-- The best run, register by register.
use Rattle.std.proofs.Common.{◌≡◌, ◌∙◌, ◌⊎◌, inl, inr, ℕ, zero, suc, ◌+◌, ◌-◌, ◌<◌, ◌≤◌, Bool, true, false, cond, refl, sym, ap, subst, arith, List, [], ◌∷◌, Option, None, Some, length, get_or}
use Rattle.std.specs.Prelude.{slice_get, nat_lt, nat_eq, ◌&&◌}
use Rattle.std.proofs.lemmas.Bool.{ltb-true, ltb-false, eqb-true, cases_lt, or_cases, or_parts, and_parts, and_from, eq-eqb, lt-ltb, true≢false}
use Rattle.target_base.specs.declared.types.Reg.{Reg}
use Rattle.split_choose.specs.declared.runs.PlaceRun.{PlaceRun}
use Rattle.split_choose.specs.LongRuns.{IsWithin, IsRun, IsLongest, IsLongestRun, IsBest, IsBestRun, is_better, better_of}

same-register : (rs : List Reg) (k j : ℕ) (p q : Reg) → k ≡ j → slice_get rs k ≡ Some p → slice_get rs j ≡ Some q → p ≡ q
same-register rs k j p q h e g = let a : slice_get rs k ≡ slice_get rs j = ap (slice_get rs) h in cc

at-index : {X : Type 0} (xs : List X) (k : ℕ) (x : X) → k < length xs → x ≡ get_or xs k x → slice_get xs k ≡ Some x
at-index [] k x h e = absurd (omega arith)
at-index (y ∷ xs) zero x h e = ap Some (sym e)
at-index (y ∷ xs) (suc k) x h e = at-index xs k x (omega arith) e

pub get-within : {X : Type 0} (xs : List X) (k : ℕ) (x : X) → slice_get xs k ≡ Some x → k < length xs
get-within [] k x e = cc
get-within (y ∷ xs) zero x e = omega arith
get-within (y ∷ xs) (suc k) x e = let h = get-within xs k x e in omega arith

same-default : {X : Type 0} (xs : List X) (k : ℕ) (d e : X) → k < length xs → get_or xs k d ≡ get_or xs k e
same-default [] k d e h = absurd (omega arith)
same-default (x ∷ xs) zero d e h = refl
same-default (x ∷ xs) (suc k) d e h = same-default xs k d e (omega arith)

-- the run is the better one
beats : (r old : PlaceRun) → is_better r (Some old) ≡ true → (old.len < r.len) ⊎ ((r.len ≡ old.len) × (r.first < old.first))
beats r old h = elim (or_cases (nat_lt old.len r.len) (nat_eq r.len old.len && nat_lt r.first old.first) h) [
  | inl e ↦ inl (ltb-true old.len r.len e)
  | inr e ↦ (let p = and_parts (nat_eq r.len old.len) (nat_lt r.first old.first) e in inr (eqb-true r.len old.len p.0, ltb-true r.first old.first p.1))
]

-- it isn't
loses : (r old : PlaceRun) → is_better r (Some old) ≡ false → (r.len ≤ old.len) × (r.len ≡ old.len → old.first ≤ r.first)
loses r old h =
    let p = or_parts (nat_lt old.len r.len) (nat_eq r.len old.len && nat_lt r.first old.first) h in (
      ltb-false old.len r.len p.0,
      λ e. elim (cases_lt r.first old.first) [
        | inl l ↦ absurd (true≢false (sym (and_from (nat_eq r.len old.len) (nat_lt r.first old.first) (eq-eqb r.len old.len e) (lt-ltb r.first old.first l)) ∙ p.1))
        | inr l ↦ l
      ],
    )

module _ (near : Reg → ℕ → Bool) (count : ℕ) (rs : List Reg) where
  pub none-yet : IsBestRun near count rs 0 None
  none-yet j f l r h e w run = absurd (omega arith)

  -- no run of an earlier register is longer, or as long and no later
  abbrev Behind : ℕ → PlaceRun → Type 0
  Behind k b = (j f l : ℕ) (r : Reg) → j < k → slice_get rs j ≡ Some r → IsWithin count f l → IsRun (near r) f l → (l < b.len) ⊎ ((l ≡ b.len) × (b.first < f))

  found : (k : ℕ) (b : PlaceRun) (r : Reg) → slice_get rs k ≡ Some r → IsLongest (near r) count count b.first b.len → b.register ≡ r → Behind k b → IsBest near count rs (k + 1) b
  found k b r at h named behind = record {
    place = k;
    before = omega arith;
    register = at ∙ ap Some (sym named);
    within = h.within;
    run = (let P : Reg → Type 0 = λ q. IsRun (near q) b.first b.len in subst P (sym named) h.run);
    longest = longest;
    earliest = earliest;
    foremost = foremost;
  }
    where
      here : (j f l : ℕ) (q : Reg) → k ≤ j → j < k + 1 → slice_get rs j ≡ Some q → IsRun (near q) f l → IsRun (near r) f l
      here j f l q a z e run = let s : j ≡ k = omega arith in let P : Reg → Type 0 = λ q. IsRun (near q) f l in subst P (same-register rs j k q r s e at) run

      longest : (j f l : ℕ) (q : Reg) → j < k + 1 → slice_get rs j ≡ Some q → IsWithin count f l → IsRun (near q) f l → l ≤ b.len
      longest j f l q z e w run = elim (cases_lt j k) [
        | inl early ↦ elim (behind j f l q early e w run) [ inl less ↦ omega arith | inr same ↦ omega (arith, same.0) ]
        | inr last ↦ h.longest f l w w.inside (here j f l q last z e run)
      ]

      earliest : (j f : ℕ) (q : Reg) → j < k + 1 → slice_get rs j ≡ Some q → IsWithin count f b.len → IsRun (near q) f b.len → b.first ≤ f
      earliest j f q z e w run = elim (cases_lt j k) [
        | inl early ↦ elim (behind j f b.len q early e w run) [ inl less ↦ absurd (omega arith) | inr same ↦ omega (arith, same.1) ]
        | inr last ↦ h.earliest f w w.inside (here j f b.len q last z e run)
      ]

      foremost : (j : ℕ) (q : Reg) → j < k + 1 → slice_get rs j ≡ Some q → IsRun (near q) b.first b.len → k ≤ j
      foremost j q z e run = elim (cases_lt j k) [
        | inl early ↦ elim (behind j b.first b.len q early e h.within run) [ inl less ↦ absurd (omega arith) | inr same ↦ absurd (omega (arith, same.1)) ]
        | inr last ↦ last
      ]

  kept : (k : ℕ) (b old : PlaceRun) (r : Reg) → slice_get rs k ≡ Some r → IsLongest (near r) count count b.first b.len → IsBest near count rs k old → is_better b (Some old) ≡ false → IsBest near count rs (k + 1) old
  kept k b old r at h was worse = record {
    place = was.place;
    before = (let p = was.before in omega arith);
    register = was.register;
    within = was.within;
    run = was.run;
    longest = longest;
    earliest = earliest;
    foremost = foremost;
  }
    where
      less : (b.len ≤ old.len) × (b.len ≡ old.len → old.first ≤ b.first)
      less = loses b old worse

      here : (j f l : ℕ) (q : Reg) → k ≤ j → j < k + 1 → slice_get rs j ≡ Some q → IsRun (near q) f l → IsRun (near r) f l
      here j f l q a z e run = let s : j ≡ k = omega arith in let P : Reg → Type 0 = λ q. IsRun (near q) f l in subst P (same-register rs j k q r s e at) run

      longest : (j f l : ℕ) (q : Reg) → j < k + 1 → slice_get rs j ≡ Some q → IsWithin count f l → IsRun (near q) f l → l ≤ old.len
      longest j f l q z e w run = elim (cases_lt j k) [
        | inl early ↦ was.longest j f l q early e w run
        | inr last ↦ (let m = h.longest f l w w.inside (here j f l q last z e run) in omega (arith, less.0))
      ]

      earliest : (j f : ℕ) (q : Reg) → j < k + 1 → slice_get rs j ≡ Some q → IsWithin count f old.len → IsRun (near q) f old.len → old.first ≤ f
      earliest j f q z e w run = elim (cases_lt j k) [
        | inl early ↦ was.earliest j f q early e w run
        | inr last ↦
            (let own = here j f old.len q last z e run in
            let m = h.longest f old.len w w.inside own in
            let same : b.len ≡ old.len = omega (arith, less.0) in
            let P : ℕ → Type 0 = λ n. IsRun (near r) f n in
            let W : ℕ → Type 0 = λ n. IsWithin count f n in
            let w2 = subst W (sym same) w in
            let first = h.earliest f w2 w2.inside (subst P (sym same) own) in
            omega (arith, less.1 same))
      ]

      foremost : (j : ℕ) (q : Reg) → j < k + 1 → slice_get rs j ≡ Some q → IsRun (near q) old.first old.len → was.place ≤ j
      foremost j q z e run = elim (cases_lt j k) [ inl early ↦ was.foremost j q early e run | inr last ↦ (let p = was.before in omega arith) ]

  -- no run of the register changes nothing
  passed : (k : ℕ) (best : Option PlaceRun) (r : Reg) → slice_get rs k ≡ Some r → ((f l : ℕ) → IsWithin count f l → f + l ≤ count → IsRun (near r) f l → ⊥) → IsBestRun near count rs k best → IsBestRun near count rs (k + 1) best
  passed k best r at none = go best
    where
      last : (j f l : ℕ) (q : Reg) → k ≤ j → j < k + 1 → slice_get rs j ≡ Some q → IsWithin count f l → IsRun (near q) f l → ⊥
      last j f l q a z e w run = let s : j ≡ k = omega arith in let P : Reg → Type 0 = λ q. IsRun (near q) f l in none f l w w.inside (subst P (same-register rs j k q r s e at) run)

      go : (o : Option PlaceRun) → IsBestRun near count rs k o → IsBestRun near count rs (k + 1) o
      go None was = λ j f l q z e w run. elim (cases_lt j k) [ inl early ↦ was j f l q early e w run | inr now ↦ last j f l q now z e w run ]
      go (Some b) was = record {
        place = was.place;
        before = (let p = was.before in omega arith);
        register = was.register;
        within = was.within;
        run = was.run;
        longest = λ j f l q z e w run. elim (cases_lt j k) [ inl early ↦ was.longest j f l q early e w run | inr now ↦ absurd (last j f l q now z e w run) ];
        earliest = λ j f q z e w run. elim (cases_lt j k) [ inl early ↦ was.earliest j f q early e w run | inr now ↦ absurd (last j f b.len q now z e w run) ];
        foremost = λ j q z e run. elim (cases_lt j k) [ inl early ↦ was.foremost j q early e run | inr now ↦ absurd (last j b.first b.len q now z e was.within run) ];
      }

  -- one more run
  met : (k : ℕ) (best : Option PlaceRun) (b : PlaceRun) (r : Reg) → slice_get rs k ≡ Some r → IsLongest (near r) count count b.first b.len → b.register ≡ r → IsBestRun near count rs k best → IsBestRun near count rs (k + 1) (better_of best (Some b))
  met k None b r at h named was = found k b r at h named (λ j f l q z e w run. absurd (was j f l q z e w run))
  met k (Some old) b r at h named was = go (is_better b (Some old)) refl
    where
      behind : is_better b (Some old) ≡ true → Behind k b
      behind e j f l q z g w run = elim (beats b old e) [
        | inl more ↦ (let m = was.longest j f l q z g w run in inl (omega arith))
        | inr same ↦ (let m = was.longest j f l q z g w run in elim (cases_lt l b.len) [
          | inl less ↦ inl less
          | inr long ↦
              (let t : l ≡ old.len = omega (arith, same.0) in
              let W : ℕ → Type 0 = λ n. IsWithin count f n in
              let P : ℕ → Type 0 = λ n. IsRun (near q) f n in
              let first = was.earliest j f q z g (subst W t w) (subst P t run) in
              inr (t ∙ sym same.0, omega (arith, same.1)))
        ])
      ]

      go : (c : Bool) → is_better b (Some old) ≡ c → IsBestRun near count rs (k + 1) (cond c (Some b) (Some old))
      go true e = found k b r at h named (behind e)
      go false e = kept k b old r at h was e

  pub better-next : (k : ℕ) (best other new : Option PlaceRun) (r : Reg) → k < length rs → r ≡ get_or rs k r → IsLongestRun (near r) count count r other → new ≡ better_of best other → IsBestRun near count rs k best → IsBestRun near count rs (k + 1) new
  better-next k best other new r h at long is was = subst (IsBestRun near count rs (k + 1)) (sym is) (go other long)
    where
      go : (o : Option PlaceRun) → IsLongestRun (near r) count count r o → IsBestRun near count rs (k + 1) (better_of best o)
      go None none = passed k best r (at-index rs k r h at) none was
      go (Some b) l = met k best b r (at-index rs k r h at) l.0 l.1 was

  pub next-better : (k : ℕ) (best other new : Option PlaceRun) (d : Reg) → k < length rs → IsLongestRun (near (get_or rs k d)) count count (get_or rs k d) other → new ≡ better_of best other → IsBestRun near count rs k best → IsBestRun near count rs (k + 1) new
  next-better k best other new d h long is was = better-next k best other new (get_or rs k d) h (same-default rs k d (get_or rs k d) h) long is was

  pub all-seen : (k : ℕ) (best : Option PlaceRun) → length rs ≤ k → IsBestRun near count rs k best → IsBestRun near count rs (length rs) best
  all-seen k None h was = λ j f l q z e w run. was j f l q (omega arith) e w run
  all-seen k (Some b) h was = record {
    place = was.place;
    before = get-within rs was.place b.register was.register;
    register = was.register;
    within = was.within;
    run = was.run;
    longest = λ j f l q z e w run. was.longest j f l q (omega arith) e w run;
    earliest = λ j f q z e w run. was.earliest j f q (omega arith) e w run;
    foremost = λ j q z e run. was.foremost j q (omega arith) e run;
  }

pub ruleset bests = (none-yet, better-next, all-seen)
