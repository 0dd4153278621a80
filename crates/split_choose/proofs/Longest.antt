-- The longest run, place by place.
use Rattle.std.proofs.Common.{◌≡◌, ◌∙◌, ◌⊎◌, inl, inr, ℕ, zero, suc, ◌+◌, ◌-◌, ◌<◌, ◌≤◌, Bool, true, false, refl, sym, ap, subst, arith, min, Option, None, Some}
use Rattle.std.proofs.lemmas.Bool.{true≢false, leb-true, leb-false, ltb-true, ltb-false, cases_lt}
use Rattle.target_base.specs.declared.types.Reg.{Reg}
use Rattle.split_choose.specs.declared.runs.PlaceRun.{PlaceRun}
use Rattle.split_choose.specs.LongRuns.{IsWithin, IsRun, IsLongest, IsLongestRun, is_longer}

-- of the runs that end at the last of the places seen, the longest
pub record IsTail (near : ℕ → Bool) (count seen len : ℕ) : Type 0 where
  pub some : 1 ≤ len
  pub few : len < count
  pub fits : len ≤ seen
  pub run : (f : ℕ) → f + len ≡ seen → IsRun near f len
  pub longest : (f l : ℕ) → f + l ≡ seen → l < count → IsRun near f l → l ≤ len

pub tail-first : (near : ℕ → Bool) (count : ℕ) → 2 ≤ count → IsTail near count 1 1
tail-first near count h = record {
  some = omega arith;
  few = omega arith;
  fits = omega arith;
  run = λ f e. record { along = λ k a z. absurd (omega arith) };
  longest = λ f l e few r. omega arith;
}

pub tail-far : (near : ℕ → Bool) (count k : ℕ) → 2 ≤ count → 1 ≤ k → near (k - 1) ≡ false → IsTail near count (k + 1) 1
tail-far near count k h one far = record {
  some = omega arith;
  few = omega arith;
  fits = omega arith;
  run = λ f e. record { along = λ j a z. absurd (omega arith) };
  longest = longest;
}
  where
    longest : (f l : ℕ) → f + l ≡ k + 1 → l < count → IsRun near f l → l ≤ 1
    longest f l e few r = elim (cases_lt 1 l) [ inl more ↦ absurd (true≢false (sym (r.along (k - 1) (omega arith) (omega arith)) ∙ far)) | inr most ↦ most ]

pub tail-near : (near : ℕ → Bool) (count k len new : ℕ) → IsTail near count k len → k < count → near (k - 1) ≡ true → new ≡ min (len + 1) (count - 1) → IsTail near count (k + 1) new
tail-near near count k len new t h close is = record {
  some = (let a = t.some in let b = t.few in omega arith);
  few = (let b = t.few in omega arith);
  fits = (let b = t.fits in omega arith);
  run = run;
  longest = longest;
}
  where
    run : (f : ℕ) → f + new ≡ k + 1 → IsRun near f new
    run f e = record { along = along }
      where
        along : (j : ℕ) → f ≤ j → j + 1 < f + new → near j ≡ true
        along j a z = elim (cases_lt (j + 1) k) [
          | inl inside ↦ (let b = t.fits in let g : (k - len) + len ≡ k = omega arith in (t.run (k - len) g).along j (omega arith) (omega arith))
          | inr last ↦ (let s : k - 1 ≡ j = omega arith in subst (λ i. near i ≡ true) s close)
        ]

    longest : (f l : ℕ) → f + l ≡ k + 1 → l < count → IsRun near f l → l ≤ new
    longest f zero e few r = omega arith
    longest f (suc l) e few r =
        let shorter : IsRun near f l = record { along = λ j a z. r.along j a (omega arith) } in
        let g : f + l ≡ k = omega arith in
        let m = t.longest f l g (omega arith) shorter in
        omega arith

pub tail-step : (near : ℕ → Bool) (count k len sum most new : ℕ) → count < 18446744073709551616 → IsTail near count k len → k < count → near (k - 1) ≡ true
    → sum ≡ min (len + 1) 18446744073709551615 → most ≡ count - 1 → new ≡ min sum most → IsTail near count (k + 1) new
tail-step near count k len sum most new fits t h close one two three = let few = t.few in tail-near near count k len new t h close (omega arith)

module _ (near : ℕ → Bool) (count : ℕ) (r : Reg) where
  pub none-yet : IsLongestRun near count 1 r None
  none-yet f l w e run = absurd (let m = w.many in omega arith)

  -- a run is longer than all that end before
  replaced : (k len : ℕ) (b : PlaceRun) → IsTail near count (k + 1) len → k < count → 2 ≤ len → ((f l : ℕ) → IsWithin count f l → f + l ≤ k → IsRun near f l → l < len)
      → b.first ≡ k + 1 - len → b.len ≡ len → b.register ≡ r → IsLongestRun near count (k + 1) r (Some b)
  replaced k len b t h many above first same register = (
    record {
      within = record { many = (rw same many); few = (rw same t.few); inside = omega arith };
      ends = (let fits = t.fits in omega arith);
      run = (let e : b.first + len ≡ k + 1 = (let fits = t.fits in omega arith) in rw same (t.run b.first e));
      longest = longest;
      earliest = earliest;
    },
    register,
  )
    where
      longest : (f l : ℕ) → IsWithin count f l → f + l ≤ k + 1 → IsRun near f l → l ≤ b.len
      longest f l w e run = elim (cases_lt (f + l) (k + 1)) [
        | inl inside ↦ (let m = above f l w (omega arith) run in omega arith)
        | inr last ↦ (let g : f + l ≡ k + 1 = omega arith in let few = w.few in let m = t.longest f l g few run in omega arith)
      ]

      earliest : (f : ℕ) → IsWithin count f b.len → f + b.len ≤ k + 1 → IsRun near f b.len → b.first ≤ f
      earliest f w e run = elim (cases_lt (f + b.len) (k + 1)) [
        | inl inside ↦ (let m = above f b.len w (omega arith) run in absurd (omega arith))
        | inr last ↦ omega arith
      ]

  pub longer : (k len : ℕ) (best : Option PlaceRun) (b : PlaceRun) → IsTail near count (k + 1) len → k < count → IsLongestRun near count k r best → is_longer len best ≡ true
      → b.first ≡ k + 1 - len → b.len ≡ len → b.register ≡ r → IsLongestRun near count (k + 1) r (Some b)
  longer k len None b t h was more first same register = replaced k len b t h (leb-true 2 len more) (λ f l w e run. absurd (was f l w e run)) first same register
  longer k len (Some old) b t h was more first same register =
      let m = ltb-true old.len len more in
      let many = was.0.within.many in
      replaced k len b t h (omega arith) (λ f l w e run. (let q = was.0.longest f l w e run in omega arith)) first same register

  pub no-longer : (k len : ℕ) (best : Option PlaceRun) → IsTail near count (k + 1) len → IsLongestRun near count k r best → is_longer len best ≡ false → IsLongestRun near count (k + 1) r best
  no-longer k len None t was h = λ f l w e run. elim (cases_lt (f + l) (k + 1)) [
    | inl inside ↦ was f l w (omega arith) run
    | inr last ↦ (let g : f + l ≡ k + 1 = omega arith in let few = w.few in let many = w.many in let m = t.longest f l g few run in let q = leb-false 2 len h in absurd (omega arith))
  ]
  no-longer k len (Some b) t was h = (
    record {
      within = was.0.within;
      ends = (let e = was.0.ends in omega arith);
      run = was.0.run;
      longest = longest;
      earliest = earliest;
    },
    was.1,
  )
    where
      longest : (f l : ℕ) → IsWithin count f l → f + l ≤ k + 1 → IsRun near f l → l ≤ b.len
      longest f l w e run = elim (cases_lt (f + l) (k + 1)) [
        | inl inside ↦ was.0.longest f l w (omega arith) run
        | inr last ↦ (let g : f + l ≡ k + 1 = omega arith in let few = w.few in let m = t.longest f l g few run in let q = ltb-false b.len len h in omega arith)
      ]

      earliest : (f : ℕ) → IsWithin count f b.len → f + b.len ≤ k + 1 → IsRun near f b.len → b.first ≤ f
      earliest f w e run = elim (cases_lt (f + b.len) (k + 1)) [
        | inl inside ↦ was.0.earliest f w (omega arith) run
        | inr last ↦ (let ends = was.0.ends in omega arith)
      ]

  -- the best so far, whichever it is
  pub best-longer : (k len next first : ℕ) (best new : Option PlaceRun) → count < 18446744073709551616 → IsTail near count (k + 1) len → k < count → IsLongestRun near count k r best → is_longer len best ≡ true
      → next ≡ min (k + 1) 18446744073709551615 → first ≡ next - len → new ≡ Some (record { first = first; len = len; register = r }) → IsLongestRun near count (k + 1) r new
  best-longer k len next first best new fits t h was more one two is =
      let e : first ≡ k + 1 - len = omega arith in
      subst (IsLongestRun near count (k + 1) r) (sym is) (longer k len best (record { first = first; len = len; register = r }) t h was more e refl refl)

  pub best-kept : (k len : ℕ) (best new : Option PlaceRun) → IsTail near count (k + 1) len → IsLongestRun near count k r best → is_longer len best ≡ false → new ≡ best → IsLongestRun near count (k + 1) r new
  best-kept k len best new t was h is = subst (IsLongestRun near count (k + 1) r) (sym is) (no-longer k len best t was h)

  pub seen-all : (k : ℕ) (best : Option PlaceRun) → count ≤ k → IsLongestRun near count k r best → IsLongestRun near count count r best
  seen-all k None h was = λ f l w e run. was f l w (omega arith) run
  seen-all k (Some b) h was = (
    record {
      within = was.0.within;
      ends = was.0.within.inside;
      run = was.0.run;
      longest = λ f l w e run. was.0.longest f l w (omega arith) run;
      earliest = λ f w e run. was.0.earliest f w (omega arith) run;
    },
    was.1,
  )
