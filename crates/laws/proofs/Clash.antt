-- Where no two lanes of one image are occupied at one point, the map is quiet.
use Rattle.std.proofs.Common.{◌≡◌, ◌∷◌, ◌⊎◌, ◌∙◌, Bool, true, false, refl, sym, subst, inl, inr, []}
use Rattle.meaning.specs.Clash.{LawOfRewriting, NoClash, NoClashAt}
use Rattle.meaning.specs.Code.{Code, Item}
use Rattle.meaning.specs.Fold.{Quiet, QuietAt}
use Rattle.meaning.specs.Lanes.{same_lane}
use Rattle.meaning.specs.declared.types.Lane.{Lane}
use Rattle.laws.proofs.Flow.{bool_cases}
use Rattle.laws.proofs.Quiet.{law_of_folds, same-false}

module _ (reserved : Lane → Bool) (code : Code) (m : Lane → Lane) (fixes : (l : Lane) → reserved l ≡ true → m l ≡ l) (only : (l : Lane) → reserved (m l) ≡ true → m l ≡ l) where
  -- of two lanes with one image both are reserved, or they are one lane
  one-reserved : (a b : Lane) → m a ≡ m b → reserved a ≡ true → a ≡ b
  one-reserved a b e r =
      let x : m a ≡ a = fixes a r in
      let s : reserved (m b) ≡ true = subst (λ l. reserved l ≡ true) (sym x ∙ e) r in
      sym x ∙ e ∙ only b s

  -- lanes with one image that a premise tells apart aren't reserved
  apart : (a b : Lane) → m a ≡ m b → same_lane a b ≡ false → (reserved a ≡ false) × (reserved b ≡ false)
  apart a b e s = (go (bool_cases (reserved a)), back (bool_cases (reserved b)))
    where
      go : (reserved a ≡ true) ⊎ (reserved a ≡ false) → reserved a ≡ false
      go (inl r) = absurd (same-false a b s (one-reserved a b e r))
      go (inr r) = r

      back : (reserved b ≡ true) ⊎ (reserved b ≡ false) → reserved b ≡ false
      back (inl r) = absurd (same-false a b s (sym (one-reserved b a (sym e) r)))
      back (inr r) = r

  quiet-at : (i : Item) (p : Code) → NoClashAt reserved code m i p → QuietAt reserved code m i p
  quiet-at i p h w x c l e s =
      let r = apart l w.lane e s in (
        (λ live. same-false l w.lane s (h.exit l w.lane (inl live, r.0) (inr (w, x, refl), r.1) e)),
        (λ v y g. same-false l w.lane s (h.exit l w.lane (inr (v, y, g), r.0) (inr (w, x, refl), r.1) e)),
        (λ early live. same-false l w.lane s (h.entry l w.lane (inl live, r.0) (inr (w, x, refl, early), r.1) e)),
      )

  pub no-clash-quiet : (p : Code) → NoClash reserved code m p → Quiet reserved code m p
  no-clash-quiet [] h = tt
  no-clash-quiet (i ∷ p) h = (quiet-at i p h.0, no-clash-quiet p h.1)

pub law_of_rewriting : LawOfRewriting
law_of_rewriting reserved m f g h =
    law_of_folds reserved m f g (record { fits = h.fits; fixes = h.fixes; only = h.only; quiet = no-clash-quiet reserved f.code m h.fixes h.only f.code h.no_clash; folded = h.folded })
