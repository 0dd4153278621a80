-- Watchers that were told steps are told one more.
use Rattle.std.proofs.Common.{◌≡◌, ◌⊎◌, inl, inr, ℕ, ◌≤◌, ◌<◌, ◌+◌, zero, suc, List, [], ◌∷◌, ◌++◌, map, take, drop, length, refl, sym, ◌∙◌, ap, subst, arith}
use Rattle.std.proofs.lemmas.Bool.{cases_lt}
use Rattle.std.proofs.lemmas.List.{take_all, take-take, length-take}
use Rattle.watchers.specs.declared.steps.Step.{Step}
use Rattle.watchers.specs.Told.{told, FirstBecame, AllTold, PartTold}

module _ {W : Type 0} (next : W → Step → W) where
  -- what is after a first part of the steps
  abbrev IsPart : List Step → W → W → Type 0
  IsPart steps w v = (k : ℕ) × (v ≡ told next w (take k steps))

  told_more : (w : W) (steps : List Step) (step : Step) → told next w (steps ++ step ∷ []) ≡ next (told next w steps) step
  told_more w [] step = refl
  told_more w (s ∷ steps) step = told_more (next w s) steps step

  pub all_more : (old : List W) (steps : List Step) (step : Step) → map (λ w. next w step) (map (λ w. told next w steps) old) ≡ map (λ w. told next w (steps ++ step ∷ [])) old
  all_more [] steps step = refl
  all_more (w ∷ old) steps step = λ i. sym (told_more w steps step) i ∷ all_more old steps step i

  is_all : (w : W) (steps : List Step) → IsPart steps w (told next w steps)
  is_all w steps = (length steps, ap (told next w) (sym (take_all (length steps) steps (omega arith))))

  pub all_is_part : (old : List W) (steps : List Step) → PartTold next steps old (map (λ w. told next w steps) old)
  all_is_part [] steps = tt
  all_is_part (w ∷ old) steps = (is_all w steps, all_is_part old steps)

  take_before : (steps : List Step) (step : Step) → take (length steps) (steps ++ step ∷ []) ≡ steps
  take_before [] step = refl
  take_before (s ∷ steps) step = ap (λ l. s ∷ l) (take_before steps step)

  without_last : (w : W) (steps : List Step) (step : Step) → IsPart (steps ++ step ∷ []) w (told next w steps)
  without_last w steps step = (length steps, ap (told next w) (sym (take_before steps step)))

  with_last : (w : W) (steps : List Step) (step : Step) → IsPart (steps ++ step ∷ []) w (next (told next w steps) step)
  with_last w steps step = subst (IsPart (steps ++ step ∷ []) w) (told_more w steps step) (is_all w (steps ++ step ∷ []))

  some_more : (old : List W) (steps : List Step) (step : Step) (k : ℕ)
      → PartTold next (steps ++ step ∷ []) old (map (λ w. next w step) (take k (map (λ w. told next w steps) old)) ++ drop k (map (λ w. told next w steps) old))
  some_more [] steps step zero = tt
  some_more [] steps step (suc k) = tt
  some_more (w ∷ old) steps step zero = (without_last w steps step, some_more old steps step zero)
  some_more (w ∷ old) steps step (suc k) = (with_last w steps step, some_more old steps step k)

  -- of watchers that were told some steps, some of the first were told one more
  pub part_more : (old now new : List W) (steps : List Step) (step : Step) → AllTold next steps old now → FirstBecame (λ w. next w step) now new → PartTold next (steps ++ step ∷ []) old new
  part_more old now new steps step all first =
      subst (PartTold next (steps ++ step ∷ []) old) (sym (first.2 ∙ ap (λ l. map (λ w. next w step) (take first.0 l) ++ drop first.0 l) all)) (some_more old steps step first.0)

  told_on : (w : W) (steps more : List Step) → told next (told next w steps) more ≡ told next w (steps ++ more)
  told_on w [] more = refl
  told_on w (s ∷ steps) more = told_on (next w s) steps more

  -- watchers that were told some steps are told others
  pub all_on : (old : List W) (steps more : List Step) → map (λ w. told next w more) (map (λ w. told next w steps) old) ≡ map (λ w. told next w (steps ++ more)) old
  all_on [] steps more = refl
  all_on (w ∷ old) steps more = λ i. told_on w steps more i ∷ all_on old steps more i

  take_on : (steps more : List Step) (k : ℕ) → take (length steps + k) (steps ++ more) ≡ steps ++ take k more
  take_on [] more k = ap (λ n. take n more) (omega arith)
  take_on (s ∷ steps) more k =
      let next : suc (length steps) + k ≡ suc (length steps + k) = omega arith in
      ap (λ n. take n (s ∷ steps ++ more)) next ∙ ap (λ l. s ∷ l) (take_on steps more k)

  some_on : (old new : List W) (steps more : List Step) → PartTold next more (map (λ w. told next w steps) old) new → PartTold next (steps ++ more) old new
  some_on [] [] steps more part = tt
  some_on [] (v ∷ new) steps more part = part
  some_on (w ∷ old) [] steps more part = part
  some_on (w ∷ old) (v ∷ new) steps more part = (
    (length steps + part.0.0, part.0.1 ∙ told_on w steps (take part.0.0 more) ∙ ap (told next w) (sym (take_on steps more part.0.0))),
    some_on old new steps more part.1,
  )

  -- the same where they were told a first part of these others
  pub part_on : (old now new : List W) (steps more : List Step) → AllTold next steps old now → PartTold next more now new → PartTold next (steps ++ more) old new
  part_on old now new steps more all part = some_on old new steps more (subst (λ ws. PartTold next more ws new) all part)

  -- a first part of some of the first steps is one of all steps
  part_of : (w v : W) (steps : List Step) (k : ℕ) → IsPart (take k steps) w v → IsPart steps w v
  part_of w v steps k part = go (cases_lt k part.0)
    where
      go : (k < part.0) ⊎ (part.0 ≤ k) → IsPart steps w v
      go (inl more) = (k, part.1 ∙ ap (told next w) (take_all part.0 (take k steps) (omega (arith, length-take k steps))))
      go (inr within) = (part.0, part.1 ∙ ap (told next w) (take-take part.0 k steps within))

  pub part_of_all : (old new : List W) (steps : List Step) (k : ℕ) → PartTold next (take k steps) old new → PartTold next steps old new
  part_of_all [] [] steps k part = tt
  part_of_all [] (v ∷ new) steps k part = part
  part_of_all (w ∷ old) [] steps k part = part
  part_of_all (w ∷ old) (v ∷ new) steps k part = (part_of w v steps k part.0, part_of_all old new steps k part.1)

  pub none_told : (old : List W) → AllTold next [] old old
  none_told [] = refl
  none_told (w ∷ old) = ap (λ l. w ∷ l) (none_told old)
