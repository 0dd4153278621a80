-- Watchers that are told one list of steps behind another.
use Rattle.std.proofs.Common.{◌≡◌, ℕ, ◌+◌, List, [], ◌∷◌, ◌++◌, map, take, length, Result, Ok, Err, OnErr, refl, sym, ◌∙◌, ap, subst}
use Rattle.std.proofs.Math.Seq.{take-append-add}
use Rattle.watchers.specs.declared.steps.Step.{Step}
use Rattle.watchers.specs.declared.steps.Step.TheVariants.{Begin}
use Rattle.watchers.specs.Told.{told, AllTold, PartTold}
use Rattle.watchers.proofs.Runs.{all_is_part, none_told}
use Rattle.pipeline.specs.Guarded.Told.{ToldRun, ToldPart}

module _ {W : Type 0} (next : W → Step → W) where
  told_joined : (w : W) (first second : List Step) → told next w (first ++ second) ≡ told next (told next w first) second
  told_joined w [] second = refl
  told_joined w (s ∷ first) second = told_joined (next w s) first second

  map_joined : (old : List W) (first second : List Step) → map (λ w. told next w second) (map (λ w. told next w first) old) ≡ map (λ w. told next w (first ++ second)) old
  map_joined [] first second = refl
  map_joined (w ∷ old) first second = λ i. sym (told_joined w first second) i ∷ map_joined old first second i

  -- all were told one list and then another
  pub all_joined : (old now new : List W) (first second : List Step) → AllTold next first old now → AllTold next second now new → AllTold next (first ++ second) old new
  all_joined old now new first second all more = more ∙ ap (map (λ w. told next w second)) all ∙ map_joined old first second

  one_joined : (w v : W) (first second : List Step) (k : ℕ) → v ≡ told next (told next w first) (take k second) → v ≡ told next w (take (length first + k) (first ++ second))
  one_joined w v first second k e = e ∙ sym (told_joined w first (take k second)) ∙ ap (told next w) (sym (take-append-add first second k))

  zip_joined : (old new : List W) (first second : List Step) → PartTold next second (map (λ w. told next w first) old) new → PartTold next (first ++ second) old new
  zip_joined [] [] first second p = p
  zip_joined [] (v ∷ new) first second p = p
  zip_joined (w ∷ old) [] first second p = p
  zip_joined (w ∷ old) (v ∷ new) first second p = ((length first + p.0.0, one_joined w v first second p.0.0 p.0.1), zip_joined old new first second p.1)

  -- all were told one list, and then each a first part of another
  pub part_joined : (old now new : List W) (first second : List Step) → AllTold next first old now → PartTold next second now new → PartTold next (first ++ second) old new
  part_joined old now new first second all part = zip_joined old new first second (subst (λ l. PartTold next second l new) all part)

  -- what was told to all is a first part
  pub part_of_all : (old new : List W) (steps : List Step) → AllTold next steps old new → ToldPart next old new
  part_of_all old new steps all = (steps, subst (PartTold next steps old) (sym all) (all_is_part next old steps))

  -- where nothing was told
  pub part_of_none : (old new : List W) → new ≡ old → ToldPart next old new
  part_of_none old new same = part_of_all old new [] (subst (AllTold next [] old) (sym same) (none_told next old))

  pub part_of_run : (number : ℕ) (old new : List W) → ToldRun next number old new → ToldPart next old new
  part_of_run number old new run = part_of_all old new (Begin number ∷ run.0) run.1

pub on_err : {T E P : Type 0} (r : Result T E) → P → OnErr r P
on_err (Ok x) p = tt
on_err (Err e) p = p
