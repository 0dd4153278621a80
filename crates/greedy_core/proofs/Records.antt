-- What is kept of steps, one step after the other.
use Rattle.std.proofs.Common.{◌≡◌, ◌∙◌, ℕ, ◌+◌, ◌≤◌, List, [], ◌∷◌, ◌++◌, false, refl, sym, ap, subst, arith, length, append-nil, Result, Ok, Err, OnOk}
use Rattle.std.specs.Prelude.{◌||◌, nat_eq, flat_map, count_by}
use Rattle.std.specs.List.{list_any, IsDistinct}
use Rattle.std.proofs.Math.Bool.{or_comm}
use Rattle.std.proofs.lemmas.Cmp.{nat_eq_equiv}
use Rattle.std.proofs.lemmas.Grind.{flat_map-append}
use Rattle.std.proofs.lemmas.List.{length-append}
use Rattle.std.proofs.lemmas.List.Folds.{list_any-append}
use Rattle.std.proofs.lemmas.List.Sums.{sum_by-append}
use Rattle.std.proofs.lemmas.Map.Keys.{IsDistinct-push}
use Rattle.watchers.specs.declared.steps.Step.{Step}
use Rattle.watchers.specs.declared.steps.Step.TheVariants as steps
use Rattle.greedy_core.specs.declared.ledger.StepBudget.{StepBudget}
use Rattle.greedy_core.specs.Bounds.{is_begin, spilled_by, tinies_of, is_place, AreBounded}
use Rattle.greedy_core.specs.Ledgers.{has, Records}

-- what follows of three clauses of a success
pub on_ok : {T E P Q R S : Type 0} (r : Result T E) → (P → Q → R → S) → OnOk r P → OnOk r Q → OnOk r R → OnOk r S
on_ok (Ok x) f p q r = f p q r
on_ok (Err e) f p q r = tt

-- it is what is kept after that step too
abbrev pub AlsoRecords : StepBudget → StepBudget → Step → Type 0
AlsoRecords old new step = (done : List Step) → Records old done → Records new (done ++ step ∷ [])

-- behind steps of which none begins a run stands one more that begins none
behind_more : (done : List Step) (step : Step) → list_any is_begin done ≡ false → is_begin step ≡ false → list_any is_begin (done ++ step ∷ []) ≡ false
behind_more done step none more = list_any-append is_begin done (step ∷ []) ∙ (λ i. none i || (more i || false))

-- a range is spilled
pub spill_more : (old new : StepBudget) (v : ℕ) (ts : List ℕ) → has old v ≡ false → ((w : ℕ) → has new w ≡ (nat_eq w v || has old w)) → new.spare ≤ old.spare + length ts → AlsoRecords old new (steps.Spill v ts)
spill_more old new v ts first spilled spare done kept = record {
  behind = behind_more done (steps.Spill v ts) kept.behind refl;
  spilled = λ w.
      spilled w ∙ ap (λ b. nat_eq w v || b) (kept.spilled w) ∙ or_comm (nat_eq w v) (list_any (nat_eq w) (flat_map spilled_by done))
      ∙ ap (λ b. list_any (nat_eq w) (flat_map spilled_by done) || b) (or_comm false (nat_eq w v))
      ∙ sym (list_any-append (nat_eq w) (flat_map spilled_by done) (v ∷ []))
      ∙ ap (list_any (nat_eq w)) (sym all);
  once = subst (IsDistinct nat_eq) (sym all) (IsDistinct-push nat_eq_equiv (flat_map spilled_by done) v kept.once (sym (kept.spilled v) ∙ first));
  spare = omega (arith, kept.spare, spare, placed, made);
}
  where
    all : flat_map spilled_by (done ++ steps.Spill v ts ∷ []) ≡ flat_map spilled_by done ++ v ∷ []
    all = flat_map-append spilled_by done (steps.Spill v ts ∷ [])

    placed : count_by is_place (done ++ steps.Spill v ts ∷ []) ≡ count_by is_place done + 0
    placed = sum_by-append _ done (steps.Spill v ts ∷ [])

    made : length (flat_map tinies_of (done ++ steps.Spill v ts ∷ [])) ≡ length (flat_map tinies_of done) + length ts
    made = ap length (flat_map-append tinies_of done (steps.Spill v ts ∷ []) ∙ ap (λ l. flat_map tinies_of done ++ l) (append-nil ts)) ∙ length-append (flat_map tinies_of done) ts

-- a step that begins no run and spills nothing
pub other_more : (old new : StepBudget) (step : Step) (n : ℕ) → is_begin step ≡ false → spilled_by step ≡ [] → tinies_of step ≡ [] → count_by is_place (step ∷ []) ≡ n → ((w : ℕ) → has new w ≡ has old w) → new.spare + n ≡ old.spare → AlsoRecords old new step
other_more old new step n further none fresh counted spilled spare done kept = record {
  behind = behind_more done step kept.behind further;
  spilled = λ w. spilled w ∙ kept.spilled w ∙ ap (list_any (nat_eq w)) (sym all);
  once = subst (IsDistinct nat_eq) (sym all) kept.once;
  spare = omega (arith, kept.spare, spare, placed, made, counted);
}
  where
    all : flat_map spilled_by (done ++ step ∷ []) ≡ flat_map spilled_by done
    all = flat_map-append spilled_by done (step ∷ []) ∙ ap (λ l. flat_map spilled_by done ++ l) (ap (λ l. l ++ []) none) ∙ append-nil (flat_map spilled_by done)

    placed : count_by is_place (done ++ step ∷ []) ≡ count_by is_place done + count_by is_place (step ∷ [])
    placed = sum_by-append _ done (step ∷ [])

    made : length (flat_map tinies_of (done ++ step ∷ [])) ≡ length (flat_map tinies_of done)
    made = ap length (flat_map-append tinies_of done (step ∷ []) ∙ ap (λ l. flat_map tinies_of done ++ l) (ap (λ l. l ++ []) fresh) ∙ append-nil (flat_map tinies_of done))

pub same_more : (l : StepBudget) (step : Step) → is_begin step ≡ false → spilled_by step ≡ [] → tinies_of step ≡ [] → count_by is_place (step ∷ []) ≡ 0 → AlsoRecords l l step
same_more l step further none fresh counted = other_more l l step 0 further none fresh counted (λ w. refl) (omega arith)

-- what is kept bounds the steps
pub bounded : (l : StepBudget) (es : List Step) → Records l es → AreBounded es
bounded l es kept = record { behind = kept.behind; once = kept.once; few = omega (arith, kept.spare) }
