-- What watchers were told of a document, and of one function behind others.
use Rattle.std.proofs.Common.{◌≡◌, ℕ, ◌+◌, List, [], ◌∷◌, ◌++◌, length, Result, Ok, Err, sym, ◌∙◌, ap, subst, append_assoc, append-nil, arith}
use Rattle.std.specs.Prelude.{IfOk}
use Rattle.target_base.specs.declared.types.Target.{Target}
use Rattle.mir_func.specs.Value.{Function}
use Rattle.mir_text.specs.declared.doc.Doc.{Doc}
use Rattle.mir_text.specs.declared.doc.Doc.TheVariants as docs
use Rattle.watchers.specs.declared.steps.Step.{Step}
use Rattle.watchers.specs.declared.steps.Step.TheVariants.{Begin}
use Rattle.watchers.specs.Told.{AllTold}
use Rattle.pipeline.specs.Guarded.Told.{ToldPart}
use Rattle.pipeline.proofs.GuardLemmas.Told.{all_joined, part_of_none, part_of_run}
use Rattle.ra_top.specs.declared.commands.answer.Answer.{Answer}
use Rattle.ra_top.specs.declared.commands.answer.Answer.TheVariants as answers
use Rattle.ra_top.specs.declared.commands.spot.DocStart.{DocStart}
use Rattle.ra_top.specs.Commands.Answer.{IsSpelled}
use Rattle.ra_top.specs.Commands.Told.{steps_of, next_number, ToldDoc, ToldAnswer, ToldPiece, ToldOne}

steps_joined : (n : ℕ) (xs ys : List (List Step)) → steps_of n (xs ++ ys) ≡ steps_of n xs ++ steps_of (n + length xs) ys
steps_joined n [] ys = let e : n ≡ n + 0 = omega arith in ap (λ k. steps_of k ys) e
steps_joined n (x ∷ xs) ys =
    let e : n + 1 + length xs ≡ n + length (x ∷ xs) = omega arith in
    ap (λ l. (Begin n ∷ x) ++ l) (steps_joined (n + 1) xs ys ∙ ap (λ k. steps_of (n + 1) xs ++ steps_of k ys) e)
    ∙ sym (append_assoc (Begin n ∷ x) (steps_of (n + 1) xs) (steps_of (n + length (x ∷ xs)) ys))

-- the steps of one run more
pub steps_more : (n : ℕ) (runs : List (List Step)) (run : List Step) → n ≡ length runs → steps_of 0 (runs ++ run ∷ []) ≡ steps_of 0 runs ++ (Begin n ∷ run)
steps_more n runs run is =
    let e : 0 + length runs ≡ n = omega (arith, is) in
    steps_joined 0 runs (run ∷ []) ∙ ap (λ k. steps_of 0 runs ++ steps_of k (run ∷ [])) e ∙ ap (λ l. steps_of 0 runs ++ l) (append-nil (Begin n ∷ run))

module _ {W : Type 0} (next : W → Step → W) where
  -- runs were told, and then one more
  pub run_more : (n : ℕ) (runs : List (List Step)) (run : List Step) (old now new : List W) → n ≡ length runs → AllTold next (steps_of 0 runs) old now → AllTold next (Begin n ∷ run) now new → AllTold next (steps_of 0 (runs ++ run ∷ [])) old new
  run_more n runs run old now new is all more =
      subst (λ l. AllTold next l old new) (sym (steps_more n runs run is)) (all_joined next old now new (steps_of 0 runs) (Begin n ∷ run) all more)

  pub part_of_doc : (d : Doc) (n m : ℕ) (old new : List W) → ToldDoc next d n m old new → ToldPart next old new
  part_of_doc (docs.Function before f) n m old new told = part_of_run next n old new told.0
  part_of_doc (docs.Ir lines) n m old new told = part_of_none next old new told.0
  part_of_doc (docs.Rest lines) n m old new told = part_of_none next old new told.0

  -- one function was answered
  pub answer_of_one : {E : Type 0} (before : List ℕ) (f : Function) (r : Result Answer E) (n m : ℕ) (old new : List W) → m ≡ next_number n → IfOk r (ToldOne next n old new) → IfOk r (ToldAnswer next (docs.Function before f) n m old new)
  answer_of_one before f (Ok (answers.Text text)) n m old new e h = (h, e)
  answer_of_one before f (Ok (answers.Last text)) n m old new e h = (h, e)
  answer_of_one before f (Ok (answers.Refused s detail)) n m old new e h = h
  answer_of_one before f (Err x) n m old new e h = tt

  -- the document of a piece was answered
  pub answer_of_piece : {E : Type 0} (t : Target) (spot : DocStart) (piece : List ℕ) (d : Doc) (r : Result Answer E) (n m : ℕ) (old new : List W) → IsSpelled t spot piece d → IfOk r (ToldAnswer next d n m old new) → IfOk r (ToldPiece next t spot piece n m old new)
  answer_of_piece t spot piece d (Ok (answers.Text text)) n m old new is h = (d, is, h)
  answer_of_piece t spot piece d (Ok (answers.Last text)) n m old new is h = (d, is, h)
  answer_of_piece t spot piece d (Ok (answers.Refused s detail)) n m old new is h = h
  answer_of_piece t spot piece d (Err x) n m old new is h = tt
