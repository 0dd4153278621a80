-- On to the next counted instruction, step by step.
use Rattle.std.proofs.Common.{◌≡◌, ℕ, suc, ◌<◌, ◌≤◌, List, [], ◌∷◌, Some, sym, ap, ◌∙◌, arith, drop, length, get_or, drop_of_length-le}
use Rattle.std.proofs.lemmas.List.{length-map}
use Rattle.meaning.specs.Environment.{Environment}
use Rattle.meaning.specs.State.{State, written}
use Rattle.meaning.specs.Lanes.{Writes}
use Rattle.meaning.specs.Perform.{Outside, Undefined}
use Rattle.meaning.specs.Code.{Code, Goes, Run, walk, ended}
use Rattle.mir_interp.specs.declared.steps.DecodedStep.{DecodedStep}
use Rattle.mir_interp.specs.declared.steps.DecodedStep.TheVariants as steps
use Rattle.mir_interp.specs.declared.machine.SilentResult.{SilentResult}
use Rattle.mir_interp.specs.declared.machine.SilentResult.TheVariants as passes
use Rattle.mir_interp.specs.Decoded.{item_of_step, code_of_steps}
use Rattle.mir_interp.specs.Running.{passed_on}
use Rattle.mir_interp.proofs.Placing.{code_here}

pub pass_end : (env : Environment) (code : Code) (next : Goes) (p : Code) (o : Outside) (s : DecodedStep) (ws slice : Writes) (st st' : State) → s ≡ steps.End (Some ws) → slice ≡ ws → st' ≡ written env [] slice st → walk env code next (item_of_step s ∷ p) st o ≡ walk env code next p st' o
pass_end env code next p o s ws slice st st' e es h =
    ap (λ t. walk env code next (item_of_step t ∷ p) st o) e
    ∙ ap (λ x. walk env code next p x o) (ap (λ t. written env [] t st) (sym es) ∙ sym h)

pub pass_silent : (env : Environment) (code : Code) (next : Goes) (p : Code) (o : Outside) (s : DecodedStep) (ws slice : Writes) (st st' : State) → s ≡ steps.Silent ws → slice ≡ ws → st' ≡ written env [] slice st → walk env code next (item_of_step s ∷ p) st o ≡ walk env code next p st' o
pass_silent env code next p o s ws slice st st' e es h =
    ap (λ t. walk env code next (item_of_step t ∷ p) st o) e
    ∙ ap (λ x. walk env code next p x o) (ap (λ t. written env [] t st) (sym es) ∙ sym h)

passing : (env : Environment) (code : Code) (next : Goes) (o : Outside) (ss : List DecodedStep) (k : ℕ) (s : DecodedStep) (r q : SilentResult) (st st' : State) → k < length ss → s ≡ get_or ss k s → r ≡ q → walk env code next (item_of_step s ∷ drop (suc k) (code_of_steps ss)) st o ≡ passed_on env code next (item_of_step s) (drop (suc k) (code_of_steps ss)) r st' o → walk env code next (drop k (code_of_steps ss)) st o ≡ passed_on env code next (item_of_step s) (drop (suc k) (code_of_steps ss)) q st' o
passing env code next o ss k s r q st st' lt es e h =
    ap (λ t. walk env code next t st o) (code_here ss k s lt es)
    ∙ (h ∙ ap (λ t. passed_on env code next (item_of_step s) (drop (suc k) (code_of_steps ss)) t st' o) e)

pub goes_on : (env : Environment) (code : Code) (next : Goes) (o : Outside) (ss : List DecodedStep) (k j : ℕ) (s : DecodedStep) (r : SilentResult) (st st' : State) (whole : Run) → k < length ss → s ≡ get_or ss k s → j ≡ suc k → r ≡ passes.On → walk env code next (item_of_step s ∷ drop (suc k) (code_of_steps ss)) st o ≡ passed_on env code next (item_of_step s) (drop (suc k) (code_of_steps ss)) r st' o → walk env code next (drop k (code_of_steps ss)) st o ≡ whole → walk env code next (drop j (code_of_steps ss)) st' o ≡ whole
goes_on env code next o ss k j s r st st' whole lt es ej e h inv =
    ap (λ t. walk env code next (drop t (code_of_steps ss)) st' o) ej ∙ (sym (passing env code next o ss k s r passes.On st st' lt es e h) ∙ inv)

pub sticks : (env : Environment) (code : Code) (next : Goes) (o : Outside) (ss : List DecodedStep) (k : ℕ) (s : DecodedStep) (r : SilentResult) (st st' : State) (whole : Run) → k < length ss → s ≡ get_or ss k s → r ≡ passes.Stuck → walk env code next (item_of_step s ∷ drop (suc k) (code_of_steps ss)) st o ≡ passed_on env code next (item_of_step s) (drop (suc k) (code_of_steps ss)) r st' o → walk env code next (drop k (code_of_steps ss)) st o ≡ whole → whole ≡ ended Undefined
sticks env code next o ss k s r st st' whole lt es e h inv = sym inv ∙ passing env code next o ss k s r passes.Stuck st st' lt es e h

pub stands_there : (env : Environment) (code : Code) (next : Goes) (o : Outside) (ss : List DecodedStep) (k : ℕ) (s : DecodedStep) (r : SilentResult) (st st' : State) (whole : Run) → k < length ss → s ≡ get_or ss k s → r ≡ passes.Counted → walk env code next (item_of_step s ∷ drop (suc k) (code_of_steps ss)) st o ≡ passed_on env code next (item_of_step s) (drop (suc k) (code_of_steps ss)) r st' o → walk env code next (drop k (code_of_steps ss)) st o ≡ whole → whole ≡ walk env code next (drop k (code_of_steps ss)) st' o
stands_there env code next o ss k s r st st' whole lt es e h inv =
    sym inv ∙ (passing env code next o ss k s r passes.Counted st st' lt es e h ∙ ap (λ t. walk env code next t st' o) (sym (code_here ss k s lt es)))

pub past_all : (ss : List DecodedStep) (k : ℕ) → length ss ≤ k → drop k (code_of_steps ss) ≡ []
past_all ss k h =
    let e : length (code_of_steps ss) ≡ length ss = length-map ss item_of_step in
    drop_of_length-le (code_of_steps ss) (omega (arith, e))

pub all_passed : (env : Environment) (code : Code) (next : Goes) (o : Outside) (ss : List DecodedStep) (k : ℕ) (st : State) (whole : Run) → length ss ≤ k → walk env code next (drop k (code_of_steps ss)) st o ≡ whole → whole ≡ ended Undefined
all_passed env code next o ss k st whole h inv = sym inv ∙ ap (λ t. walk env code next t st o) (past_all ss k h)
