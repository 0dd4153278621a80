-- Where the starts of blocks are found.
use Rattle.std.proofs.Common.{◌≡◌, ℕ, suc, ◌+◌, ◌<◌, List, [], ◌∷◌, Some, Bool, true, false, cond, sym, ap, ◌∙◌, drop, length, get_or, add-one}
use Rattle.std.specs.Prelude.{Option, nat_eq, unwrap_or, option_map}
use Rattle.meaning.specs.declared.types.Rest.{Rest}
use Rattle.meaning.specs.Lanes.{Writes, Reads}
use Rattle.meaning.specs.Code.{Item, BlockStart, BlockEnd, Silent, Counted, Code, found}
use Rattle.mir_interp.specs.declared.steps.PhiEdge.{PhiEdge}
use Rattle.mir_interp.specs.declared.steps.DecodedStep.{DecodedStep}
use Rattle.mir_interp.specs.declared.steps.DecodedStep.TheVariants as steps
use Rattle.mir_interp.specs.Decoded.{noted, edge_of, item_of_step, code_of_steps}
use Rattle.mir_interp.proofs.Writing.{drop_mapped}

either_place : (b : Bool) (c p q : Code) (at len : ℕ) (later : Option ℕ) → p ≡ drop at c → q ≡ drop (unwrap_or later len) c → cond b p q ≡ drop (unwrap_or (cond b (Some at) later) len) c
either_place true c p q at len later e d = e
either_place false c p q at len later e d = d

-- one item more, before a place
pub found_noted : (n : ℕ) (c p : Code) (i : Item) (at len : ℕ) (later : Option ℕ) → p ≡ drop at c → found n p ≡ drop (unwrap_or later len) c → found n (i ∷ p) ≡ drop (unwrap_or (noted i at n later) len) c
found_noted n c p (BlockStart m) at len later e d = either_place (nat_eq m n) c p (found n p) at len later e d
found_noted n c p (BlockEnd falls exits) at len later e d = d
found_noted n c p (Silent reads ws) at len later e d = d
found_noted n c p (Counted r reads ws target exits) at len later e d = d

pub code_at : (ss : List DecodedStep) (k : ℕ) (s : DecodedStep) → k < length ss → drop k (code_of_steps ss) ≡ (item_of_step (get_or ss k s) ∷ drop (suc k) (code_of_steps ss))
code_at ss k s lt = drop_mapped item_of_step ss k s lt

pub code_here : (ss : List DecodedStep) (k : ℕ) (s : DecodedStep) → k < length ss → s ≡ get_or ss k s → drop k (code_of_steps ss) ≡ (item_of_step s ∷ drop (suc k) (code_of_steps ss))
code_here ss k s lt e = code_at ss k s lt ∙ ap (λ t. item_of_step t ∷ drop (suc k) (code_of_steps ss)) (sym e)

pub counted_here : (ss : List DecodedStep) (k : ℕ) (s : DecodedStep) (r : Rest) (reads : Reads) (ws : Writes) (target : Option PhiEdge) → k < length ss → s ≡ get_or ss k s → s ≡ steps.Counted r reads ws target → drop k (code_of_steps ss) ≡ (Counted r reads ws (option_map edge_of target) [] ∷ drop (suc k) (code_of_steps ss))
counted_here ss k s r reads ws target lt e h = code_here ss k s lt e ∙ ap (λ t. item_of_step t ∷ drop (suc k) (code_of_steps ss)) h

pub place_next : (n : ℕ) (ss : List DecodedStep) (i j k len : ℕ) (s : DecodedStep) (later new : Option ℕ) → j ≡ i → k ≡ suc i → i < length ss → s ≡ get_or ss i s → found n (drop k (code_of_steps ss)) ≡ drop (unwrap_or later len) (code_of_steps ss) → new ≡ noted (item_of_step s) (i + 1) n later → found n (drop j (code_of_steps ss)) ≡ drop (unwrap_or new len) (code_of_steps ss)
place_next n ss i j k len s later new ej ek lt es inv e =
    ap (λ t. found n (drop t (code_of_steps ss))) ej
    ∙ (ap (found n) (code_here ss i s lt es)
    ∙ (found_noted n (code_of_steps ss) (drop (suc i) (code_of_steps ss)) (item_of_step s) (i + 1) len later (ap (λ t. drop t (code_of_steps ss)) (sym (add-one i))) (ap (λ t. found n (drop t (code_of_steps ss))) (sym ek) ∙ inv)
    ∙ ap (λ t. drop (unwrap_or t len) (code_of_steps ss)) (sym e)))
