-- Operands by their numbers.
use Rattle.std.proofs.Common.{◌≡◌, ℕ, suc, zero, ◌<◌, ◌≤◌, List, [], ◌∷◌, length, get_or, map, None, refl, sym, ap, ◌∙◌, arith}
use Rattle.meaning.specs.declared.types.Source.{Source}
use Rattle.meaning.specs.Environment.{Environment, Value}
use Rattle.meaning.specs.State.{State, fetch, values}
use Rattle.meaning.specs.Perform.{operand, joined, lanes_of, widths_of}

pub operand_past : (ws : List (List ℕ)) (vs : List (List Value)) (k : ℕ) → length ws ≤ k → operand ws vs k ≡ None
operand_past [] vs k h = refl
operand_past (w ∷ ws) [] k h = refl
operand_past (w ∷ ws) (v ∷ vs) zero h = absurd (omega arith)
operand_past (w ∷ ws) (v ∷ vs) (suc k) h = operand_past ws vs k (omega arith)

pub operand_beyond : (env : Environment) (st : State) (ws : List (List ℕ)) (rs : List (List Source)) (k : ℕ) → length rs ≤ k → operand ws (values env st rs) k ≡ None
operand_beyond env st [] rs k h = refl
operand_beyond env st (w ∷ ws) [] k h = refl
operand_beyond env st (w ∷ ws) (r ∷ rs) zero h = absurd (omega arith)
operand_beyond env st (w ∷ ws) (r ∷ rs) (suc k) h = operand_beyond env st ws rs k (omega arith)

pub operand_there : (env : Environment) (st : State) (ws : List (List ℕ)) (rs : List (List Source)) (k : ℕ) (d : List ℕ) (e : List Source) → k < length ws → k < length rs → operand ws (values env st rs) k ≡ joined (get_or ws k d) (map (fetch env st) (get_or rs k e))
operand_there env st [] rs k d e h g = absurd (omega arith)
operand_there env st (w ∷ ws) [] k d e h g = absurd (omega arith)
operand_there env st (w ∷ ws) (r ∷ rs) zero d e h g = refl
operand_there env st (w ∷ ws) (r ∷ rs) (suc k) d e h g = operand_there env st ws rs k d e (omega arith) (omega arith)

pub lanes_past : (env : Environment) (st : State) (rs : List (List Source)) (k : ℕ) → length rs ≤ k → lanes_of (values env st rs) k ≡ []
lanes_past env st [] k h = refl
lanes_past env st (r ∷ rs) zero h = absurd (omega arith)
lanes_past env st (r ∷ rs) (suc k) h = lanes_past env st rs k (omega arith)

pub lanes_there : (env : Environment) (st : State) (rs : List (List Source)) (k : ℕ) (e : List Source) → k < length rs → lanes_of (values env st rs) k ≡ map (fetch env st) (get_or rs k e)
lanes_there env st [] k e g = absurd (omega arith)
lanes_there env st (r ∷ rs) zero e g = refl
lanes_there env st (r ∷ rs) (suc k) e g = lanes_there env st rs k e (omega arith)

pub widths_past : (ws : List (List ℕ)) (k : ℕ) → length ws ≤ k → widths_of ws k ≡ []
widths_past [] k h = refl
widths_past (w ∷ ws) zero h = absurd (omega arith)
widths_past (w ∷ ws) (suc k) h = widths_past ws k (omega arith)

pub widths_there : (ws : List (List ℕ)) (k : ℕ) (d : List ℕ) → k < length ws → widths_of ws k ≡ get_or ws k d
widths_there [] k d h = absurd (omega arith)
widths_there (w ∷ ws) zero d h = refl
widths_there (w ∷ ws) (suc k) d h = widths_there ws k d (omega arith)

pub operand_by : (env : Environment) (st : State) (ws : List (List ℕ)) (rs : List (List Source)) (k : ℕ) (own : List ℕ) (picked : List Source) (ls : List ℕ) (ss : List Source) (v : Value) → k < length ws → k < length rs → own ≡ get_or ws k own → picked ≡ get_or rs k picked → ls ≡ own → ss ≡ picked → v ≡ joined ls (map (fetch env st) ss) → v ≡ operand ws (values env st rs) k
operand_by env st ws rs k own picked ls ss v h g eo ep el es ev =
    ev
    ∙ (ap (λ t. joined t (map (fetch env st) ss)) (el ∙ eo)
    ∙ (ap (λ t. joined (get_or ws k own) (map (fetch env st) t)) (es ∙ ep)
    ∙ sym (operand_there env st ws rs k own picked h g)))
