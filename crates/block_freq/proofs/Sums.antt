-- Sums that stop at a greatest number.
use Rattle.std.proofs.Common.{◌≡◌, ℕ, ◌+◌, ◌*◌, ◌<◌, ◌≤◌, min, List, [], ◌∷◌, length, get_or, take, drop, arith, refl, zero, suc}
use Rattle.std.specs.List.{sum_by, zip}
use Rattle.std.proofs.lemmas.List.{drop_more}
use Rattle.std.proofs.lemmas.List.Sums.{sum_by_more, sum_by-cons}
use Rattle.mir_func.specs.declared.func.Block.{Block}
use Rattle.mir_func.specs.declared.func.Instr.{Instr}
use Rattle.block_freq.specs.Weights.{naming, block_uses, use_sum}

capped_more : (m a b s x : ℕ) → s ≡ min (a + b) m → min (s + x) m ≡ min (a + (b + x)) m
capped_more m a b s x e = omega arith

-- one instruction more
pub instrs_more : (m a freq v i s : ℕ) (is : List Instr) (x : Instr) → i < length is → x ≡ get_or is i x → s ≡ min (a + sum_by (λ j. freq * naming v j) (take i is)) m → min (s + freq * naming v x) m ≡ min (a + sum_by (λ j. freq * naming v j) (take (i + 1) is)) m
instrs_more m a freq v i s is x h at was =
    let more = sum_by_more (λ (j : Instr). freq * naming v j) is i x h in
    let n : sum_by (λ (j : Instr). freq * naming v j) (take (i + 1) is) ≡ sum_by (λ (j : Instr). freq * naming v j) (take i is) + freq * naming v x = rw (← at) at more in
    rw n (capped_more m a _ s _ was)

rest_more : (m s s' x r : ℕ) → s' ≡ min (s + x) m → min (s' + r) m ≡ min (s + (x + r)) m
rest_more m s s' x r e = omega arith

-- one block more
pub blocks_more : (m v k s s' freq : ℕ) (fs : List ℕ) (bs : List Block) (b : Block) → k < length fs → k < length bs → freq ≡ get_or fs k 0 → b ≡ get_or bs k b → s' ≡ min (s + sum_by (λ i. freq * naming v i) b.instrs) m → min (s' + use_sum (drop (k + 1) bs) (drop (k + 1) fs) v) m ≡ min (s + use_sum (drop k bs) (drop k fs) v) m
blocks_more m v k s s' freq fs bs b hf hb atf atb e =
    rw (drop_more fs k 0 hf, drop_more bs k b hb, ← atf, ← atb, sum_by-cons (block_uses v) (freq, b) (zip (drop (k + 1) fs) (drop (k + 1) bs))) (rest_more m s s' _ _ e)

zip-nil : (xs : List ℕ) → zip {K = ℕ} {X = Block} xs [] ≡ []
zip-nil [] = refl
zip-nil (x ∷ xs) = refl

zip_past : (k : ℕ) (fs : List ℕ) (bs : List Block) → min (length fs) (length bs) ≤ k → zip (drop k fs) (drop k bs) ≡ []
zip_past zero [] bs h = refl
zip_past zero (f ∷ fs) [] h = refl
zip_past zero (f ∷ fs) (b ∷ bs) h = absurd (omega arith)
zip_past (suc k) [] bs h = refl
zip_past (suc k) (f ∷ fs) [] h = zip-nil (drop k fs)
zip_past (suc k) (f ∷ fs) (b ∷ bs) h = zip_past k fs bs (omega arith)

-- no block more
pub blocks_all : (v k : ℕ) (fs : List ℕ) (bs : List Block) → min (length fs) (length bs) ≤ k → use_sum (drop k bs) (drop k fs) v ≡ 0
blocks_all v k fs bs h = rw (zip_past k fs bs h) refl

pub product_fits : (m u : ℕ) → 1024 * u ≤ m → min (1024 * min u m) m ≡ 1024 * u
product_fits m u h = omega arith

pub ruleset sums = (instrs_more, blocks_more, blocks_all, product_fits)
