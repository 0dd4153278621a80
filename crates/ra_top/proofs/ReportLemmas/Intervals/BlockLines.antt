-- The lines of blocks, one block after the other.
use Rattle.std.proofs.Common.{◌≡◌, ℕ, ◌+◌, ◌<◌, ◌≤◌, min, List, [], ◌∷◌, ◌++◌, length, get_or, drop, arith, refl, zero, suc, append_assoc}
use Rattle.std.specs.List.{zip}
use Rattle.std.proofs.lemmas.List.{drop_more}
use Rattle.mir_func.specs.declared.func.Block.{Block}
use Rattle.ra_top.specs.Report.Intervals.Lines.{block_line, block_lines}

-- one block more
pub blocks_more : (k freq : ℕ) (fs out more : List ℕ) (bs : List Block) (b : Block) → k < length fs → k < length bs → freq ≡ get_or fs k 0 → b ≡ get_or bs k b → more ≡ out ++ block_line b.number freq → more ++ block_lines (drop (k + 1) fs) (drop (k + 1) bs) ≡ out ++ block_lines (drop k fs) (drop k bs)
blocks_more k freq fs out more bs b hf hb atf atb e =
    rw (e, drop_more fs k 0 hf, drop_more bs k b hb, ← atf, ← atb) (append_assoc out (block_line b.number freq) (block_lines (drop (k + 1) fs) (drop (k + 1) bs)))

zip-nil : (xs : List ℕ) → zip {K = ℕ} {X = Block} xs [] ≡ []
zip-nil [] = refl
zip-nil (x ∷ xs) = refl

zip_past : (k : ℕ) (fs : List ℕ) (bs : List Block) → min (length fs) (length bs) ≤ k → zip (drop k fs) (drop k bs) ≡ []
zip_past zero [] bs h = refl
zip_past zero (f ∷ fs) [] h = refl
zip_past zero (f ∷ fs) (b ∷ bs) h = absurd (omega arith)
zip_past (suc k) [] bs h = refl
zip_past (suc k) (f ∷ fs) [] h = zip-nil (drop k fs)
zip_past (suc k) (f ∷ fs) (b ∷ bs) h = zip_past k fs bs (omega arith)

-- no block more
pub blocks_all : (k : ℕ) (fs : List ℕ) (bs : List Block) → min (length fs) (length bs) ≤ k → block_lines (drop k fs) (drop k bs) ≡ []
blocks_all k fs bs h = rw (zip_past k fs bs h) refl
