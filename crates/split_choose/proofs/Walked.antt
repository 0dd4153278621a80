-- Steps of loops over borders.
use Rattle.std.proofs.Common.{◌≡◌, ◌∙◌, ℕ, zero, suc, ◌+◌, ◌-◌, ◌<◌, ◌≤◌, List, [], ◌∷◌, ◌++◌, sym, ap, length, arith}
use Rattle.mir_meaning.specs.Registers.{numbers}
use Rattle.split_choose.specs.Bundles.{parent_of, above}
use Rattle.split_choose.proofs.Roots.{stays}

numbers_more : (n k : ℕ) → numbers n (suc k) ≡ numbers n k ++ (n + k) ∷ []
numbers_more n zero = let e : n ≡ n + 0 = omega arith in ap (λ m. m ∷ []) e
numbers_more n (suc k) =
    let e : suc n + k ≡ n + suc k = omega arith in
    ap (λ ms. n ∷ ms) (numbers_more (suc n) k ∙ ap (λ m. numbers (suc n) k ++ m ∷ []) e)

pub numbers_push : (made : List ℕ) (k : ℕ) → made ≡ numbers 0 k → made ++ k ∷ [] ≡ numbers 0 (k + 1)
numbers_push made k e =
    let z : 0 + k ≡ k = omega arith in let s : suc k ≡ k + 1 = omega arith in
    ap (λ xs. xs ++ k ∷ []) e ∙ (ap (λ m. numbers 0 k ++ m ∷ []) (sym z) ∙ (sym (numbers_more 0 k) ∙ ap (numbers 0) s))

pub step_up : (ps : List ℕ) (c x next root : ℕ) → c < length ps → above ps (length ps - c) x ≡ root → next ≡ parent_of ps x → above ps (length ps - (c + 1)) next ≡ root
step_up ps c x next root h was at =
    let e : length ps - c ≡ suc (length ps - (c + 1)) = omega arith in
    ap (above ps (length ps - (c + 1))) at ∙ (sym (ap (λ n. above ps n x) e) ∙ was)

pub stop_there : (ps : List ℕ) (n x next root : ℕ) → above ps n x ≡ root → next ≡ parent_of ps x → next ≡ x → x ≡ root
stop_there ps n x next root was at same = sym (stays ps n x (sym at ∙ same)) ∙ was

pub stop_last : (ps : List ℕ) (c x root : ℕ) → length ps ≤ c → above ps (length ps - c) x ≡ root → x ≡ root
stop_last ps c x root h was = let e : length ps - c ≡ 0 = omega arith in sym (ap (λ n. above ps n x) e) ∙ was

pub ruleset steps = (step_up, stop_there, stop_last)
