-- What the row of a block costs and which arcs it has is what the block does.
use Rattle.std.proofs.Common.{◌≡◌, ◌∙◌, ℕ, ◌+◌, ◌-◌, ◌*◌, List, [], ◌∷◌, ◌++◌, Bool, true, false, cond, refl, sym, ap, filter, arith, None, Some}
use Rattle.std.specs.Prelude.{not, slice_index_or}
use Rattle.std.specs.List.{sum_by}
use Rattle.std.proofs.lemmas.List.Sums.{sum_by-cons}
use Rattle.std.proofs.Math.Nat.{mul-add}
use Rattle.target_base.specs.declared.types.Target.{Target}
use Rattle.target_base.specs.declared.types.Reg.{Reg}
use Rattle.mir_func.specs.declared.func.Block.{Block}
use Rattle.mir_func.specs.Value.{Function}
use Rattle.mir_func.specs.Binding.{does, is_terminator}
use Rattle.block_freq.specs.Weights.{naming}
use Rattle.cut_place.specs.declared.net.Arc.{Arc}
use Rattle.split_choose.specs.Offers.{View, In, Out, operands_in, terminators}
use Rattle.split_choose.specs.Nets.{node_if, arc_to, arcs_between, row_arcs, row_base}
use Rattle.split_choose.specs.Placings.{copy_cost, out_cost, row_cost}
use Rattle.split_choose.specs.Cuts.{Choice, Bundle, Inner, has_inside, enters, leaves, block_cost, block_arcs, number_of}
use Rattle.split_choose.proofs.BlockRows.{block_row}

times-none : (w : ℕ) → w * 0 ≡ 0
times-none w = omega arith

times-one : (w : ℕ) → w * 1 ≡ w
times-one w = omega arith

-- a sum over those that pass, and over the others
sum-both : {X : Type 0} (p : X → Bool) (g : X → ℕ) (xs : List X) → sum_by g (filter p xs) + sum_by g (filter (λ x. not (p x)) xs) ≡ sum_by g xs
sum-both p g [] = refl
sum-both {X} p g (x ∷ xs) = go (p x) (sum-both p g xs)
  where
    go : (b : Bool) → sum_by g (filter p xs) + sum_by g (filter (λ y. not (p y)) xs) ≡ sum_by g xs
        → sum_by g (cond b (x ∷ filter p xs) (filter p xs)) + sum_by g (cond (not b) (x ∷ filter (λ y. not (p y)) xs) (filter (λ y. not (p y)) xs)) ≡ sum_by g (x ∷ xs)
    go true ih = let a = sum_by-cons g x (filter p xs) in let z = sum_by-cons g x xs in omega (arith, a, z, ih)
    go false ih = let a = sum_by-cons g x (filter (λ y. not (p y)) xs) in let z = sum_by-cons g x xs in omega (arith, a, z, ih)

less-part : (w a b c : ℕ) → a + b ≡ c → w * c - w * a ≡ w * b
less-part w a b c e =
    let d : w * a + w * b ≡ w * c = sym (mul-add w a b) ∙ ap (λ n. w * n) e in
    omega (arith, d)

-- arcs, by whether there is an inside and whether the range is live at the entry and at the exit

abbrev two : ℕ → ℕ → ℕ → List Arc
two a b w = record { from = a; to = b; cap = w } ∷ record { from = b; to = a; cap = w } ∷ []

arcs-same : (h l m : Bool) (e x n w a o z : ℕ) → w * a - w * z ≡ w * o
    → (elim (node_if h n) [
      | None ↦ []
      | Some i ↦ arcs_between (node_if l e) i w ++ arcs_between (node_if m x) i w ++ arc_to 0 (Some i) (elim (node_if m x) [ None ↦ w * a | Some j ↦ w * a - w * z ]) ++ arc_to 0 (node_if m x) (w * z)
    ])
    ≡ cond h (cond l (two e n w) [] ++ cond m (two x n w) [] ++ record { from = 0; to = n; cap = w * cond m o a } ∷ [] ++ cond m (record { from = 0; to = x; cap = w * z } ∷ []) []) []
arcs-same false l m e x n w a o z d = refl
arcs-same true true true e x n w a o z d = ap (λ c. two e n w ++ two x n w ++ record { from = 0; to = n; cap = c } ∷ [] ++ record { from = 0; to = x; cap = w * z } ∷ []) d
arcs-same true true false e x n w a o z d = refl
arcs-same true false true e x n w a o z d = ap (λ c. [] ++ two x n w ++ record { from = 0; to = n; cap = c } ∷ [] ++ record { from = 0; to = x; cap = w * z } ∷ []) d
arcs-same true false false e x n w a o z d = refl

-- costs

copy-same : (c : ℕ → Bool) (l i b : Bool) (e n w : ℕ) → (l ≡ true → c e ≡ b) → c n ≡ i → copy_cost c (node_if l e) n w ≡ w * cond l (cond b (cond i 0 1) (cond i 1 0)) 0
copy-same c false i b e n w entry inner = sym (times-none w)
copy-same c true i b e n w entry inner =
    ap (λ y. cond y (cond (c n) 0 w) (cond (c n) w 0)) (entry refl) ∙ (ap (λ y. cond b (cond y 0 w) (cond y w 0)) inner ∙ go b i)
  where
    go : (b i : Bool) → cond b (cond i 0 w) (cond i w 0) ≡ w * cond b (cond i 0 1) (cond i 1 0)
    go true true = sym (times-none w)
    go true false = sym (times-one w)
    go false true = sym (times-one w)
    go false false = sym (times-none w)

out-same : (c : ℕ → Bool) (i : Bool) (n w o u : ℕ) → c n ≡ i → u ≡ w * o → out_cost c (Some n) u ≡ w * cond i 0 o
out-same c i n w o u inner e = ap (λ y. cond y 0 u) inner ∙ (ap (λ y. cond i 0 y) e ∙ go i)
  where
    go : (i : Bool) → cond i 0 (w * o) ≡ w * cond i 0 o
    go true = sym (times-none w)
    go false = refl

end-same : (c : ℕ → Bool) (m b : Bool) (x w z : ℕ) → (m ≡ true → c x ≡ b) → out_cost c (node_if m x) (w * z) ≡ w * cond m (cond b 0 z) 0
end-same c false b x w z exit = sym (times-none w)
end-same c true b x w z exit = ap (λ y. cond y 0 (w * z)) (exit refl) ∙ go b
  where
    go : (b : Bool) → cond b 0 (w * z) ≡ w * cond b 0 z
    go true = sym (times-none w)
    go false = refl

left-out : (m : Bool) (x w a o z : ℕ) → w * a - w * z ≡ w * o → (elim (node_if m x) [ None ↦ w * a | Some j ↦ w * a - w * z ]) ≡ w * cond m o a
left-out true x w a o z d = d
left-out false x w a o z d = refl

four : (w a b c d : ℕ) → w * (a + b + c + d) ≡ w * a + w * b + w * c + w * d
four w a b c d = mul-add w (a + b + c) d ∙ ap (λ n. n + w * d) (mul-add w (a + b) c ∙ ap (λ n. n + w * c) (mul-add w a b))

costs-same : (c : ℕ → Bool) (h l m i b y : Bool) (e x n w a o z : ℕ) → w * a - w * z ≡ w * o → (l ≡ true → c e ≡ b) → (m ≡ true → c x ≡ y) → (h ≡ true → c n ≡ i)
    → (elim (node_if h n) [
      | None ↦ w * a
      | Some j ↦ copy_cost c (node_if l e) j w + copy_cost c (node_if m x) j w + out_cost c (Some j) (elim (node_if m x) [ None ↦ w * a | Some q ↦ w * a - w * z ]) + out_cost c (node_if m x) (w * z)
    ])
    ≡ w * cond h (cond l (cond b (cond i 0 1) (cond i 1 0)) 0 + cond m (cond y (cond i 0 1) (cond i 1 0)) 0 + cond i 0 (cond m o a) + cond m (cond y 0 z) 0) a
costs-same c false l m i b y e x n w a o z d entry exit inner = refl
costs-same c true l m i b y e x n w a o z d entry exit inner =
    let p = copy-same c l i b e n w entry (inner refl) in
    let q = copy-same c m i y x n w exit (inner refl) in
    let s = out-same c i n w (cond m o a) (elim (node_if m x) [ None ↦ w * a | Some q ↦ w * a - w * z ]) (inner refl) (left-out m x w a o z d) in
    let u = end-same c m y x w z exit in
    let all = four w (cond l (cond b (cond i 0 1) (cond i 1 0)) 0) (cond m (cond y (cond i 0 1) (cond i 1 0)) 0) (cond i 0 (cond m o a)) (cond m (cond y 0 z) 0) in
    ap (λ k. k + copy_cost c (node_if m x) n w + out_cost c (Some n) (elim (node_if m x) [ None ↦ w * a | Some q ↦ w * a - w * z ]) + out_cost c (node_if m x) (w * z)) p
    ∙ (ap (λ k. w * cond l (cond b (cond i 0 1) (cond i 1 0)) 0 + k + out_cost c (Some n) (elim (node_if m x) [ None ↦ w * a | Some q ↦ w * a - w * z ]) + out_cost c (node_if m x) (w * z)) q
    ∙ (ap (λ k. w * cond l (cond b (cond i 0 1) (cond i 1 0)) 0 + w * cond m (cond y (cond i 0 1) (cond i 1 0)) 0 + k + out_cost c (node_if m x) (w * z)) s
    ∙ (ap (λ k. w * cond l (cond b (cond i 0 1) (cond i 1 0)) 0 + w * cond m (cond y (cond i 0 1) (cond i 1 0)) 0 + w * cond i 0 (cond m o a) + k) u ∙ sym all)))

base-same : (h : Bool) (n w a : ℕ) → (elim (node_if h n) [ None ↦ w * a | Some j ↦ 0 ]) ≡ cond h 0 (w * a)
base-same true n w a = refl
base-same false n w a = refl

module _ (t : Target) (f : Function) (v : ℕ) (view : View) (freqs : List ℕ) (r : Reg) where
  -- the operands of a block but those of its terminators
  rest-is : (w : ℕ) (b : Block) → w * operands_in t f v view b.instrs - w * operands_in t f v view (terminators t f v view b) ≡ w * operands_in t f v view (filter (λ i. not (does is_terminator t i)) b.instrs)
  rest-is w b = less-part w _ _ _ (sum-both (does is_terminator t) (naming v) b.instrs)

  pub arcs-are : (k : ℕ) (b : Block) → row_arcs (block_row t f v view freqs r k b) ≡ block_arcs t f v view r (slice_index_or freqs k 0, b)
  arcs-are k b =
      arcs-same (has_inside t f v view r b) (enters t f v view r b) (leaves t f v view r b) (number_of t f v view r (Bundle (In b.number))) (number_of t f v view r (Bundle (Out b.number))) (number_of t f v view r (Inner b.number))
      (slice_index_or freqs k 0) (operands_in t f v view b.instrs) (operands_in t f v view (filter (λ i. not (does is_terminator t i)) b.instrs)) (operands_in t f v view (terminators t f v view b)) (rest-is (slice_index_or freqs k 0) b)

  pub base-is : (k : ℕ) (b : Block) → row_base (block_row t f v view freqs r k b) ≡ cond (has_inside t f v view r b) 0 (slice_index_or freqs k 0 * operands_in t f v view b.instrs)
  base-is k b = base-same (has_inside t f v view r b) (number_of t f v view r (Inner b.number)) (slice_index_or freqs k 0) (operands_in t f v view b.instrs)

  -- where nodes are in as a choice says
  pub cost-of : (c : ℕ → Bool) (choice : Choice) (k : ℕ) (b : Block)
      → (enters t f v view r b ≡ true → c (number_of t f v view r (Bundle (In b.number))) ≡ choice (Bundle (In b.number)))
      → (leaves t f v view r b ≡ true → c (number_of t f v view r (Bundle (Out b.number))) ≡ choice (Bundle (Out b.number)))
      → (has_inside t f v view r b ≡ true → c (number_of t f v view r (Inner b.number)) ≡ choice (Inner b.number))
      → row_cost c (block_row t f v view freqs r k b) ≡ slice_index_or freqs k 0 * block_cost t f v view r choice b
  cost-of c choice k b entry exit inner =
      costs-same c (has_inside t f v view r b) (enters t f v view r b) (leaves t f v view r b) (choice (Inner b.number)) (choice (Bundle (In b.number))) (choice (Bundle (Out b.number)))
      (number_of t f v view r (Bundle (In b.number))) (number_of t f v view r (Bundle (Out b.number))) (number_of t f v view r (Inner b.number))
      (slice_index_or freqs k 0) (operands_in t f v view b.instrs) (operands_in t f v view (filter (λ i. not (does is_terminator t i)) b.instrs)) (operands_in t f v view (terminators t f v view b)) (rest-is (slice_index_or freqs k 0) b) entry exit inner
