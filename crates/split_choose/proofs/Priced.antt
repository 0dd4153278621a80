-- What the part of a range in a register costs, span by span and block by block.
use Rattle.std.proofs.Common.{◌≡◌, ◌∙◌, ◌⊎◌, inl, inr, ℕ, zero, suc, ◌+◌, ◌*◌, ◌<◌, ◌≤◌, List, [], ◌∷◌, ◌++◌, Bool, true, false, cond, refl, sym, ap, subst, length, arith, get_or, map, filter, Option, None, Some}
use Rattle.std.specs.Prelude.{slice_get, zip, slice_index_or, nat_lt}
use Rattle.std.specs.List.{sum_by}
use Rattle.std.proofs.lemmas.List.Sums.{sum_by-cons}
use Rattle.std.proofs.Math.Nat.{mul-add, mul-le-mul_left}
use Rattle.target_base.specs.declared.types.Target.{Target}
use Rattle.target_base.specs.declared.types.Reg.{Reg}
use Rattle.mir_func.specs.declared.func.Block.{Block}
use Rattle.mir_func.specs.declared.func.Instr.{Instr}
use Rattle.mir_func.specs.Value.{Function}
use Rattle.mir_func.specs.Binding.{does, is_terminator}
use Rattle.block_freq.specs.Weights.{naming, block_uses, use_sum}
use Rattle.split_choose.specs.declared.spans.Span.{Span}
use Rattle.split_choose.specs.declared.regions.InsidePart.{InsidePart as Where}
use Rattle.split_choose.specs.declared.regions.InsidePart.TheVariants as wheres
use Rattle.split_choose.specs.Bundles.{are_joined, ArePlaced}
use Rattle.split_choose.specs.Regions.{capped, uses_of, span_cost, costs_of, inside_in}
use Rattle.split_choose.specs.Offers.{View, Border, Inside, Nowhere, Whole, Head, Tail, is_clear, inside, inside_cost, operands_in, terminators, region_cost}
use Rattle.split_choose.specs.Counted.{AreCounted}
use Rattle.split_choose.specs.Parts.{as_inside}
use Rattle.split_choose.proofs.Telling.{IsTold, IsUntold}
use Rattle.split_choose.proofs.Along.{Along, along-sum}
use Rattle.split_choose.proofs.Insides.{inside-is, untold-inside}

pub capped-fits : (n : ℕ) → n ≤ 340282366920938463463374607431768211455 → capped n ≡ n
capped-fits n h = omega arith

-- sums

pub sum-times : {X : Type 0} (c : ℕ) (g : X → ℕ) (xs : List X) → sum_by (λ x. c * g x) xs ≡ c * sum_by g xs
sum-times c g [] = let z : 0 ≡ c * 0 = omega arith in z
sum-times c g (x ∷ xs) =
    sum_by-cons (λ y. c * g y) x xs ∙ (ap (λ n. c * g x + n) (sum-times c g xs) ∙ (sym (mul-add c (g x) (sum_by g xs)) ∙ ap (λ n. c * n) (sym (sum_by-cons g x xs))))

pub sum-filter : {X : Type 0} (p : X → Bool) (g : X → ℕ) (xs : List X) → sum_by g (filter p xs) ≤ sum_by g xs
sum-filter p g [] = omega arith
sum-filter p g (x ∷ xs) = go (p x) (sum-filter p g xs)
  where
    go : (b : Bool) → sum_by g (filter p xs) ≤ sum_by g xs → sum_by g (cond b (x ∷ filter p xs) (filter p xs)) ≤ sum_by g (x ∷ xs)
    go true h = let a = sum_by-cons g x (filter p xs) in let z = sum_by-cons g x xs in omega (arith, a, z, h)
    go false h = let z = sum_by-cons g x xs in omega (arith, z, h)

pub weight-below : (ws : List ℕ) (k : ℕ) → get_or ws k 0 ≤ sum_by (λ n. n) ws
weight-below [] k = omega arith
weight-below (w ∷ ws) zero = let a = sum_by-cons (λ (n : ℕ). n) w ws in omega (arith, a)
weight-below (w ∷ ws) (suc k) = let a = sum_by-cons (λ (n : ℕ). n) w ws in let b = weight-below ws k in omega (arith, a, b)

pair-below : {X : Type 0} (h : ℕ × X → ℕ) (ws : List ℕ) (xs : List X) (k : ℕ) (x : X) → length ws ≡ length xs → slice_get xs k ≡ Some x → h (get_or ws k 0, x) ≤ sum_by h (zip ws xs)
pair-below h ws [] k x l at = absurd (cc)
pair-below h [] (y ∷ xs) k x l at = absurd (omega (arith, l))
pair-below h (w ∷ ws) (y ∷ xs) zero x l at =
    let a = sum_by-cons h (w, y) (zip ws xs) in
    let same : y ≡ x = cc in
    let e : h (w, x) ≡ h (w, y) = ap (λ z. h (w, z)) (sym same) in omega (arith, a, e)
pair-below h (w ∷ ws) (y ∷ xs) (suc k) x l at =
    let a = sum_by-cons h (w, y) (zip ws xs) in
    let shorter : length ws ≡ length xs = omega (arith, l) in
    let b = pair-below h ws xs k x shorter at in omega (arith, a, b)

pub sum-within : {X : Type 0} (g h : ℕ × X → ℕ) → ((w : ℕ) (x : X) → g (w, x) ≤ w + h (w, x)) → (ws : List ℕ) (xs : List X) → sum_by g (zip ws xs) ≤ sum_by (λ n. n) ws + sum_by h (zip ws xs)
sum-within g h below [] xs = omega arith
sum-within g h below (w ∷ ws) [] = omega arith
sum-within g h below (w ∷ ws) (x ∷ xs) =
    let a = sum_by-cons g (w, x) (zip ws xs) in
    let b = sum_by-cons h (w, x) (zip ws xs) in
    let c = sum_by-cons (λ (n : ℕ). n) w ws in
    let r = sum-within g h below ws xs in
    let q = below w x in omega (arith, a, b, c, r, q)

module _ (t : Target) (f : Function) (v : ℕ) (view : View) where
  pub uses-are : (w : ℕ) (b : Block) → block_uses v (w, b) ≡ w * operands_in t f v view b.instrs
  uses-are w b = sum-times w (naming v) b.instrs

  pub ends-below : (w : ℕ) (b : Block) → w * operands_in t f v view (terminators t f v view b) ≤ w * operands_in t f v view b.instrs
  ends-below w b = mul-le-mul_left w (sum-filter (does is_terminator t) (naming v) b.instrs)

  cost-below : (i : Inside) (w : ℕ) (b : Block) → w * inside_cost t f v view b i ≤ w + w * operands_in t f v view b.instrs
  cost-below Nowhere w b = omega arith
  cost-below Whole w b = omega arith
  cost-below Head w b =
      let h = ends-below w b in
      let e : w * (1 + operands_in t f v view (terminators t f v view b)) ≡ w + w * operands_in t f v view (terminators t f v view b) = omega arith in
      omega (arith, h, e)
  cost-below Tail w b = omega arith

  module _ (freqs : List ℕ) (counted : AreCounted f freqs v) where
    pub sum-fits : capped (use_sum f.blocks freqs v) ≡ use_sum f.blocks freqs v
    sum-fits = let h = counted.fits in capped-fits (use_sum f.blocks freqs v) (omega (arith, h))

    cost-fits : (r : Reg) → region_cost t f v view freqs r ≤ 340282366920938463463374607431768211455
    cost-fits r =
        let a = sum-within (λ (p : ℕ × Block). p.0 * inside_cost t f v view p.1 (inside t f v view r p.1)) (block_uses v)
        (λ w b. (let c = cost-below (inside t f v view r b) w b in let d = uses-are w b in omega (arith, c, d))) freqs f.blocks in
        let h = counted.fits in omega (arith, a, h)

    -- a block's share fits
    share-fits : (k : ℕ) (b : Block) → slice_get f.blocks k ≡ Some b → slice_index_or freqs k 0 + slice_index_or freqs k 0 * operands_in t f v view b.instrs ≤ 340282366920938463463374607431768211455
    share-fits k b at =
        let a = weight-below freqs k in
        let c = pair-below (block_uses v) freqs f.blocks k b counted.many at in
        let d = uses-are (get_or freqs k 0) b in
        let h = counted.fits in omega (arith, a, c, d, h)

    module _ (spans : List Span) (k : ℕ) (b : Block) (s : Span) (told : IsTold t f v view freqs spans k b s) where
      pub told-uses : s.uses ≡ slice_index_or freqs k 0 * operands_in t f v view b.instrs
      told-uses =
          let h = share-fits k b told.at in
          told.uses ∙ (ap (λ n. capped (n * operands_in t f v view b.instrs)) told.frequency ∙ capped-fits (slice_index_or freqs k 0 * operands_in t f v view b.instrs) (omega (arith, h)))

      pub told-ends : s.end_uses ≡ slice_index_or freqs k 0 * operands_in t f v view (terminators t f v view b)
      told-ends =
          let h = share-fits k b told.at in
          let e = ends-below (slice_index_or freqs k 0) b in
          told.end_uses ∙ (ap (λ n. capped (n * operands_in t f v view (terminators t f v view b))) told.frequency
          ∙ capped-fits (slice_index_or freqs k 0 * operands_in t f v view (terminators t f v view b)) (omega (arith, h, e)))

      told-cost : (i : Where) → span_cost s i ≡ slice_index_or freqs k 0 * inside_cost t f v view b (as_inside i)
      told-cost wheres.Nowhere = told-uses
      told-cost wheres.All = let z : 0 ≡ slice_index_or freqs k 0 * 0 = omega arith in z
      told-cost wheres.Start =
          let w = slice_index_or freqs k 0 in
          let n = operands_in t f v view (terminators t f v view b) in
          let h = share-fits k b told.at in
          let e = ends-below w b in
          let d : w + w * n ≡ w * (1 + n) = omega arith in
          ap (λ y. capped (y + s.end_uses)) told.frequency ∙ (ap (λ y. capped (w + y)) told-ends ∙ (capped-fits (w + w * n) (omega (arith, h, e)) ∙ d))
      told-cost wheres.End = told.frequency ∙ (let z : slice_index_or freqs k 0 ≡ slice_index_or freqs k 0 * 1 = omega arith in z)

    module _ (spans : List Span) (all : Along (λ (s : Span). s.position) (IsTold t f v view freqs spans) (IsUntold t f v view) 0 f.blocks spans) where
      pub weights : (j : ℕ) → j < length f.blocks → get_or freqs j 0 ≡ slice_index_or freqs (0 + j) 0
      weights j h = let e : j ≡ 0 + j = omega arith in ap (λ n. get_or freqs n 0) e

      pub uses-is : capped (uses_of spans) ≡ use_sum f.blocks freqs v
      uses-is =
          ap capped (along-sum (λ (s : Span). s.position) (IsTold t f v view freqs spans) (IsUntold t f v view) (λ (s : Span). s.uses) (block_uses v) (λ n. slice_index_or freqs n 0)
          (λ k b s told. told-uses spans k b s told ∙ sym (uses-are (slice_index_or freqs k 0) b))
          (λ k b untold. uses-are (slice_index_or freqs k 0) b ∙ (ap (λ n. slice_index_or freqs k 0 * n) untold.uses ∙ (let z : slice_index_or freqs k 0 * 0 ≡ 0 = omega arith in z)))
          0 freqs f.blocks spans counted.many weights all)
          ∙ sum-fits

      module _ (ps : List ℕ) (placed : ArePlaced f.blocks) (one : (x y : Border) → view.one_bundle (x, y) ≡ are_joined f.blocks ps (x, y))
          (r : Reg) (clear : Span → Bool)
          (cleared : (k : ℕ) (b : Block) (s : Span) → IsTold t f v view freqs spans k b s → clear s ≡ is_clear t f v view r b) where
        pub cost-is : capped (costs_of (inside_in ps clear spans) spans) ≡ region_cost t f v view freqs r
        cost-is =
            ap capped (along-sum (λ (s : Span). s.position) (IsTold t f v view freqs spans) (IsUntold t f v view) (λ (s : Span). span_cost s (inside_in ps clear spans s))
            (λ (p : ℕ × Block). p.0 * inside_cost t f v view p.1 (inside t f v view r p.1)) (λ n. slice_index_or freqs n 0)
            (λ k b s told. told-cost spans k b s told (inside_in ps clear spans s)
            ∙ ap (λ i. slice_index_or freqs k 0 * inside_cost t f v view b i) (inside-is t f v view ps placed one freqs spans r clear cleared all k b s told))
            (λ k b untold. ap (λ i. slice_index_or freqs k 0 * inside_cost t f v view b i) (untold-inside t f v view ps placed one freqs spans r clear cleared all k b untold)
            ∙ (ap (λ n. slice_index_or freqs k 0 * n) untold.uses ∙ (let z : slice_index_or freqs k 0 * 0 ≡ 0 = omega arith in z)))
            0 freqs f.blocks spans counted.many weights all)
            ∙ capped-fits (region_cost t f v view freqs r) (cost-fits r)
