-- Where a block's instructions lead is among its successors, and without phis each item of an instruction is inside its block.
use Rattle.std.proofs.Common.{◌≡◌, ◌∷◌, ◌++◌, ◌∙◌, ◌&&◌, ◌||◌, ◌⊎◌, inl, inr, not, ℕ, suc, Bool, true, false, cond, List, Option, Some, None, drop, filter, map, refl, sym, ap, subst, []}
use Rattle.std.specs.Prelude.{find, nat_eq, option_map, option_to_list}
use Rattle.std.specs.List.{list_all, list_any}
use Rattle.target_base.specs.declared.types.Effect.{Effect}
use Rattle.target_base.specs.declared.types.Effect.TheVariants as effects
use Rattle.target_base.specs.declared.types.OpaqueKind.TheVariants as kinds
use Rattle.target_base.specs.declared.types.Target.{Target}
use Rattle.target_base.specs.Roles.{is_silent}
use Rattle.target_base.specs.Rules.{is_phi}
use Rattle.target_base.proofs.Tests.{first_of_both, second_of_both}
use Rattle.meaning.specs.Code.{Counted, Edge, Silent}
use Rattle.meaning.specs.Layout.{NoPhisAlong, NoPhisInto}
use Rattle.meaning.specs.Live.{Among as Member, here as first, there as later, in_order}
use Rattle.mir_func.specs.declared.func.Edge.{Edge as Successor}
use Rattle.mir_func.specs.declared.func.Operand.{Operand}
use Rattle.mir_func.specs.declared.func.Operand.TheVariants as operands
use Rattle.mir_func.specs.declared.func.Instr.{Instr}
use Rattle.mir_func.specs.declared.func.Block.{Block}
use Rattle.mir_func.specs.Value.{Function}
use Rattle.mir_func.specs.Binding.{does, effect_of, is_branch, is_early_clobber, is_terminator, passes, puts_together, roles_of}
use Rattle.mir_meaning.specs.Codes.{ends_without_terminator, fallen_into, falls_through, first_number, instrs_of, is_open, item_of, target_of, way, ways_out}
use Rattle.mir_meaning.specs.Items.{Value, counted_writes, rest_of, silent_reads, silent_writes, values}
use Rattle.mir_meaning.specs.Registers.{has_number}
use Rattle.mir_meaning.specs.Rules.{V1, V9, block_of, branch_targets, lists_once, named_blocks, successors_of}
use Rattle.instr_effects.proofs.Members.{filter-in, filter-of, flat-in, flat-of, in-either, left-in, map-in, map-of, member-elim, member-none, right-in}
use Rattle.live_laws.proofs.Effects.Lists.{all-of}
use Rattle.live_laws.proofs.Effects.Moving.{some-same}
use Rattle.live_laws.proofs.Touch.Cells.{any-of}
use Rattle.lowering_laws.proofs.BlockRules.{ordered}
use Rattle.lowering_laws.proofs.Blocks.{none-written}
use Rattle.lowering_laws.proofs.Ends.{names-none}
use Rattle.lowering_laws.proofs.Formed.{none-by}
use Rattle.lowering_laws.proofs.Lowering.{NoPhis}
use Rattle.spill_laws.specs.Standing.{IsInside}
use Rattle.spill_laws.proofs.SpillItems.{item-known}
use Rattle.std.proofs.Common.{eqb-true}

branch-ends : (e : Effect) → is_branch e ≡ true → is_terminator e ≡ true
branch-ends effects.Jump h = refl
branch-ends effects.Jcc h = refl
branch-ends effects.Jnz h = refl
branch-ends (effects.Opaque kinds.Branch) h = refl
branch-ends e h = absurd (cc)

target-in : (n : ℕ) (os : List Operand) → target_of os ≡ Some n → Member (operands.Block n) os
target-in n [] e = absurd (cc)
target-in n (operands.Block k ∷ os) e = subst (λ x. Member (operands.Block n) (operands.Block x ∷ os)) (sym (some-same k n e)) first
target-in n (o ∷ os) e = later (target-in n os e)

-- a block whose last instruction is no terminator has none
module _ (t : Target) where
  last-ends : (x : Instr) (is : List Instr) → does is_terminator t x ≡ true → list_all (does is_terminator t) is ≡ true → ends_without_terminator t (x ∷ is) ≡ true → ⊥
  last-ends x [] e all w = let a = ap not e in let b : false ≡ true = sym a ∙ w in cc
  last-ends x (y ∷ is) e all w = last-ends y is (first_of_both (does is_terminator t y) (list_all (does is_terminator t) is) all) (second_of_both (does is_terminator t y) (list_all (does is_terminator t) is) all) w

  shorter : (i : Instr) (is : List Instr) → ends_without_terminator t (i ∷ is) ≡ true → ends_without_terminator t is ≡ true
  shorter i [] e = refl
  shorter i (k ∷ is) e = e

  none-ends : (is : List Instr) → ordered t is ≡ true → ends_without_terminator t is ≡ true → (i : Instr) → Member i is → does is_terminator t i ≡ false
  none-ends [] o w i m = absurd (member-none i m)
  none-ends (x ∷ is) o w i m = go (does is_terminator t x) refl o (λ q k. none-ends is q (shorter x is w) i k)
    where
      go : (b : Bool) → does is_terminator t x ≡ b → cond b (list_all (does is_terminator t) is) (ordered t is) ≡ true → (ordered t is ≡ true → Member i is → does is_terminator t i ≡ false) → does is_terminator t i ≡ false
      go true e q more = absurd (last-ends x is e q w)
      go false e q more = member-elim i x is (λ u. ap (does is_terminator t) u ∙ e) (more q) m

module _ (t : Target) (f : Function) (k : ℕ) (b : Block) (after : List Block) (behind : drop (suc k) f.blocks ≡ after) (one : (i : Instr) → Member i b.instrs → V1 t f i ≡ true) (order : ordered t b.instrs ≡ true) (nine : V9 t f k b ≡ true) where
  wrong : list_any (λ i. does is_branch t i && not (V1 t f i)) b.instrs ≡ false
  wrong = none-by (λ i. does is_branch t i && not (V1 t f i)) b.instrs (λ i m. ap (λ y. does is_branch t i && not y) (one i m) ∙ out (does is_branch t i))
    where
      out : (y : Bool) → (y && false) ≡ false
      out true = refl
      out false = refl

  follow : (is_open t b || lists_once (successors_of b) (branch_targets t b.instrs ++ option_to_list (fallen_into t b after))) ≡ true
  unfolding V9
  follow = sym (λ q. wrong q || is_open t b || lists_once (successors_of b) (branch_targets t b.instrs ++ option_to_list (fallen_into t b (behind q)))) ∙ nine

  open-targets : is_open t b ≡ true → (n : ℕ) → Member n (branch_targets t b.instrs) → ⊥
  open-targets e n m =
      let z = flat-of named_blocks n (filter (does is_branch t) b.instrs) m in
      let y = filter-of (does is_branch t) z.0 b.instrs z.1 in
      let k = none-ends t b.instrs order (second_of_both _ _ e) z.0 y.0 in
      let h = ends-too (effect_of t z.0) y.1 in
      cc
    where
      ends-too : (q : Option Effect) → passes is_branch q ≡ true → passes is_terminator q ≡ true
      ends-too None h = absurd (cc)
      ends-too (Some x) h = branch-ends x h

  open-falls : is_open t b ≡ true → fallen_into t b after ≡ None
  open-falls e = ap (λ c. cond (falls_through t b.instrs && not c) (first_number after) None) e ∙ out (falls_through t b.instrs)
    where
      out : (c : Bool) → cond (c && false) (first_number after) None ≡ None
      out true = refl
      out false = refl

  followed : (n : ℕ) → Member n (branch_targets t b.instrs ++ option_to_list (fallen_into t b after)) → has_number (successors_of b) n ≡ true
  followed n m = go (is_open t b) refl follow
    where
      no-way : is_open t b ≡ true → Member n (branch_targets t b.instrs) ⊎ Member n (option_to_list (fallen_into t b after)) → ⊥
      no-way e (inl k) = open-targets e n k
      no-way e (inr k) = member-none n (subst (λ o. Member n (option_to_list o)) (open-falls e) k)

      go : (c : Bool) → is_open t b ≡ c → (c || lists_once (successors_of b) (branch_targets t b.instrs ++ option_to_list (fallen_into t b after))) ≡ true → has_number (successors_of b) n ≡ true
      go true e h = absurd (no-way e (in-either n (branch_targets t b.instrs) (option_to_list (fallen_into t b after)) m))
      go false e h = all-of (has_number (successors_of b)) n _ m (second_of_both _ _ h)

  successor : (n : ℕ) → has_number (successors_of b) n ≡ true → (e : Successor) × Member e b.successors × (e.block ≡ n)
  successor n h =
      let z = any-of (nat_eq n) (successors_of b) h in
      let y = map-of (λ (e : Successor). e.block) z.0 b.successors z.1 in
      (y.0, y.1, sym y.2 ∙ sym (eqb-true n z.0 z.2))

  pub falls-followed : (n : ℕ) → fallen_into t b after ≡ Some n → (e : Successor) × Member e b.successors × (e.block ≡ n)
  falls-followed n e = successor n (followed n (right-in n (branch_targets t b.instrs) (option_to_list (fallen_into t b after)) (subst (λ o. Member n (option_to_list o)) (sym e) first)))

  -- what an instruction names as its target

  module _ (i : Instr) (m : Member i b.instrs) (e : Effect) (known : effect_of t i ≡ Some e) (plain : does is_phi t i ≡ false) where
    target-branches : (n : ℕ) → target_of i.operands ≡ Some n → is_branch e ≡ true
    target-branches n g = go (is_branch e) refl
      where
        go : (c : Bool) → is_branch e ≡ c → is_branch e ≡ true
        go true h = h
        go false h = absurd (let z : target_of i.operands ≡ None = names-none t f i e known (one i m) plain h in cc)

    target-followed : (n : ℕ) → target_of i.operands ≡ Some n → (y : Successor) × Member y b.successors × (y.block ≡ n)
    target-followed n g =
        let does-branch : does is_branch t i ≡ true = ap (passes is_branch) known ∙ target-branches n g in
        let named = flat-in named_blocks n i (filter (does is_branch t) b.instrs) (filter-in (does is_branch t) i b.instrs m does-branch) (flat-in block_of n (operands.Block n) i.operands (target-in n i.operands g) first) in
        successor n (followed n (left-in n (branch_targets t b.instrs) (option_to_list (fallen_into t b after)) named))

    -- no phis on ways
    module _ (bare : (n m : ℕ) → (way t f n m).phis ≡ []) (single : puts_together e ≡ false) where
      bare-ways : (es : List Successor) → NoPhisAlong (map (λ y. way t f b.number y.block) es)
      bare-ways [] = tt
      bare-ways (y ∷ es) = (bare b.number y.block, bare-ways es)

      bare-outs : (c : Bool) → NoPhisAlong (cond c (ways_out t f b) [])
      bare-outs true = bare-ways b.successors
      bare-outs false = tt

      bare-into : (q : Option ℕ) → NoPhisInto (option_map (way t f b.number) q)
      bare-into None = tt
      bare-into (Some n) = bare b.number n

      silent-none : (x : Effect) → puts_together x ≡ false → silent_reads t f x i.operands ≡ []
      silent-none effects.RegSequence h = absurd (cc)
      silent-none effects.InsertSubreg h = absurd (cc)
      silent-none x h = refl

      target-among : (q : Option ℕ) → target_of i.operands ≡ q → (y : Edge) → option_map (way t f b.number) q ≡ Some y → Member y (cond (is_terminator e) (ways_out t f b) [])
      target-among None g y h = absurd (cc)
      target-among (Some n) g y h =
          let x = target-followed n g in
          let same : way t f b.number n ≡ y = some-same (way t f b.number n) y h in
          subst (λ c. Member y (cond c (ways_out t f b) [])) (sym (branch-ends e (target-branches n g)))
          (subst (λ w. Member w (ways_out t f b)) (ap (way t f b.number) x.2 ∙ same) (map-in (λ (d : Successor). way t f b.number d.block) x.0 b.successors x.1))

      by-item : IsInside (cond (is_silent e) (Silent (silent_reads t f e i.operands) (silent_writes t f e (is_early_clobber (roles_of t i)) i.operands)) (Counted (rest_of t f e i) (map (λ (v : Value). v.0) (values t f e i)) (counted_writes t f e i) (option_map (way t f b.number) (target_of i.operands)) (cond (is_terminator e) (ways_out t f b) [])))
      by-item = go (is_silent e)
        where
          go : (c : Bool) → IsInside (cond c (Silent (silent_reads t f e i.operands) (silent_writes t f e (is_early_clobber (roles_of t i)) i.operands)) (Counted (rest_of t f e i) (map (λ (v : Value). v.0) (values t f e i)) (counted_writes t f e i) (option_map (way t f b.number) (target_of i.operands)) (cond (is_terminator e) (ways_out t f b) [])))
          go true = silent-none e single
          go false = (bare-into (target_of i.operands), bare-outs (is_terminator e), target-among (target_of i.operands) refl)

      pub item-inside : IsInside (item_of t f b i)
      item-inside = subst IsInside (sym (item-known t f b i e known)) by-item

      pub item-in-order : in_order (item_of t f b i) ≡ true
      item-in-order = ap in_order (item-known t f b i e known) ∙ go (is_silent e)
        where
          go : (c : Bool) → in_order (cond c (Silent (silent_reads t f e i.operands) (silent_writes t f e (is_early_clobber (roles_of t i)) i.operands)) (Counted (rest_of t f e i) (map (λ (v : Value). v.0) (values t f e i)) (counted_writes t f e i) (option_map (way t f b.number) (target_of i.operands)) (cond (is_terminator e) (ways_out t f b) []))) ≡ true
          go true = refl
          go false = refl

-- a function without phis has none on its ways
module _ (t : Target) (f : Function) (plain : (b : Block) (i : Instr) → Member b f.blocks → Member i b.instrs → does is_phi t i ≡ false) where
  found-plain : (bs : List Block) → ((b : Block) → Member b bs → Member b f.blocks) → (m : ℕ) → NoPhis t (instrs_of bs m)
  found-plain [] w m = tt
  found-plain (b ∷ bs) w m = go (nat_eq b.number m) (found-plain bs (λ c k. w c (later k)) m)
    where
      all-plain : (is : List Instr) → ((i : Instr) → Member i is → does is_phi t i ≡ false) → NoPhis t is
      all-plain [] h = tt
      all-plain (i ∷ is) h = (h i first, all-plain is (λ j k. h j (later k)))

      go : (c : Bool) → NoPhis t (instrs_of bs m) → NoPhis t (elim (cond c (Some b) (find (λ d. nat_eq d.number m) bs)) as (λ q. List Instr) [ None ↦ [] | Some d ↦ d.instrs ])
      go true ih = all-plain b.instrs (λ i k. plain b i (w b first) k)
      go false ih = ih

  pub bare-ways-of : (n m : ℕ) → (way t f n m).phis ≡ []
  bare-ways-of n m = none-written t f n (instrs_of f.blocks m) (found-plain f.blocks (λ b k. k) m)
