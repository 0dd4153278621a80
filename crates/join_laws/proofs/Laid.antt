-- The code of a function whose blocks end as rules say is laid out as its runs go.
use Rattle.std.proofs.Common.{◌≡◌, ◌⊎◌, inl, inr, ℕ, suc, Bool, true, false, cond, not, ◌&&◌, ◌||◌, List, [], ◌∷◌, ◌++◌, Option, Some, None, map, filter, length, drop, refl, sym, ap, ◌∙◌, subst, eq-eqb, eqb-true, append_assoc}
use Rattle.std.specs.Prelude.{nat_eq, option_map, option_to_list, slice_get}
use Rattle.std.specs.List.{list_any}
use Rattle.std.proofs.lemmas.Bool.{and_right}
use Rattle.target_base.specs.declared.types.Effect.{Effect}
use Rattle.target_base.specs.declared.types.Target.{Target}
use Rattle.target_base.specs.Roles.{is_silent}
use Rattle.target_base.specs.Rules.{is_phi}
use Rattle.target_base.proofs.Tests.{second_of_both}
use Rattle.meaning.specs.Code.{Edge, Item, BlockStart, BlockEnd, Silent, Counted, Code, found}
use Rattle.meaning.specs.Lanes.{Writes}
use Rattle.meaning.specs.Layout.{FallsTo, LaidOut}
use Rattle.meaning.specs.Live.{Among as Member, here as first, there as later}
use Rattle.mir_func.specs.declared.func.Edge.{Edge as Successor}
use Rattle.mir_func.specs.declared.func.Instr.{Instr}
use Rattle.mir_func.specs.declared.func.Block.{Block}
use Rattle.mir_func.specs.Value.{Function}
use Rattle.mir_func.specs.Binding.{effect_of, does, is_branch, is_early_clobber, is_terminator, passes, roles_of}
use Rattle.mir_meaning.specs.Registers.{has_number}
use Rattle.mir_meaning.specs.Items.{silent_reads, silent_writes, rest_of, values, counted_writes, defined_undef}
use Rattle.mir_meaning.specs.Codes.{block_end, blocks_code, effect_item, fallen_into, is_open, falls_through, first_number, item_of, target_of, way, ways_out}
use Rattle.mir_meaning.specs.Points.{point_item, points_of}
use Rattle.mir_meaning.specs.Rules.{V1, V5, V8, V9, block_numbers, branch_targets, lists_once, named_blocks, successors_of}
use Rattle.instr_effects.proofs.Members.{member-none, in-either, left-in, right-in, flat-in, flat-of, filter-in, filter-of, map-in, map-of}
use Rattle.live_laws.proofs.Effects.Blocks.{block_code, items-past, numbers-apart, number-there, slice-member}
use Rattle.live_laws.proofs.Effects.Lists.{all-of}
use Rattle.live_laws.proofs.Effects.Moved.{Apart}
use Rattle.live_laws.proofs.Effects.Moving.{some-same}
use Rattle.lowering_laws.specs.Shapes.{IsLowered}
use Rattle.join_laws.proofs.Branches.{branch-ends, counted-roles, no-terminators, target-branches, target-named}

-- a list by what stands before one of it

at-length : {X : Type 0} (pre : List X) (x : X) (after : List X) → slice_get (pre ++ x ∷ after) (length pre) ≡ Some x
at-length [] x after = refl
at-length (y ∷ pre) x after = at-length pre x after

past-length : {X : Type 0} (pre : List X) (x : X) (after : List X) → drop (suc (length pre)) (pre ++ x ∷ after) ≡ after
past-length [] x after = refl
past-length (y ∷ pre) x after = past-length pre x after

none-of : {X : Type 0} (p : X → Bool) (xs : List X) → ((x : X) → Member x xs → p x ≡ false) → list_any p xs ≡ false
none-of p [] g = refl
none-of p (x ∷ xs) g = λ k. g x first k || none-of p xs (λ y m. g y (later m)) k

abbrev edge : ℕ → Writes → Edge
edge n ws = record { block = n; phis = ws }

-- an item that names a way out alone
abbrev Listed : Item → Type 0
Listed (BlockStart n) = ⊥
Listed (BlockEnd falls exits) = ⊥
Listed (Silent reads ws) = Unit {0}
Listed (Counted r reads ws None exits) = Unit {0}
Listed (Counted r reads ws (Some e) exits) = Member e exits

laid-item : (code : Code) (i : Item) (p : Code) → Listed i → LaidOut code p → LaidOut code (i ∷ p)
laid-item code (BlockStart n) p h l = absurd h
laid-item code (BlockEnd falls exits) p h l = absurd h
laid-item code (Silent reads ws) p h l = l
laid-item code (Counted r reads ws None exits) p h l = l
laid-item code (Counted r reads ws (Some e) exits) p h l = (h, l)

module _ (t : Target) (f : Function) (low : IsLowered t f) where
  rule-one : (b : Block) (i : Instr) → Member b f.blocks → Member i b.instrs → V1 t f i ≡ true
  rule-one b i mb mi = (low.rules.shaped b i mb mi).operands

  -- each block stands where it is found

  abbrev P : Code
  P = blocks_code (point_item t f) t f f.blocks

  fives : (k : ℕ) (b : Block) → slice_get f.blocks k ≡ Some b → V5 f k b ≡ true
  fives k b e = low.rules.blocks k b e

  pub found-at : (pre : List Block) (b : Block) (after : List Block) → Apart (block_numbers (pre ++ b ∷ after)) → found b.number (blocks_code (point_item t f) t f (pre ++ b ∷ after)) ≡ block_code t f b after
  found-at [] b after a = ap (λ q. cond q (block_code t f b after) (found b.number (block_code t f b after))) (eq-eqb b.number b.number refl)
  found-at (c ∷ pre) b after a =
      ap (λ q. cond q (block_code t f c (pre ++ b ∷ after)) (found b.number (block_code t f c (pre ++ b ∷ after)))) (other (nat_eq c.number b.number) refl)
      ∙ items-past t f b.number c c.instrs (block_end t f c (pre ++ b ∷ after) ∷ blocks_code (point_item t f) t f (pre ++ b ∷ after))
      ∙ found-at pre b after a.1
    where
      there : Member b.number (block_numbers (pre ++ b ∷ after))
      there = map-in (λ (d : Block). d.number) b (pre ++ b ∷ after) (right-in b pre (b ∷ after) first)

      other : (q : Bool) → nat_eq c.number b.number ≡ q → nat_eq c.number b.number ≡ false
      other false g = g
      other true g = absurd (a.0 (subst (λ n. Member n (block_numbers (pre ++ b ∷ after))) (sym (eqb-true c.number b.number g)) there))

  -- what a block names and falls into is among its successors

  module _ (pre : List Block) (b : Block) (after : List Block) (whole : pre ++ b ∷ after ≡ f.blocks) where
    place : slice_get f.blocks (length pre) ≡ Some b
    place = ap (λ bs. slice_get bs (length pre)) (sym whole) ∙ at-length pre b after

    behind : drop (suc (length pre)) f.blocks ≡ after
    behind = ap (drop (suc (length pre))) (sym whole) ∙ past-length pre b after

    pub inside : Member b f.blocks
    inside = slice-member f.blocks (length pre) b place

    wrong : list_any (λ i. does is_branch t i && not (V1 t f i)) b.instrs ≡ false
    wrong = none-of (λ i. does is_branch t i && not (V1 t f i)) b.instrs (λ i m. and_right (does is_branch t i) (not (V1 t f i)) (ap not (rule-one b i inside m)))

    follow : (is_open t b || lists_once (successors_of b) (branch_targets t b.instrs ++ option_to_list (fallen_into t b after))) ≡ true
    unfolding V9
    follow =
        sym (λ k. wrong k || is_open t b || lists_once (successors_of b) (branch_targets t b.instrs ++ option_to_list (fallen_into t b (behind k))))
        ∙ low.successors (length pre) b place

    -- an open block names no block and falls into none

    open-ends : is_open t b ≡ true → (i : Instr) → Member i b.instrs → does is_terminator t i ≡ false
    unfolding V8
    open-ends e = no-terminators t b.instrs (λ j i g. low.terminators b j i inside g) (second_of_both _ _ e)

    open-targets : is_open t b ≡ true → (n : ℕ) → Member n (branch_targets t b.instrs) → ⊥
    open-targets e n m =
        let z = flat-of named_blocks n (filter (does is_branch t) b.instrs) m in
        let y = filter-of (does is_branch t) z.0 b.instrs z.1 in
        let k = open-ends e z.0 y.0 in
        let h = ends-too (effect_of t z.0) y.1 in
        cc
      where
        ends-too : (q : Option Effect) → passes is_branch q ≡ true → passes is_terminator q ≡ true
        ends-too None h = absurd (cc)
        ends-too (Some x) h = branch-ends x h

    open-falls : is_open t b ≡ true → fallen_into t b after ≡ None
    open-falls e = ap (λ c. cond (falls_through t b.instrs && not c) (first_number after) None) e ∙ out (falls_through t b.instrs)
      where
        out : (c : Bool) → cond (c && false) (first_number after) None ≡ None
        out true = refl
        out false = refl

    no-way : is_open t b ≡ true → (n : ℕ) → Member n (branch_targets t b.instrs ++ option_to_list (fallen_into t b after)) → ⊥
    no-way e n m = go (in-either n (branch_targets t b.instrs) (option_to_list (fallen_into t b after)) m)
      where
        go : Member n (branch_targets t b.instrs) ⊎ Member n (option_to_list (fallen_into t b after)) → ⊥
        go (inl k) = open-targets e n k
        go (inr k) = member-none n (subst (λ o. Member n (option_to_list o)) (open-falls e) k)

    followed : (n : ℕ) → Member n (branch_targets t b.instrs ++ option_to_list (fallen_into t b after)) → Member (way t f b.number n) (ways_out t f b)
    followed n m = go (is_open t b) refl follow
      where
        go : (c : Bool) → is_open t b ≡ c → (c || lists_once (successors_of b) (branch_targets t b.instrs ++ option_to_list (fallen_into t b after))) ≡ true → Member (way t f b.number n) (ways_out t f b)
        go true e h = absurd (no-way e n m)
        go false e h =
            let s = number-there n (successors_of b) (all-of (has_number (successors_of b)) n _ m (second_of_both _ _ h)) in
            let z = map-of (λ (e : Successor). e.block) n b.successors s in
            subst (λ k. Member (way t f b.number k) (ways_out t f b)) (sym z.2) (map-in (λ (e : Successor). way t f b.number e.block) z.0 b.successors z.1)

    falls-to : (n : ℕ) → fallen_into t b after ≡ Some n → FallsTo (way t f b.number n).phis (ways_out t f b) (blocks_code (point_item t f) t f after)
    falls-to n e = go (falls_through t b.instrs && not (is_open t b)) after e (followed n (right-in n (branch_targets t b.instrs) (option_to_list (fallen_into t b after)) (subst (λ o. Member n (option_to_list o)) (sym e) first)))
      where
        go : (c : Bool) (bs : List Block) → cond c (first_number bs) None ≡ Some n → Member (way t f b.number n) (ways_out t f b) → FallsTo (way t f b.number n).phis (ways_out t f b) (blocks_code (point_item t f) t f bs)
        go false bs g m = absurd (cc)
        go true [] g m = absurd (cc)
        go true (d ∷ bs) g m = subst (λ k. Member (edge k (way t f b.number n).phis) (ways_out t f b)) (sym (some-same d.number n g)) m

    listed-target : (i : Instr) (e : Effect) → effect_of t i ≡ Some e → Member i b.instrs → is_silent e ≡ false → (n : ℕ) → target_of i.operands ≡ Some n → Member (way t f b.number n) (cond (is_terminator e) (ways_out t f b) [])
    listed-target i e known m s n g =
        let branch = target-branches t f i e known (rule-one b i inside m) n (counted-roles e s) g in
        let does-branch : does is_branch t i ≡ true = ap (passes is_branch) known ∙ branch in
        let named = flat-in named_blocks n i (filter (does is_branch t) b.instrs) (filter-in (does is_branch t) i b.instrs m does-branch) (target-named n i g) in
        subst (λ c. Member (way t f b.number n) (cond c (ways_out t f b) [])) (sym (branch-ends e branch)) (followed n (left-in n (branch_targets t b.instrs) (option_to_list (fallen_into t b after)) named))

    listed-effect : (i : Instr) (e : Effect) → effect_of t i ≡ Some e → Member i b.instrs → Listed (effect_item t f b i e)
    listed-effect i e known m = go (is_silent e) refl (target_of i.operands) refl
      where
        go : (s : Bool) → is_silent e ≡ s → (o : Option ℕ) → target_of i.operands ≡ o → Listed (cond s (Silent (silent_reads t f e i.operands) (silent_writes t f e (is_early_clobber (roles_of t i)) i.operands)) (Counted (rest_of t f e i) (map (λ v. v.0) (values t f e i)) (counted_writes t f e i) (option_map (way t f b.number) o) (cond (is_terminator e) (ways_out t f b) [])))
        go true h o g = tt
        go false h None g = tt
        go false h (Some n) g = listed-target i e known m h n g

    listed-instr : (i : Instr) → Member i b.instrs → Listed (point_item t f b i)
    unfolding point_item item_of
    listed-instr i m = phi (does is_phi t i) (effect_of t i) refl
      where
        phi : (c : Bool) (q : Option Effect) → effect_of t i ≡ q → Listed (cond c (Silent [] (defined_undef t f i.operands)) (elim q as (λ o. Item) [ None ↦ Silent [] [] | Some e ↦ effect_item t f b i e ]))
        phi true q g = tt
        phi false None g = tt
        phi false (Some e) g = listed-effect i e g m

    laid-items : (is : List Instr) → ((i : Instr) → Member i is → Member i b.instrs) → (p : Code) → LaidOut P p → LaidOut P (map (point_item t f b) is ++ p)
    laid-items [] g p h = h
    laid-items (i ∷ is) g p h = laid-item P (point_item t f b i) (map (point_item t f b) is ++ p) (listed-instr i (g i first)) (laid-items is (λ j k. g j (later k)) p h)

    laid-end : LaidOut P (blocks_code (point_item t f) t f after) → LaidOut P (block_end t f b after ∷ blocks_code (point_item t f) t f after)
    laid-end h = go (fallen_into t b after) refl
      where
        go : (o : Option ℕ) → fallen_into t b after ≡ o → LaidOut P (BlockEnd (option_map (λ n. (way t f b.number n).phis) o) (ways_out t f b) ∷ blocks_code (point_item t f) t f after)
        go None e = h
        go (Some n) e = (falls-to n e, h)

    laid-block : LaidOut P (blocks_code (point_item t f) t f after) → LaidOut P (blocks_code (point_item t f) t f (b ∷ after))
    laid-block h = (
      ap (λ bs. found b.number (blocks_code (point_item t f) t f bs)) (sym whole) ∙ found-at pre b after (subst (λ bs. Apart (block_numbers bs)) (sym whole) (numbers-apart f fives)),
      laid-items b.instrs (λ i k. k) (block_end t f b after ∷ blocks_code (point_item t f) t f after) (laid-end h),
    )

  laid-blocks : (pre bs : List Block) → pre ++ bs ≡ f.blocks → LaidOut P (blocks_code (point_item t f) t f bs)
  laid-blocks pre [] e = tt
  laid-blocks pre (b ∷ bs) e = laid-block pre b bs e (laid-blocks (pre ++ b ∷ []) bs (append_assoc pre (b ∷ []) bs ∙ e))

  pub points-laid : LaidOut (points_of t f) (points_of t f)
  unfolding points_of
  points-laid = laid-blocks [] f.blocks refl
