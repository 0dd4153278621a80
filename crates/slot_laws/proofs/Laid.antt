-- The code of a valid allocated function is laid out as its runs go, and has no phis.
use Rattle.std.proofs.Common.{◌≡◌, ◌⊎◌, inl, inr, take, ℕ, zero, suc, Bool, true, false, cond, not, ◌&&◌, ◌||◌, List, [], ◌∷◌, ◌++◌, Option, Some, None, map, filter, length, drop, refl, sym, ap, ◌∙◌, subst, eq-eqb, eqb-true, append_assoc}
use Rattle.std.specs.Prelude.{nat_eq, option_map, option_to_list, slice_get}
use Rattle.std.specs.List.{list_all, list_any}
use Rattle.std.proofs.lemmas.Bool.{and_right, not-true}
use Rattle.target_base.specs.declared.types.Effect.{Effect}
use Rattle.target_base.specs.declared.types.Effect.TheVariants as effects
use Rattle.target_base.specs.declared.types.OpaqueKind.TheVariants as kinds
use Rattle.target_base.specs.declared.types.Target.{Target}
use Rattle.target_base.specs.Roles.{is_silent}
use Rattle.target_base.specs.Rules.{is_phi}
use Rattle.target_base.proofs.Tests.{second_of_both}
use Rattle.meaning.specs.Code.{Edge, Item, BlockStart, BlockEnd, Silent, Counted, Code, found}
use Rattle.meaning.specs.Layout.{FallsTo, LaidOut, NoPhis, NoPhisAlong, NoPhisBelow, NoPhisInto}
use Rattle.meaning.specs.Live.{Among as Member, here as first, there as later}
use Rattle.mir_func.specs.declared.func.Edge.{Edge as Successor}
use Rattle.mir_func.specs.declared.func.Instr.{Instr}
use Rattle.mir_func.specs.declared.func.Block.{Block}
use Rattle.mir_func.specs.Value.{Function}
use Rattle.mir_func.specs.Binding.{effect_of, does, is_branch, is_early_clobber, is_lowered_away, is_terminator, passes, roles_of}
use Rattle.mir_meaning.specs.Registers.{has_number}
use Rattle.mir_meaning.specs.Items.{silent_reads, silent_writes, rest_of, values, counted_writes, defined_undef}
use Rattle.mir_meaning.specs.Codes.{block_end, blocks_code, code_of, effect_item, ends_without_terminator, fallen_into, is_open, falls_through, first_number, item_of, target_of, way, ways_out}
use Rattle.mir_meaning.specs.Points.{has_no_phis, point_item, points_of}
use Rattle.mir_meaning.specs.Rules.{V1, V5, V7, V8, V9, block_numbers, branch_targets, lists_once, named_blocks, successors_of}
use Rattle.mir_meaning.proofs.Points.{points_are_code}
use Rattle.instr_effects.proofs.Members.{member-none, member-elim, in-either, left-in, right-in, flat-in, flat-of, filter-in, filter-of, map-in, map-of}
use Rattle.live_laws.proofs.Effects.Blocks.{block_code, items-past, numbers-apart, number-there, slice-member, member-slice}
use Rattle.live_laws.proofs.Effects.Lists.{all-of}
use Rattle.live_laws.proofs.Effects.Moved.{Apart}
use Rattle.live_laws.proofs.Effects.Moving.{some-same}
use Rattle.live_laws.proofs.Touch.Roles.{has_roles}
use Rattle.slot_laws.proofs.Merged.{way-bare, edge}
use Rattle.slot_laws.proofs.Ruled.{AllRules, InstrRules}
use Rattle.slot_laws.proofs.Shaped.{target-branches, target-named}

-- a list by what stands before one of it

pub at-length : {X : Type 0} (pre : List X) (x : X) (after : List X) → slice_get (pre ++ x ∷ after) (length pre) ≡ Some x
at-length [] x after = refl
at-length (y ∷ pre) x after = at-length pre x after

pub past-length : {X : Type 0} (pre : List X) (x : X) (after : List X) → drop (suc (length pre)) (pre ++ x ∷ after) ≡ after
past-length [] x after = refl
past-length (y ∷ pre) x after = past-length pre x after

-- a test that each passes

pub each : {X : Type 0} (p : X → Bool) (xs : List X) → ((x : X) → Member x xs → p x ≡ true) → list_all p xs ≡ true
each p [] g = refl
each p (x ∷ xs) g = λ k. g x first k && each p xs (λ y m. g y (later m)) k

pub none-of : {X : Type 0} (p : X → Bool) (xs : List X) → ((x : X) → Member x xs → p x ≡ false) → list_any p xs ≡ false
none-of p [] g = refl
none-of p (x ∷ xs) g = λ k. g x first k || none-of p xs (λ y m. g y (later m)) k

-- the effects of instructions that are lowered

pub counted-roles : (e : Effect) → is_silent e ≡ false → has_roles e ≡ true
counted-roles effects.Copy h = absurd (cc)
counted-roles effects.Phi h = absurd (cc)
counted-roles effects.ImplicitDef h = absurd (cc)
counted-roles effects.RegSequence h = absurd (cc)
counted-roles effects.InsertSubreg h = absurd (cc)
counted-roles e h = refl

branch-ends : (e : Effect) → is_branch e ≡ true → is_terminator e ≡ true
branch-ends effects.Jump h = refl
branch-ends effects.Jcc h = refl
branch-ends effects.Jnz h = refl
branch-ends (effects.Opaque kinds.Branch) h = refl
branch-ends e h = absurd (cc)

-- in an open block stands no terminator, since the last instruction is none
module _ (t : Target) where
  all-ends : (is : List Instr) → ((j : ℕ) (i : Instr) → slice_get is j ≡ Some i → does is_terminator t i ≡ true) → ends_without_terminator t is ≡ true → is ≡ []
  all-ends [] h e = refl
  all-ends (i ∷ []) h e = absurd (let k = h 0 i refl in let n : not true ≡ true = ap not (sym k) ∙ e in cc)
  all-ends (i ∷ k ∷ is) h e = absurd (let n = all-ends (k ∷ is) (λ j y g. h (suc j) y g) e in cc)

  shorter : (i : Instr) (is : List Instr) → ends_without_terminator t (i ∷ is) ≡ true → ends_without_terminator t is ≡ true
  shorter i [] e = refl
  shorter i (k ∷ is) e = e

  past-one : (b : Bool) → (b || not true) ≡ true → b ≡ true
  past-one true e = refl
  past-one false e = e

  pub no-terminators : (is : List Instr) → ((j : ℕ) (y : Instr) → slice_get is j ≡ Some y → (does is_terminator t y || not (list_any (does is_terminator t) (take j is))) ≡ true) → ends_without_terminator t is ≡ true → (i : Instr) → Member i is → does is_terminator t i ≡ false
  no-terminators [] h e i m = absurd (member-none i m)
  no-terminators (x ∷ is) h e i m = go (does is_terminator t x) refl (λ more k. no-terminators is more (shorter x is e) i k)
    where
      behind : does is_terminator t x ≡ true → (j : ℕ) (y : Instr) → slice_get (x ∷ is) j ≡ Some y → does is_terminator t y ≡ true
      behind g zero y q = ap (does is_terminator t) (sym (some-instr x y q)) ∙ g
        where
          some-instr : (a b : Instr) → Some a ≡ Some b → a ≡ b
          some-instr a b e = cc
      behind g (suc j) y q = past-one (does is_terminator t y) (subst (λ b. (does is_terminator t y || not (b || list_any (does is_terminator t) (take j is))) ≡ true) g (h (suc j) y q))

      go : (b : Bool) → does is_terminator t x ≡ b → (((j : ℕ) (y : Instr) → slice_get is j ≡ Some y → (does is_terminator t y || not (list_any (does is_terminator t) (take j is))) ≡ true) → Member i is → does is_terminator t i ≡ false) → does is_terminator t i ≡ false
      go true g rest = absurd (let n = all-ends (x ∷ is) (behind g) e in cc)
      go false g rest =
          member-elim i x is (λ q. ap (does is_terminator t) q ∙ g)
          (rest (λ j y q. subst (λ b. (does is_terminator t y || not (b || list_any (does is_terminator t) (take j is))) ≡ true) g (h (suc j) y q))) m

-- an item that names a way out alone
abbrev Listed : Item → Type 0
Listed (BlockStart n) = ⊥
Listed (BlockEnd falls exits) = ⊥
Listed (Silent reads ws) = Unit {0}
Listed (Counted r reads ws None exits) = Unit {0}
Listed (Counted r reads ws (Some e) exits) = Member e exits

laid-item : (code : Code) (i : Item) (p : Code) → Listed i → LaidOut code p → LaidOut code (i ∷ p)
laid-item code (BlockStart n) p h l = absurd h
laid-item code (BlockEnd falls exits) p h l = absurd h
laid-item code (Silent reads ws) p h l = l
laid-item code (Counted r reads ws None exits) p h l = l
laid-item code (Counted r reads ws (Some e) exits) p h l = (h, l)

-- an item whose ways have no phis
abbrev Bare : Item → Type 0
Bare (BlockStart n) = Unit {0}
Bare (BlockEnd falls exits) = NoPhisBelow falls × NoPhisAlong exits
Bare (Silent reads ws) = Unit {0}
Bare (Counted r reads ws target exits) = NoPhisInto target × NoPhisAlong exits

bare-item : (i : Item) (p : Code) → Bare i → NoPhis p → NoPhis (i ∷ p)
bare-item (BlockStart n) p h l = l
bare-item (BlockEnd falls exits) p h l = (h.0, h.1, l)
bare-item (Silent reads ws) p h l = l
bare-item (Counted r reads ws target exits) p h l = (h.0, h.1, l)

module _ (t : Target) (f : Function) (rules : (n : ℕ) (b : Block) → slice_get f.blocks n ≡ Some b → AllRules t f n b) where
  pub rules-at : (b : Block) (i : Instr) → Member b f.blocks → Member i b.instrs → (n : ℕ) × (j : ℕ) × InstrRules t f n b j i
  rules-at b i mb mi = let n = member-slice b f.blocks mb in let j = member-slice i b.instrs mi in (n.0, j.0, (rules n.0 b n.1).instrs j.0 i j.1)

  pub rule-one : (b : Block) (i : Instr) → Member b f.blocks → Member i b.instrs → V1 t f i ≡ true
  rule-one b i mb mi = (rules-at b i mb mi).2.one

  pub lowered : (b : Block) (i : Instr) → Member b f.blocks → Member i b.instrs → does is_lowered_away t i ≡ false
  unfolding V7
  lowered b i mb mi = not-true (does is_lowered_away t i) (rules-at b i mb mi).2.seven

  phi-gone : (q : Option Effect) → passes is_lowered_away q ≡ false → not (passes is_phi q) ≡ true
  phi-gone None e = refl
  phi-gone (Some effects.Phi) e = absurd (cc)
  phi-gone (Some x) e = refl

  pub no-phis : has_no_phis t f.blocks ≡ true
  no-phis = each (λ (b : Block). list_all (λ i. not (does is_phi t i)) b.instrs) f.blocks (λ b mb. each (λ i. not (does is_phi t i)) b.instrs (λ i mi. phi-gone (effect_of t i) (lowered b i mb mi)))

  -- no way into a block has phis

  bare-way : (n k : ℕ) → (way t f n k).phis ≡ []
  bare-way n k = ap (λ (e : Edge). e.phis) (way-bare t f no-phis n k)

  bare-ways : (n : ℕ) (es : List Successor) → NoPhisAlong (map (λ e. way t f n e.block) es)
  bare-ways n [] = tt
  bare-ways n (e ∷ es) = (bare-way n e.block, bare-ways n es)

  bare-target : (n : ℕ) (o : Option ℕ) → NoPhisInto (option_map (way t f n) o)
  bare-target n None = tt
  bare-target n (Some k) = bare-way n k

  bare-falls : (n : ℕ) (o : Option ℕ) → NoPhisBelow (option_map (λ k. (way t f n k).phis) o)
  bare-falls n None = tt
  bare-falls n (Some k) = bare-way n k

  bare-effect : (b : Block) (i : Instr) (e : Effect) → Bare (effect_item t f b i e)
  bare-effect b i e = go (is_silent e) (is_terminator e)
    where
      out : (d : Bool) → NoPhisAlong (cond d (ways_out t f b) [])
      out true = bare-ways b.number b.successors
      out false = tt

      go : (s d : Bool) → Bare (cond s (Silent (silent_reads t f e i.operands) (silent_writes t f e (is_early_clobber (roles_of t i)) i.operands)) (Counted (rest_of t f e i) (map (λ v. v.0) (values t f e i)) (counted_writes t f e i) (option_map (way t f b.number) (target_of i.operands)) (cond d (ways_out t f b) [])))
      go true d = tt
      go false d = (bare-target b.number (target_of i.operands), out d)

  bare-instr : (b : Block) (i : Instr) → Bare (item_of t f b i)
  unfolding item_of
  bare-instr b i = go (effect_of t i)
    where
      go : (q : Option Effect) → Bare (elim q as (λ o. Item) [ None ↦ Silent [] [] | Some e ↦ effect_item t f b i e ])
      go None = tt
      go (Some e) = bare-effect b i e

  bare-items : (b : Block) (is : List Instr) (p : Code) → NoPhis p → NoPhis (map (item_of t f b) is ++ p)
  bare-items b [] p h = h
  bare-items b (i ∷ is) p h = bare-item (item_of t f b i) (map (item_of t f b) is ++ p) (bare-instr b i) (bare-items b is p h)

  bare-blocks : (bs : List Block) → NoPhis (blocks_code (item_of t f) t f bs)
  bare-blocks [] = tt
  bare-blocks (b ∷ bs) = bare-items b b.instrs (block_end t f b bs ∷ blocks_code (item_of t f) t f bs) (bare-falls b.number (fallen_into t b bs), bare-ways b.number b.successors, bare-blocks bs)

  pub code-bare : NoPhis (code_of t f)
  unfolding code_of
  code-bare = bare-blocks f.blocks

  -- each block stands where it is found

  abbrev P : Code
  P = blocks_code (point_item t f) t f f.blocks

  fives : (k : ℕ) (b : Block) → slice_get f.blocks k ≡ Some b → V5 f k b ≡ true
  fives k b e = (rules k b e).block.five

  pub found-at : (pre : List Block) (b : Block) (after : List Block) → Apart (block_numbers (pre ++ b ∷ after)) → found b.number (blocks_code (point_item t f) t f (pre ++ b ∷ after)) ≡ block_code t f b after
  found-at [] b after a = ap (λ q. cond q (block_code t f b after) (found b.number (block_code t f b after))) (eq-eqb b.number b.number refl)
  found-at (c ∷ pre) b after a =
      ap (λ q. cond q (block_code t f c (pre ++ b ∷ after)) (found b.number (block_code t f c (pre ++ b ∷ after)))) (other (nat_eq c.number b.number) refl)
      ∙ items-past t f b.number c c.instrs (block_end t f c (pre ++ b ∷ after) ∷ blocks_code (point_item t f) t f (pre ++ b ∷ after))
      ∙ found-at pre b after a.1
    where
      there : Member b.number (block_numbers (pre ++ b ∷ after))
      there = map-in (λ (d : Block). d.number) b (pre ++ b ∷ after) (right-in b pre (b ∷ after) first)

      other : (q : Bool) → nat_eq c.number b.number ≡ q → nat_eq c.number b.number ≡ false
      other false g = g
      other true g = absurd (a.0 (subst (λ n. Member n (block_numbers (pre ++ b ∷ after))) (sym (eqb-true c.number b.number g)) there))

  -- what a block names and falls into is among its successors

  module _ (pre : List Block) (b : Block) (after : List Block) (whole : pre ++ b ∷ after ≡ f.blocks) where
    place : slice_get f.blocks (length pre) ≡ Some b
    place = ap (λ bs. slice_get bs (length pre)) (sym whole) ∙ at-length pre b after

    behind : drop (suc (length pre)) f.blocks ≡ after
    behind = ap (drop (suc (length pre))) (sym whole) ∙ past-length pre b after

    pub inside : Member b f.blocks
    inside = slice-member f.blocks (length pre) b place

    wrong : list_any (λ i. does is_branch t i && not (V1 t f i)) b.instrs ≡ false
    wrong = none-of (λ i. does is_branch t i && not (V1 t f i)) b.instrs (λ i m. and_right (does is_branch t i) (not (V1 t f i)) (ap not (rule-one b i inside m)))

    follow : (is_open t b || lists_once (successors_of b) (branch_targets t b.instrs ++ option_to_list (fallen_into t b after))) ≡ true
    unfolding V9
    follow =
        sym (λ k. wrong k || is_open t b || lists_once (successors_of b) (branch_targets t b.instrs ++ option_to_list (fallen_into t b (behind k))))
        ∙ (rules (length pre) b place).block.nine

    -- an open block names no block and falls into none

    open-ends : is_open t b ≡ true → (i : Instr) → Member i b.instrs → does is_terminator t i ≡ false
    unfolding V8
    open-ends e = no-terminators t b.instrs (λ j i g. ((rules (length pre) b place).instrs j i g).eight) (second_of_both _ _ e)

    open-targets : is_open t b ≡ true → (n : ℕ) → Member n (branch_targets t b.instrs) → ⊥
    open-targets e n m =
        let z = flat-of named_blocks n (filter (does is_branch t) b.instrs) m in
        let y = filter-of (does is_branch t) z.0 b.instrs z.1 in
        let k = open-ends e z.0 y.0 in
        let h = ends-too (effect_of t z.0) y.1 in
        cc
      where
        ends-too : (q : Option Effect) → passes is_branch q ≡ true → passes is_terminator q ≡ true
        ends-too None h = absurd (cc)
        ends-too (Some x) h = branch-ends x h

    open-falls : is_open t b ≡ true → fallen_into t b after ≡ None
    open-falls e = ap (λ c. cond (falls_through t b.instrs && not c) (first_number after) None) e ∙ out (falls_through t b.instrs)
      where
        out : (c : Bool) → cond (c && false) (first_number after) None ≡ None
        out true = refl
        out false = refl

    no-way : is_open t b ≡ true → (n : ℕ) → Member n (branch_targets t b.instrs ++ option_to_list (fallen_into t b after)) → ⊥
    no-way e n m = go (in-either n (branch_targets t b.instrs) (option_to_list (fallen_into t b after)) m)
      where
        go : Member n (branch_targets t b.instrs) ⊎ Member n (option_to_list (fallen_into t b after)) → ⊥
        go (inl k) = open-targets e n k
        go (inr k) = member-none n (subst (λ o. Member n (option_to_list o)) (open-falls e) k)

    followed : (n : ℕ) → Member n (branch_targets t b.instrs ++ option_to_list (fallen_into t b after)) → Member (way t f b.number n) (ways_out t f b)
    followed n m = go (is_open t b) refl follow
      where
        go : (c : Bool) → is_open t b ≡ c → (c || lists_once (successors_of b) (branch_targets t b.instrs ++ option_to_list (fallen_into t b after))) ≡ true → Member (way t f b.number n) (ways_out t f b)
        go true e h = absurd (no-way e n m)
        go false e h =
            let s = number-there n (successors_of b) (all-of (has_number (successors_of b)) n _ m (second_of_both _ _ h)) in
            let z = map-of (λ (e : Successor). e.block) n b.successors s in
            subst (λ k. Member (way t f b.number k) (ways_out t f b)) (sym z.2) (map-in (λ (e : Successor). way t f b.number e.block) z.0 b.successors z.1)

    falls-to : (n : ℕ) → fallen_into t b after ≡ Some n → FallsTo (way t f b.number n).phis (ways_out t f b) (blocks_code (point_item t f) t f after)
    falls-to n e = go (falls_through t b.instrs && not (is_open t b)) after e (followed n (right-in n (branch_targets t b.instrs) (option_to_list (fallen_into t b after)) (subst (λ o. Member n (option_to_list o)) (sym e) first)))
      where
        go : (c : Bool) (bs : List Block) → cond c (first_number bs) None ≡ Some n → Member (way t f b.number n) (ways_out t f b) → FallsTo (way t f b.number n).phis (ways_out t f b) (blocks_code (point_item t f) t f bs)
        go false bs g m = absurd (cc)
        go true [] g m = absurd (cc)
        go true (d ∷ bs) g m = subst (λ k. Member (edge k (way t f b.number n).phis) (ways_out t f b)) (sym (some-same d.number n g)) m

    listed-target : (i : Instr) (e : Effect) → effect_of t i ≡ Some e → Member i b.instrs → is_silent e ≡ false → (n : ℕ) → target_of i.operands ≡ Some n → Member (way t f b.number n) (cond (is_terminator e) (ways_out t f b) [])
    listed-target i e known m s n g =
        let branch = target-branches t f i e known (rule-one b i inside m) n (counted-roles e s) g in
        let does-branch : does is_branch t i ≡ true = ap (passes is_branch) known ∙ branch in
        let named = flat-in named_blocks n i (filter (does is_branch t) b.instrs) (filter-in (does is_branch t) i b.instrs m does-branch) (target-named n i g) in
        subst (λ c. Member (way t f b.number n) (cond c (ways_out t f b) [])) (sym (branch-ends e branch)) (followed n (left-in n (branch_targets t b.instrs) (option_to_list (fallen_into t b after)) named))

    listed-effect : (i : Instr) (e : Effect) → effect_of t i ≡ Some e → Member i b.instrs → Listed (effect_item t f b i e)
    listed-effect i e known m = go (is_silent e) refl (target_of i.operands) refl
      where
        go : (s : Bool) → is_silent e ≡ s → (o : Option ℕ) → target_of i.operands ≡ o → Listed (cond s (Silent (silent_reads t f e i.operands) (silent_writes t f e (is_early_clobber (roles_of t i)) i.operands)) (Counted (rest_of t f e i) (map (λ v. v.0) (values t f e i)) (counted_writes t f e i) (option_map (way t f b.number) o) (cond (is_terminator e) (ways_out t f b) [])))
        go true h o g = tt
        go false h None g = tt
        go false h (Some n) g = listed-target i e known m h n g

    listed-instr : (i : Instr) → Member i b.instrs → Listed (point_item t f b i)
    unfolding point_item item_of
    listed-instr i m = phi (does is_phi t i) (effect_of t i) refl
      where
        phi : (c : Bool) (q : Option Effect) → effect_of t i ≡ q → Listed (cond c (Silent [] (defined_undef t f i.operands)) (elim q as (λ o. Item) [ None ↦ Silent [] [] | Some e ↦ effect_item t f b i e ]))
        phi true q g = tt
        phi false None g = tt
        phi false (Some e) g = listed-effect i e g m

    laid-items : (is : List Instr) → ((i : Instr) → Member i is → Member i b.instrs) → (p : Code) → LaidOut P p → LaidOut P (map (point_item t f b) is ++ p)
    laid-items [] g p h = h
    laid-items (i ∷ is) g p h = laid-item P (point_item t f b i) (map (point_item t f b) is ++ p) (listed-instr i (g i first)) (laid-items is (λ j k. g j (later k)) p h)

    laid-end : LaidOut P (blocks_code (point_item t f) t f after) → LaidOut P (block_end t f b after ∷ blocks_code (point_item t f) t f after)
    laid-end h = go (fallen_into t b after) refl
      where
        go : (o : Option ℕ) → fallen_into t b after ≡ o → LaidOut P (BlockEnd (option_map (λ n. (way t f b.number n).phis) o) (ways_out t f b) ∷ blocks_code (point_item t f) t f after)
        go None e = h
        go (Some n) e = (falls-to n e, h)

    laid-block : LaidOut P (blocks_code (point_item t f) t f after) → LaidOut P (blocks_code (point_item t f) t f (b ∷ after))
    laid-block h = (
      ap (λ bs. found b.number (blocks_code (point_item t f) t f bs)) (sym whole) ∙ found-at pre b after (subst (λ bs. Apart (block_numbers bs)) (sym whole) (numbers-apart f fives)),
      laid-items b.instrs (λ i k. k) (block_end t f b after ∷ blocks_code (point_item t f) t f after) (laid-end h),
    )

  laid-blocks : (pre bs : List Block) → pre ++ bs ≡ f.blocks → LaidOut P (blocks_code (point_item t f) t f bs)
  laid-blocks pre [] e = tt
  laid-blocks pre (b ∷ bs) e = laid-block pre b bs e (laid-blocks (pre ++ b ∷ []) bs (append_assoc pre (b ∷ []) bs ∙ e))

  points-laid : LaidOut (points_of t f) (points_of t f)
  unfolding points_of
  points-laid = laid-blocks [] f.blocks refl

  pub code-laid : LaidOut (code_of t f) (code_of t f)
  code-laid = subst (λ c. LaidOut c c) (points_are_code t f no-phis) points-laid
