-- Blocks without the copies that become identities end as they did, and name the blocks that they named.
use Rattle.std.proofs.Common.{◌≡◌, not, ◌||◌, ◌&&◌, ◌++◌, ◌∙◌, ℕ, zero, suc, Bool, true, false, cond, List, [], ◌∷◌, Option, Some, None, map, filter, flat_map, length, take, drop, refl, sym, ap, subst}
use Rattle.std.specs.Prelude.{nat_eq, option_to_list, slice_get}
use Rattle.std.specs.List.{list_all, list_any}
use Rattle.target_base.specs.declared.types.Effect.{Effect}
use Rattle.target_base.specs.declared.types.Effect.TheVariants as effects
use Rattle.target_base.specs.declared.types.Target.{Target}
use Rattle.target_base.specs.Rules.{is_copy}
use Rattle.meaning.specs.Live.{Among as Member, here as first, there as later}
use Rattle.mir_func.specs.declared.func.RegOp.{RegOp}
use Rattle.mir_func.specs.declared.func.Operand.{Operand}
use Rattle.mir_func.specs.declared.func.Operand.TheVariants as operands
use Rattle.mir_func.specs.declared.func.Instr.{Instr}
use Rattle.mir_func.specs.declared.func.Block.{Block}
use Rattle.mir_func.specs.Value.{Function}
use Rattle.mir_func.specs.Binding.{does, effect_of, ends_control, is_branch, is_conditional, is_terminator, passes}
use Rattle.mir_meaning.specs.Codes.{ends_without_terminator, fallen_into, falls_through, first_number, is_open}
use Rattle.mir_meaning.specs.Registers.{has_number}
use Rattle.mir_meaning.specs.Renaming.{renamed_operand}
use Rattle.mir_meaning.specs.Rules.{V1, V5, V8, V9, block_numbers, block_of, branch_targets, lists_once, named_blocks, successors_of}
use Rattle.live_laws.proofs.Effects.Blocks.{slice-member}
use Rattle.live_laws.proofs.Effects.Lists.{all-of}
use Rattle.live_edits.specs.declared.fold.Join.{Join}
use Rattle.live_edits.specs.Folded.{becomes_identity, folded, folded_block, image, joined_instr, joined_operand, two_sides, unites}
use Rattle.join_laws.proofs.Asked.{copy-is}

-- a copy that becomes an identity
pub record IsGone (t : Target) (f : Function) (j : Join) (i : Instr) : Type 0 where
  pub d : RegOp
  pub s : RegOp
  pub copies : effect_of t i ≡ Some effects.Copy
  pub operands : i.operands ≡ operands.Reg d ∷ operands.Reg s ∷ []
  pub unites : unites t f (image t j) (Some (d, s)) ≡ true

pub gone-is : (t : Target) (f : Function) (j : Join) (i : Instr) → becomes_identity t f j i ≡ true → IsGone t f j i
gone-is t f j i e = go (does is_copy t i) refl e
  where
    two : effect_of t i ≡ Some effects.Copy → (os : List Operand) → i.operands ≡ os → unites t f (image t j) (two_sides os) ≡ true → IsGone t f j i
    two c (operands.Reg d ∷ operands.Reg s ∷ []) are h = record { d = d; s = s; copies = c; operands = are; unites = h }
    two c os are h = absurd (cc)

    go : (u : Bool) → does is_copy t i ≡ u → unites t f (image t j) (cond u (two_sides i.operands) None) ≡ true → IsGone t f j i
    go true c h = two (copy-is (effect_of t i) c) i.operands refl h
    go false c h = absurd (cc)

-- lists of instructions without some

module _ (t : Target) where
  abbrev pub ends : Instr → Bool
  ends i = does is_terminator t i

  -- behind a terminator stand terminators only
  abbrev pub ordered : List Instr → Bool
  ordered [] = true
  ordered (i ∷ is) = cond (ends i) (list_all ends is) (ordered is)

  abbrev rule : List Instr → ℕ → Instr → Bool
  rule is j i = ends i || not (list_any ends (take j is))

  or-true : (b : Bool) → (b || true) ≡ true
  or-true true = refl
  or-true false = refl

  all-by : (is : List Instr) → ((j : ℕ) (i : Instr) → slice_get is j ≡ Some i → ends i ≡ true) → list_all ends is ≡ true
  all-by [] h = refl
  all-by (x ∷ is) h = λ k. h 0 x refl k && all-by is (λ j i e. h (suc j) i e) k

  past-one : (a : Bool) → (a || not true) ≡ true → a ≡ true
  past-one true e = refl
  past-one false e = absurd (cc)

  pub ordered-by : (is : List Instr) → ((j : ℕ) (i : Instr) → slice_get is j ≡ Some i → rule is j i ≡ true) → ordered is ≡ true
  ordered-by [] h = refl
  ordered-by (x ∷ is) h = go (ends x) refl (ordered-by is)
    where
      go : (b : Bool) → ends x ≡ b → (((j : ℕ) (i : Instr) → slice_get is j ≡ Some i → rule is j i ≡ true) → ordered is ≡ true) → cond b (list_all ends is) (ordered is) ≡ true
      go true e ih = all-by is (λ j i q. past-one (ends i) (subst (λ b. (ends i || not (b || list_any ends (take j is))) ≡ true) e (h (suc j) i q)))
      go false e ih = ih (λ j i q. subst (λ b. (ends i || not (b || list_any ends (take j is))) ≡ true) e (h (suc j) i q))

  pub rule-by : (is : List Instr) → ordered is ≡ true → (j : ℕ) (i : Instr) → slice_get is j ≡ Some i → rule is j i ≡ true
  rule-by [] h j i e = absurd (cc)
  rule-by (x ∷ is) h zero i e = or-true (ends i)
  rule-by (x ∷ is) h (suc j) i e = go (ends x) h (rule-by is)
    where
      go : (b : Bool) → cond b (list_all ends is) (ordered is) ≡ true → (ordered is ≡ true → (j : ℕ) (i : Instr) → slice_get is j ≡ Some i → rule is j i ≡ true) → (ends i || not (b || list_any ends (take j is))) ≡ true
      go true q ih = ap (λ c. c || not true) (all-of ends i is (slice-member is j i e) q)
      go false q ih = ih q j i e

  -- there is no instruction, or the last one doesn't pass the test
  abbrev lacks : (Instr → Bool) → List Instr → Bool
  lacks p [] = true
  lacks p (i ∷ []) = not (p i)
  lacks p (i ∷ j ∷ is) = lacks p (j ∷ is)

  falls-lacks : (is : List Instr) → falls_through t is ≡ lacks (does ends_control t) is
  falls-lacks [] = refl
  falls-lacks (i ∷ []) = refl
  falls-lacks (i ∷ j ∷ is) = falls-lacks (j ∷ is)

  open-lacks : (is : List Instr) → ends_without_terminator t is ≡ lacks ends is
  open-lacks [] = refl
  open-lacks (i ∷ []) = refl
  open-lacks (i ∷ j ∷ is) = open-lacks (j ∷ is)

  head-lacks : (p : Instr → Bool) (i : Instr) (is : List Instr) → p i ≡ false → lacks p (i ∷ is) ≡ lacks p is
  head-lacks p i [] e = ap not e
  head-lacks p i (x ∷ is) e = refl

  map-lacks : (p : Instr → Bool) (h : Instr → Instr) (is : List Instr) → ((i : Instr) → p (h i) ≡ p i) → lacks p (map h is) ≡ lacks p is
  map-lacks p h [] e = refl
  map-lacks p h (i ∷ []) e = ap not (e i)
  map-lacks p h (i ∷ x ∷ is) e = map-lacks p h (x ∷ is) e

  filter-all : (keep : Instr → Bool) (is : List Instr) → ((i : Instr) → Member i is → keep i ≡ true) → filter keep is ≡ is
  filter-all keep [] h = refl
  filter-all keep (x ∷ is) h = λ k. cond (h x first k) (x ∷ filter-all keep is (λ i m. h i (later m)) k) (filter keep is)

  -- no terminator is left out
  abbrev KeepsEnds : (Instr → Bool) → Type 0
  KeepsEnds keep = (i : Instr) → keep i ≡ false → ends i ≡ false

  kept-end : (keep : Instr → Bool) → KeepsEnds keep → (i : Instr) → ends i ≡ true → keep i ≡ true
  kept-end keep h i e = go (keep i) refl
    where
      go : (u : Bool) → keep i ≡ u → u ≡ true
      go true d = refl
      go false d = absurd (let z : true ≡ false = sym e ∙ h i d in cc)

  all-kept : (keep : Instr → Bool) → KeepsEnds keep → (is : List Instr) → list_all ends is ≡ true → filter keep is ≡ is
  all-kept keep h is e = filter-all keep is (λ i m. kept-end keep h i (all-of ends i is m e))

  filter-lacks : (p keep : Instr → Bool) → ((i : Instr) → ends i ≡ false → p i ≡ false) → KeepsEnds keep → (is : List Instr) → ordered is ≡ true → lacks p (filter keep is) ≡ lacks p is
  filter-lacks p keep plain h [] o = refl
  filter-lacks p keep plain h (x ∷ is) o = go (ends x) refl o (filter-lacks p keep plain h is)
    where
      by : p x ≡ false → (v : Bool) → lacks p (filter keep is) ≡ lacks p is → lacks p (cond v (x ∷ filter keep is) (filter keep is)) ≡ lacks p (x ∷ is)
      by e true rest = head-lacks p x (filter keep is) e ∙ (rest ∙ sym (head-lacks p x is e))
      by e false rest = rest ∙ sym (head-lacks p x is e)

      go : (u : Bool) → ends x ≡ u → cond u (list_all ends is) (ordered is) ≡ true → (ordered is ≡ true → lacks p (filter keep is) ≡ lacks p is) → lacks p (filter keep (x ∷ is)) ≡ lacks p (x ∷ is)
      go true e q rest = ap (lacks p) (λ k. cond (kept-end keep h x e k) (x ∷ all-kept keep h is q k) (filter keep is))
      go false e q rest = by (plain x e) (keep x) (rest q)

  pub filter-ordered : (keep : Instr → Bool) → KeepsEnds keep → (is : List Instr) → ordered is ≡ true → ordered (filter keep is) ≡ true
  filter-ordered keep h [] o = refl
  filter-ordered keep h (x ∷ is) o = go (ends x) refl o (filter-ordered keep h is)
    where
      by : ends x ≡ false → (v : Bool) → ordered (filter keep is) ≡ true → ordered (cond v (x ∷ filter keep is) (filter keep is)) ≡ true
      by e true rest = ap (λ u. cond u (list_all ends (filter keep is)) (ordered (filter keep is))) e ∙ rest
      by e false rest = rest

      go : (u : Bool) → ends x ≡ u → cond u (list_all ends is) (ordered is) ≡ true → (ordered is ≡ true → ordered (filter keep is) ≡ true) → ordered (filter keep (x ∷ is)) ≡ true
      go true e q rest = ap ordered (λ k. cond (kept-end keep h x e k) (x ∷ all-kept keep h is q k) (filter keep is)) ∙ (ap (λ u. cond u (list_all ends is) (ordered is)) e ∙ q)
      go false e q rest = by e (keep x) (rest q)

  all-map : (p : Instr → Bool) (h : Instr → Instr) (is : List Instr) → ((i : Instr) → p (h i) ≡ p i) → list_all p (map h is) ≡ list_all p is
  all-map p h [] e = refl
  all-map p h (x ∷ is) e = λ k. e x k && all-map p h is e k

  pub map-ordered : (h : Instr → Instr) (is : List Instr) → ((i : Instr) → ends (h i) ≡ ends i) → ordered (map h is) ≡ ordered is
  map-ordered h [] e = refl
  map-ordered h (x ∷ is) e = λ k. cond (e x k) (all-map ends h is e k) (map-ordered h is e k)

  -- an instruction that ends control is a terminator
  goes-on : (i : Instr) → ends i ≡ false → does ends_control t i ≡ false
  goes-on i e = go (effect_of t i) e
    where
      by : (a b : Bool) → (a || b) ≡ false → a ≡ false
      by true b h = absurd (cc)
      by false b h = refl

      go : (q : Option Effect) → passes is_terminator q ≡ false → passes ends_control q ≡ false
      go None h = refl
      go (Some x) h = by (ends_control x) (is_conditional x) h

-- blocks that an instruction names stay

block-same : (r : RegOp → RegOp) (o : Operand) → block_of (renamed_operand r o) ≡ block_of o
block-same r (operands.Reg o) = refl
block-same r o = refl

names-same : (r : RegOp → RegOp) (os : List Operand) → flat_map block_of (map (renamed_operand r) os) ≡ flat_map block_of os
names-same r [] = refl
names-same r (o ∷ os) = λ k. block-same r o k ++ names-same r os k

module _ (t : Target) (f : Function) (j : Join) where
  abbrev pub keep : Instr → Bool
  keep i = not (becomes_identity t f j i)

  abbrev h : Instr → Instr
  h = joined_instr t j

  abbrev left : List Instr → List Instr
  left is = map h (filter keep is)

  gone-by : (i : Instr) → keep i ≡ false → becomes_identity t f j i ≡ true
  gone-by i e = go (becomes_identity t f j i) e
    where
      go : (u : Bool) → not u ≡ false → u ≡ true
      go true e = refl
      go false e = absurd (cc)

  keeps-ends : (i : Instr) → keep i ≡ false → ends t i ≡ false
  keeps-ends i e = ap (passes is_terminator) (gone-is t f j i (gone-by i e)).copies

  module _ (b : Block) (rule-eight : (j : ℕ) (i : Instr) → slice_get b.instrs j ≡ Some i → V8 t b j i ≡ true) where
    in-order : ordered t b.instrs ≡ true
    unfolding V8
    in-order = ordered-by t b.instrs rule-eight

    pub falls-stay : falls_through t (folded_block t f j b).instrs ≡ falls_through t b.instrs
    falls-stay =
        falls-lacks t (left b.instrs)
        ∙ (map-lacks t (does ends_control t) h (filter keep b.instrs) (λ i. refl)
        ∙ (filter-lacks t (does ends_control t) keep (goes-on t) keeps-ends b.instrs in-order ∙ sym (falls-lacks t b.instrs)))

    open-stays : ends_without_terminator t (folded_block t f j b).instrs ≡ ends_without_terminator t b.instrs
    open-stays =
        open-lacks t (left b.instrs)
        ∙ (map-lacks t (ends t) h (filter keep b.instrs) (λ i. refl)
        ∙ (filter-lacks t (ends t) keep (λ i e. e) keeps-ends b.instrs in-order ∙ sym (open-lacks t b.instrs)))

    pub open-same : is_open t (folded_block t f j b) ≡ is_open t b
    open-same = ap (λ c. t.options.open_blocks && nat_eq (length b.successors) 0 && c) open-stays

    pub fallen-same : (bs cs : List Block) → first_number cs ≡ first_number bs → fallen_into t (folded_block t f j b) cs ≡ fallen_into t b bs
    fallen-same bs cs e = λ k. cond (falls-stay k && not (open-same k)) (e k) None

    pub eight : (k : ℕ) (i : Instr) → slice_get (folded_block t f j b).instrs k ≡ Some i → V8 t (folded_block t f j b) k i ≡ true
    unfolding V8
    eight k i e = rule-by t (left b.instrs) (map-ordered t h (filter keep b.instrs) (λ i. refl) ∙ filter-ordered t keep keeps-ends b.instrs in-order) k i e

    targets-same : (is : List Instr) → branch_targets t (left is) ≡ branch_targets t is
    targets-same [] = refl
    targets-same (x ∷ is) = go (becomes_identity t f j x) refl (targets-same is)
      where
        branch : (c : Bool) → branch_targets t (left is) ≡ branch_targets t is
            → flat_map named_blocks (cond c (h x ∷ filter (does is_branch t) (left is)) (filter (does is_branch t) (left is))) ≡ flat_map named_blocks (cond c (x ∷ filter (does is_branch t) is) (filter (does is_branch t) is))
        branch true rest = λ k. names-same (joined_operand t j) x.operands k ++ rest k
        branch false rest = rest

        go : (u : Bool) → becomes_identity t f j x ≡ u → branch_targets t (left is) ≡ branch_targets t is → branch_targets t (map h (cond (not u) (x ∷ filter keep is) (filter keep is))) ≡ branch_targets t (x ∷ is)
        go true e rest = rest ∙ sym (ap (λ c. flat_map named_blocks (cond (passes is_branch c) (x ∷ filter (does is_branch t) is) (filter (does is_branch t) is))) (gone-is t f j x e).copies)
        go false e rest = branch (does is_branch t x) rest

    pub nine : (g : Function) (k : ℕ) → first_number (drop (suc k) g.blocks) ≡ first_number (drop (suc k) f.blocks)
        → list_any (λ i. does is_branch t i && not (V1 t g i)) (folded_block t f j b).instrs ≡ false → list_any (λ i. does is_branch t i && not (V1 t f i)) b.instrs ≡ false
        → V9 t g k (folded_block t f j b) ≡ V9 t f k b
    unfolding V9
    nine g k e right right' =
        λ i. (right ∙ sym right') i
        || open-same i
        || lists_once (successors_of b) (targets-same b.instrs i ++ option_to_list (fallen-same (drop (suc k) f.blocks) (drop (suc k) g.blocks) e i))

  names-all : (is : List Instr) → flat_map named_blocks (left is) ≡ flat_map named_blocks is
  names-all [] = refl
  names-all (x ∷ is) = go (becomes_identity t f j x) refl (names-all is)
    where
      go : (u : Bool) → becomes_identity t f j x ≡ u → flat_map named_blocks (left is) ≡ flat_map named_blocks is → flat_map named_blocks (map h (cond (not u) (x ∷ filter keep is) (filter keep is))) ≡ named_blocks x ++ flat_map named_blocks is
      go true e rest = rest ∙ sym (ap (λ os. flat_map block_of os ++ flat_map named_blocks is) (gone-is t f j x e).operands)
      go false e rest = λ k. names-same (joined_operand t j) x.operands k ++ rest k

  pub numbers-same : (bs : List Block) → block_numbers (map (folded_block t f j) bs) ≡ block_numbers bs
  numbers-same [] = refl
  numbers-same (b ∷ bs) = ap (λ ns. b.number ∷ ns) (numbers-same bs)

  pub first-numbers : (k : ℕ) (bs : List Block) → block_numbers (take k (map (folded_block t f j) bs)) ≡ block_numbers (take k bs)
  first-numbers zero bs = refl
  first-numbers (suc k) [] = refl
  first-numbers (suc k) (b ∷ bs) = ap (λ ns. b.number ∷ ns) (first-numbers k bs)

  pub first-same : (bs : List Block) → first_number (map (folded_block t f j) bs) ≡ first_number bs
  first-same [] = refl
  first-same (b ∷ bs) = refl

  drop-none : {X : Type 0} (xs : List X) → drop 0 xs ≡ xs
  drop-none [] = refl
  drop-none (x ∷ xs) = refl

  pub first-behind : (k : ℕ) (bs : List Block) → first_number (drop k (map (folded_block t f j) bs)) ≡ first_number (drop k bs)
  first-behind zero bs = ap first_number (drop-none (map (folded_block t f j) bs)) ∙ (first-same bs ∙ sym (ap first_number (drop-none bs)))
  first-behind (suc k) [] = refl
  first-behind (suc k) (b ∷ bs) = first-behind k bs

  pub five : (b : Block) (k : ℕ) → V5 (folded t j f) k (folded_block t f j b) ≡ V5 f k b
  unfolding V5
  five b k =
      λ i. not (has_number (first-numbers k f.blocks i) b.number)
      && list_all (has_number (numbers-same f.blocks i)) (successors_of b ++ names-all b.instrs i)
