-- Blocks whose instructions were changed keep the rules on blocks, where they branch and end as they did and name no other block.
use Rattle.std.proofs.Common.{◌≡◌, not, ◌||◌, ◌&&◌, ◌++◌, ◌∙◌, ℕ, zero, suc, Bool, true, false, cond, List, [], ◌∷◌, Some, None, drop, take, flat_map, length, map, refl, sym, ap, subst}
use Rattle.std.specs.Prelude.{nat_eq, option_to_list, slice_get}
use Rattle.std.specs.List.{list_all, list_any}
use Rattle.std.proofs.lemmas.Bool.{and_right}
use Rattle.target_base.specs.declared.types.Target.{Target}
use Rattle.target_base.proofs.Tests.{first_of_both, second_of_both}
use Rattle.meaning.specs.Live.{Among, here, there}
use Rattle.mir_func.specs.declared.func.Edge.{Edge}
use Rattle.mir_func.specs.declared.func.Instr.{Instr}
use Rattle.mir_func.specs.declared.func.Block.{Block}
use Rattle.mir_func.specs.Value.{Function}
use Rattle.mir_func.specs.Binding.{does, is_branch, is_terminator}
use Rattle.mir_meaning.specs.Codes.{ends_without_terminator, fallen_into, falls_through, first_number, is_open}
use Rattle.mir_meaning.specs.Registers.{has_number}
use Rattle.mir_meaning.specs.Rules.{V1, V5, V8, V9, block_numbers, branch_targets, lists_once, named_blocks, successors_of}
use Rattle.instr_effects.proofs.Members.{either-elim, left-in, member-elim, member-none, right-in}
use Rattle.live_laws.proofs.Effects.Blocks.{slice-member}
use Rattle.live_laws.proofs.Effects.Lists.{all-of}
use Rattle.live_laws.proofs.Effects.Moving.{some-same}
use Rattle.lowering_laws.specs.Blocks.{KeepsBlockRules}
use Rattle.lowering_laws.proofs.Formed.{all-by, none-by}

or-true : (b : Bool) → (b || true) ≡ true
or-true true = refl
or-true false = refl

abbrev map-edges : List Edge → List ℕ
map-edges es = map (λ e. e.block) es

module _ (t : Target) where
  abbrev pub ends : Instr → Bool
  ends i = does is_terminator t i

  -- behind a terminator stand terminators only
  abbrev pub ordered : List Instr → Bool
  ordered [] = true
  ordered (i ∷ is) = cond (ends i) (list_all ends is) (ordered is)

  abbrev rule : List Instr → ℕ → Instr → Bool
  rule is j i = ends i || not (list_any ends (take j is))

  all-places : (is : List Instr) → ((j : ℕ) (i : Instr) → slice_get is j ≡ Some i → ends i ≡ true) → list_all ends is ≡ true
  all-places [] h = refl
  all-places (x ∷ is) h = λ k. h 0 x refl k && all-places is (λ j i e. h (suc j) i e) k

  past-one : (a : Bool) → (a || not true) ≡ true → a ≡ true
  past-one true e = refl
  past-one false e = absurd (cc)

  ordered-by : (is : List Instr) → ((j : ℕ) (i : Instr) → slice_get is j ≡ Some i → rule is j i ≡ true) → ordered is ≡ true
  ordered-by [] h = refl
  ordered-by (x ∷ is) h = go (ends x) refl (ordered-by is)
    where
      go : (b : Bool) → ends x ≡ b → (((j : ℕ) (i : Instr) → slice_get is j ≡ Some i → rule is j i ≡ true) → ordered is ≡ true) → cond b (list_all ends is) (ordered is) ≡ true
      go true e ih = all-places is (λ j i q. past-one (ends i) (subst (λ b. (ends i || not (b || list_any ends (take j is))) ≡ true) e (h (suc j) i q)))
      go false e ih = ih (λ j i q. subst (λ b. (ends i || not (b || list_any ends (take j is))) ≡ true) e (h (suc j) i q))

  rule-by : (is : List Instr) → ordered is ≡ true → (j : ℕ) (i : Instr) → slice_get is j ≡ Some i → rule is j i ≡ true
  rule-by [] h j i e = absurd (cc)
  rule-by (x ∷ is) h zero i e = or-true (ends i)
  rule-by (x ∷ is) h (suc j) i e = go (ends x) h (rule-by is)
    where
      go : (b : Bool) → cond b (list_all ends is) (ordered is) ≡ true → (ordered is ≡ true → (j : ℕ) (i : Instr) → slice_get is j ≡ Some i → rule is j i ≡ true) → (ends i || not (b || list_any ends (take j is))) ≡ true
      go true q ih = ap (λ c. c || not true) (all-of ends i is (slice-member is j i e) q)
      go false q ih = ih q j i e

  -- what becomes of instructions names blocks that they name, branches and ends as they do
  pub record Carries (is js : List Instr) : Type 0 where
    pub names : (n : ℕ) → Among n (flat_map named_blocks js) → Among n (flat_map named_blocks is)
    pub targets : branch_targets t js ≡ branch_targets t is
    pub falls : falls_through t js ≡ falls_through t is
    pub opens : ends_without_terminator t js ≡ ends_without_terminator t is
    pub order : ordered is ≡ true → ordered js ≡ true

  pub record Becomes (b c : Block) : Type 0 where
    pub number : c.number ≡ b.number
    pub successors : c.successors ≡ b.successors
    pub instrs : Carries b.instrs c.instrs

  abbrev pub AllBecome : List Block → List Block → Type 0
  AllBecome [] [] = Unit {0}
  AllBecome [] (c ∷ cs) = ⊥
  AllBecome (b ∷ bs) [] = ⊥
  AllBecome (b ∷ bs) (c ∷ cs) = Becomes b c × AllBecome bs cs

  numbers-same : (bs cs : List Block) → AllBecome bs cs → block_numbers cs ≡ block_numbers bs
  numbers-same [] [] a = refl
  numbers-same [] (c ∷ cs) a = absurd a
  numbers-same (b ∷ bs) [] a = absurd a
  numbers-same (b ∷ bs) (c ∷ cs) a = λ k. a.0.number k ∷ numbers-same bs cs a.1 k

  first-numbers : (k : ℕ) (bs cs : List Block) → AllBecome bs cs → block_numbers (take k cs) ≡ block_numbers (take k bs)
  first-numbers zero bs cs a = refl
  first-numbers (suc k) [] [] a = refl
  first-numbers (suc k) [] (c ∷ cs) a = absurd a
  first-numbers (suc k) (b ∷ bs) [] a = absurd a
  first-numbers (suc k) (b ∷ bs) (c ∷ cs) a = λ j. a.0.number j ∷ first-numbers k bs cs a.1 j

  first-same : (bs cs : List Block) → AllBecome bs cs → first_number cs ≡ first_number bs
  first-same [] [] a = refl
  first-same [] (c ∷ cs) a = absurd a
  first-same (b ∷ bs) [] a = absurd a
  first-same (b ∷ bs) (c ∷ cs) a = ap Some a.0.number

  record Stood (bs cs : List Block) (k : ℕ) (c : Block) : Type 0 where
    pub block : Block
    pub there : slice_get bs k ≡ Some block
    pub becomes : Becomes block c
    pub behind : first_number (drop (suc k) cs) ≡ first_number (drop (suc k) bs)

  stood : (k : ℕ) (c : Block) (bs cs : List Block) → AllBecome bs cs → slice_get cs k ≡ Some c → Stood bs cs k c
  stood k c [] [] a e = absurd (cc)
  stood k c [] (d ∷ cs) a e = absurd a
  stood k c (b ∷ bs) [] a e = absurd a
  stood zero c (b ∷ bs) (d ∷ cs) a e = record { block = b; there = refl; becomes = subst (Becomes b) (some-same d c e) a.0; behind = first-same bs cs a.1 }
  stood (suc k) c (b ∷ bs) (d ∷ cs) a e = let z = stood k c bs cs a.1 e in record { block = z.block; there = z.there; becomes = z.becomes; behind = z.behind }

  among-stood : (c : Block) (bs cs : List Block) → AllBecome bs cs → Among c cs → (b : Block) × Among b bs × Becomes b c
  among-stood c [] [] a m = absurd (member-none c m)
  among-stood c [] (d ∷ cs) a m = absurd a
  among-stood c (b ∷ bs) [] a m = absurd a
  among-stood c (b ∷ bs) (d ∷ cs) a m = member-elim c d cs (λ e. (b, here, subst (Becomes b) (sym e) a.0)) (λ k. let z = among-stood c bs cs a.1 k in (z.0, there z.1, z.2)) m

  module _ (f g : Function) (all : AllBecome f.blocks g.blocks) (rules : KeepsBlockRules t f) (ones : (b : Block) (i : Instr) → Among b f.blocks → Among i b.instrs → V1 t f i ≡ true) where
    five : (k : ℕ) (c : Block) → slice_get g.blocks k ≡ Some c → V5 g k c ≡ true
    unfolding V5
    five k c e =
        let z = stood k c f.blocks g.blocks all e in
        let old = rules.five k z.block z.there in
        let numbers = block_numbers f.blocks in
        let named = second_of_both (not (has_number (block_numbers (take k f.blocks)) z.block.number)) (list_all (has_number numbers) (successors_of z.block ++ flat_map named_blocks z.block.instrs)) old in
        (λ j. not (has_number (first-numbers k f.blocks g.blocks all j) (z.becomes.number j)) && list_all (has_number (numbers-same f.blocks g.blocks all j)) (map-edges (z.becomes.successors j) ++ flat_map named_blocks c.instrs))
        ∙ (λ j. first_of_both (not (has_number (block_numbers (take k f.blocks)) z.block.number)) (list_all (has_number numbers) (successors_of z.block ++ flat_map named_blocks z.block.instrs)) old j
        && all-by (has_number numbers) (successors_of z.block ++ flat_map named_blocks c.instrs) (λ n m. all-of (has_number numbers) n (successors_of z.block ++ flat_map named_blocks z.block.instrs) (either-elim n (successors_of z.block) (flat_map named_blocks c.instrs) (λ q. left-in n (successors_of z.block) (flat_map named_blocks z.block.instrs) q) (λ q. right-in n (successors_of z.block) (flat_map named_blocks z.block.instrs) (z.becomes.instrs.names n q)) m) named) j)

    eight : (c : Block) (j : ℕ) (i : Instr) → Among c g.blocks → slice_get c.instrs j ≡ Some i → V8 t c j i ≡ true
    unfolding V8
    eight c j i m e =
        let z = among-stood c f.blocks g.blocks all m in
        rule-by c.instrs (z.2.instrs.order (ordered-by z.0.instrs (λ n x q. rules.eight z.0 n x z.1 q))) j i e

    nine : (k : ℕ) (c : Block) → slice_get g.blocks k ≡ Some c → V9 t g k c ≡ true
    unfolding V9
    nine k c e =
        let z = stood k c f.blocks g.blocks all e in
        let b = z.block in
        let mb : Among b f.blocks = slice-member f.blocks k b z.there in
        let right : list_any (λ i. does is_branch t i && not (V1 t f i)) b.instrs ≡ false = none-by (λ i. does is_branch t i && not (V1 t f i)) b.instrs (λ i m. and_right (does is_branch t i) (not (V1 t f i)) (ap not (ones b i mb m))) in
        let x = list_any (λ i. does is_branch t i && not (V1 t g i)) c.instrs in
        let open-same : is_open t c ≡ is_open t b = λ j. t.options.open_blocks && nat_eq (length (z.becomes.successors j)) 0 && z.becomes.instrs.opens j in
        let fallen-same : fallen_into t c (drop (suc k) g.blocks) ≡ fallen_into t b (drop (suc k) f.blocks) = λ j. cond (z.becomes.instrs.falls j && not (open-same j)) (z.behind j) None in
        (λ j. x || open-same j || lists_once (map-edges (z.becomes.successors j)) (z.becomes.instrs.targets j ++ option_to_list (fallen-same j)))
        ∙ either-way x (list_any (λ i. does is_branch t i && not (V1 t f i)) b.instrs) (is_open t b) (lists_once (successors_of b) (branch_targets t b.instrs ++ option_to_list (fallen_into t b (drop (suc k) f.blocks)))) right (rules.nine k b z.there)
      where
        either-way : (x y p q : Bool) → y ≡ false → (y || p || q) ≡ true → (x || p || q) ≡ true
        either-way true y p q e h = refl
        either-way false true p q e h = absurd (cc)
        either-way false false p q e h = h

    pub rules-carried : KeepsBlockRules t g
    rules-carried = record { five = five; eight = eight; nine = nine }
