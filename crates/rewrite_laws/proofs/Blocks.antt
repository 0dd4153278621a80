-- Blocks in physical form have the numbers and the successors that they had, and end as they did.
use Rattle.std.proofs.Common.{◌≡◌, not, ◌&&◌, ◌||◌, ◌∙◌, ◌+◌, ℕ, Bool, true, false, cond, List, [], ◌∷◌, Option, Some, None, map, filter, length, refl, sym, ap}
use Rattle.std.specs.Prelude.{nat_eq, slice_get}
use Rattle.std.specs.List.{list_all}
use Rattle.target_base.specs.declared.types.ClassId.{ClassId}
use Rattle.target_base.specs.declared.types.Effect.{Effect}
use Rattle.target_base.specs.declared.types.Reg.{Reg}
use Rattle.target_base.specs.declared.types.Target.{Target}
use Rattle.target_base.specs.Rules.{is_copy, is_phi}
use Rattle.target_base.proofs.Tests.{first_of_both}
use Rattle.meaning.specs.Live.{Among as Member, here as first, there as later}
use Rattle.mir_func.specs.declared.func.Instr.{Instr}
use Rattle.mir_func.specs.declared.func.Block.{Block}
use Rattle.mir_func.specs.Value.{Function}
use Rattle.mir_func.specs.Binding.{does, effect_of, ends_control, is_conditional, is_terminator, passes}
use Rattle.mir_meaning.specs.Codes.{ends_without_terminator, fallen_into, falls_through, first_number, is_open}
use Rattle.mir_meaning.specs.Points.{has_no_phis}
use Rattle.mir_meaning.specs.Rules.{V8}
use Rattle.mir_meaning.proofs.Points.{both}
use Rattle.live_laws.proofs.Effects.Lists.{all-of}
use Rattle.phi_elim.specs.Numbered.{blocks_numbered, numbered}
use Rattle.lowering_laws.proofs.Placed.{falls-last, last_lacks, open-last}
use Rattle.join_laws.proofs.Asked.{copy-is}
use Rattle.join_laws.proofs.Ends.{ends, map-ordered, ordered, ordered-by}
use Rattle.rewriter.specs.Physical.{Assignment, is_identity, moves_nothing, physical_block, physical_form, physical_instr, physical_instrs, physical_liveins, with_liveins, without_ranges}

-- c is b in physical form, but for its live-ins, with the ids from some number on
pub record Follows (t : Target) (rs : Assignment) (b c : Block) : Type 0 where
  pub number : c.number ≡ b.number
  pub successors : c.successors ≡ b.successors
  pub id : ℕ
  pub instrs : c.instrs ≡ numbered id (physical_instrs t rs b.instrs)

abbrev pub AllFollow : Target → Assignment → List Block → List Block → Type 0
AllFollow t rs [] [] = Unit {0}
AllFollow t rs [] (c ∷ cs) = ⊥
AllFollow t rs (b ∷ bs) [] = ⊥
AllFollow t rs (b ∷ bs) (c ∷ cs) = Follows t rs b c × AllFollow t rs bs cs

module _ (t : Target) (rs : Assignment) where
  follow-numbered : (n : ℕ) (bs : List Block) → AllFollow t rs bs (blocks_numbered n (map (physical_block t rs) bs))
  follow-numbered n [] = tt
  follow-numbered n (b ∷ bs) = (record { number = refl; successors = refl; id = n; instrs = refl }, follow-numbered (n + length (physical_instrs t rs b.instrs)) bs)

  follow-liveins : (ls : List (List Reg)) (bs cs : List Block) → AllFollow t rs bs cs → AllFollow t rs bs (with_liveins ls cs)
  follow-liveins [] bs cs h = h
  follow-liveins (l ∷ ls) [] [] h = h
  follow-liveins (l ∷ ls) [] (c ∷ cs) h = absurd h
  follow-liveins (l ∷ ls) (b ∷ bs) [] h = absurd h
  follow-liveins (l ∷ ls) (b ∷ bs) (c ∷ cs) h = (record { number = h.0.number; successors = h.0.successors; id = h.0.id; instrs = h.0.instrs }, follow-liveins ls bs cs h.1)

  pub form-follows : (slots : List (ℕ × ClassId)) (live : ℕ → ℕ → Bool) (f : Function) → AllFollow t rs f.blocks (physical_form t rs slots live f).blocks
  form-follows slots live f =
      follow-liveins (physical_liveins t live (without_ranges t rs slots f).blocks) f.blocks (blocks_numbered 0 (map (physical_block t rs) f.blocks)) (follow-numbered 0 f.blocks)

-- tests of instructions that don't see ids and operands

module _ (p : Instr → Bool) where
  number-all : ((n : ℕ) (i : Instr) → p (record i { id = n }) ≡ p i) → (n : ℕ) (is : List Instr) → list_all p (numbered n is) ≡ list_all p is
  number-all e n [] = refl
  number-all e n (i ∷ is) = λ k. e n i k && number-all e (n + 1) is k

  map-all : (h : Instr → Instr) → ((i : Instr) → p (h i) ≡ p i) → (is : List Instr) → list_all p (map h is) ≡ list_all p is
  map-all h e [] = refl
  map-all h e (i ∷ is) = λ k. e i k && map-all h e is k

  filter-all : (q : Instr → Bool) (is : List Instr) → list_all p is ≡ true → list_all p (filter q is) ≡ true
  filter-all q [] e = refl
  filter-all q (i ∷ is) e = let z = both (p i) (list_all p is) e in go (q i) z.0 (filter-all q is z.1)
    where
      go : (u : Bool) → p i ≡ true → list_all p (filter q is) ≡ true → list_all p (cond u (i ∷ filter q is) (filter q is)) ≡ true
      go true x y = λ k. x k && y k
      go false x y = y

module _ (t : Target) (rs : Assignment) where
  abbrev plain : Instr → Bool
  plain i = not (does is_phi t i)

  none-in : (b c : Block) → Follows t rs b c → list_all (λ i. not (does is_phi t i)) b.instrs ≡ true → list_all (λ i. not (does is_phi t i)) c.instrs ≡ true
  none-in b c h e =
      ap (list_all plain) h.instrs
      ∙ (number-all plain (λ n i. refl) h.id (physical_instrs t rs b.instrs)
      ∙ filter-all plain (λ i. not (is_identity t i)) (map (physical_instr t rs) b.instrs) (map-all plain (physical_instr t rs) (λ i. refl) b.instrs ∙ e))

  pub none-follow : (bs cs : List Block) → AllFollow t rs bs cs → has_no_phis t bs ≡ true → has_no_phis t cs ≡ true
  none-follow [] [] h e = refl
  none-follow [] (c ∷ cs) h e = absurd h
  none-follow (b ∷ bs) [] h e = absurd h
  none-follow (b ∷ bs) (c ∷ cs) h e = let z = both (list_all (λ i. not (does is_phi t i)) b.instrs) (has_no_phis t bs) e in λ k. none-in b c h.0 z.0 k && none-follow bs cs h.1 z.1 k

  pub first-same : (bs cs : List Block) → AllFollow t rs bs cs → first_number cs ≡ first_number bs
  first-same [] [] h = refl
  first-same [] (c ∷ cs) h = absurd h
  first-same (b ∷ bs) [] h = absurd h
  first-same (b ∷ bs) (c ∷ cs) h = ap Some h.0.number

-- lists of instructions without some that don't end

module _ (t : Target) where
  abbrev lacks : (Instr → Bool) → List Instr → Bool
  lacks = last_lacks t

  head-lacks : (p : Instr → Bool) (i : Instr) (is : List Instr) → p i ≡ false → lacks p (i ∷ is) ≡ lacks p is
  head-lacks p i [] e = ap not e
  head-lacks p i (x ∷ is) e = refl

  map-lacks : (p : Instr → Bool) (h : Instr → Instr) (is : List Instr) → ((i : Instr) → p (h i) ≡ p i) → lacks p (map h is) ≡ lacks p is
  map-lacks p h [] e = refl
  map-lacks p h (i ∷ []) e = ap not (e i)
  map-lacks p h (i ∷ x ∷ is) e = map-lacks p h (x ∷ is) e

  numbered-lacks : (p : Instr → Bool) → ((n : ℕ) (i : Instr) → p (record i { id = n }) ≡ p i) → (n : ℕ) (is : List Instr) → lacks p (numbered n is) ≡ lacks p is
  numbered-lacks p e n [] = refl
  numbered-lacks p e n (i ∷ []) = ap not (e n i)
  numbered-lacks p e n (i ∷ x ∷ is) = numbered-lacks p e (n + 1) (x ∷ is)

  filter-whole : (keep : Instr → Bool) (is : List Instr) → ((i : Instr) → Member i is → keep i ≡ true) → filter keep is ≡ is
  filter-whole keep [] h = refl
  filter-whole keep (x ∷ is) h = λ k. cond (h x first k) (x ∷ filter-whole keep is (λ i m. h i (later m)) k) (filter keep is)

  abbrev KeepsEnds : (Instr → Bool) → Type 0
  KeepsEnds keep = (i : Instr) → keep i ≡ false → ends t i ≡ false

  kept-end : (keep : Instr → Bool) → KeepsEnds keep → (i : Instr) → ends t i ≡ true → keep i ≡ true
  kept-end keep h i e = go (keep i) refl
    where
      go : (u : Bool) → keep i ≡ u → u ≡ true
      go true d = refl
      go false d = absurd (let z : true ≡ false = sym e ∙ h i d in cc)

  all-kept : (keep : Instr → Bool) → KeepsEnds keep → (is : List Instr) → list_all (ends t) is ≡ true → filter keep is ≡ is
  all-kept keep h is e = filter-whole keep is (λ i m. kept-end keep h i (all-of (ends t) i is m e))

  filter-lacks : (p keep : Instr → Bool) → ((i : Instr) → ends t i ≡ false → p i ≡ false) → KeepsEnds keep → (is : List Instr) → ordered t is ≡ true → lacks p (filter keep is) ≡ lacks p is
  filter-lacks p keep plain h [] o = refl
  filter-lacks p keep plain h (x ∷ is) o = go (ends t x) refl o (filter-lacks p keep plain h is)
    where
      by : p x ≡ false → (v : Bool) → lacks p (filter keep is) ≡ lacks p is → lacks p (cond v (x ∷ filter keep is) (filter keep is)) ≡ lacks p (x ∷ is)
      by e true rest = head-lacks p x (filter keep is) e ∙ (rest ∙ sym (head-lacks p x is e))
      by e false rest = rest ∙ sym (head-lacks p x is e)

      go : (u : Bool) → ends t x ≡ u → cond u (list_all (ends t) is) (ordered t is) ≡ true → (ordered t is ≡ true → lacks p (filter keep is) ≡ lacks p is) → lacks p (filter keep (x ∷ is)) ≡ lacks p (x ∷ is)
      go true e q rest = ap (lacks p) (λ k. cond (kept-end keep h x e k) (x ∷ all-kept keep h is q k) (filter keep is))
      go false e q rest = by (plain x e) (keep x) (rest q)

  -- an instruction that ends control is a terminator
  goes-on : (i : Instr) → ends t i ≡ false → does ends_control t i ≡ false
  goes-on i e = go (effect_of t i) e
    where
      left : (a b : Bool) → (a || b) ≡ false → a ≡ false
      left true b h = absurd (cc)
      left false b h = refl

      go : (q : Option Effect) → passes is_terminator q ≡ false → passes ends_control q ≡ false
      go None h = refl
      go (Some x) h = left (ends_control x) (is_conditional x) h

  -- a copy of a register to itself is no terminator
  identity-stays : (i : Instr) → not (is_identity t i) ≡ false → ends t i ≡ false
  identity-stays i e = ap (passes is_terminator) (copy-is (effect_of t i) (first_of_both (does is_copy t i) (moves_nothing i.operands) (true-by (is_identity t i) e)))
    where
      true-by : (u : Bool) → not u ≡ false → u ≡ true
      true-by true e = refl
      true-by false e = absurd (cc)

  module _ (rs : Assignment) (b c : Block) (h : Follows t rs b c) (rule-eight : (j : ℕ) (i : Instr) → slice_get b.instrs j ≡ Some i → V8 t b j i ≡ true) where
    abbrev made : List Instr
    made = map (physical_instr t rs) b.instrs

    abbrev keep : Instr → Bool
    keep i = not (is_identity t i)

    in-order : ordered t b.instrs ≡ true
    unfolding V8
    in-order = ordered-by t b.instrs rule-eight

    made-in-order : ordered t made ≡ true
    made-in-order = map-ordered t (physical_instr t rs) b.instrs (λ i. refl) ∙ in-order

    last-stays : (p : Instr → Bool) → ((n : ℕ) (i : Instr) → p (record i { id = n }) ≡ p i) → ((i : Instr) → p (physical_instr t rs i) ≡ p i) → ((i : Instr) → ends t i ≡ false → p i ≡ false) → lacks p c.instrs ≡ lacks p b.instrs
    last-stays p ids ops plain =
        ap (lacks p) h.instrs
        ∙ (numbered-lacks p ids h.id (physical_instrs t rs b.instrs)
        ∙ (filter-lacks p keep plain identity-stays made made-in-order
        ∙ map-lacks p (physical_instr t rs) b.instrs ops))

    falls-stay : falls_through t c.instrs ≡ falls_through t b.instrs
    falls-stay = falls-last t c.instrs ∙ (last-stays (does ends_control t) (λ n i. refl) (λ i. refl) goes-on ∙ sym (falls-last t b.instrs))

    open-stays : ends_without_terminator t c.instrs ≡ ends_without_terminator t b.instrs
    open-stays = open-last t c.instrs ∙ (last-stays (ends t) (λ n i. refl) (λ i. refl) (λ i e. e) ∙ sym (open-last t b.instrs))

    open-same : is_open t c ≡ is_open t b
    open-same = λ k. t.options.open_blocks && nat_eq (length (h.successors k)) 0 && open-stays k

    pub fallen-same : (bs cs : List Block) → first_number cs ≡ first_number bs → fallen_into t c cs ≡ fallen_into t b bs
    fallen-same bs cs e = λ k. cond (falls-stay k && not (open-same k)) (e k) None
