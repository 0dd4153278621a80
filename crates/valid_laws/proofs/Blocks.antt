-- Blocks of the physical form keep the rules on blocks.
use Rattle.std.proofs.Common.{◌≡◌, not, ◌&&◌, ◌||◌, ◌++◌, ◌∙◌, ◌+◌, ℕ, zero, suc, Bool, true, false, cond, List, [], ◌∷◌, Some, None, map, filter, flat_map, length, take, drop, refl, sym, ap, subst}
use Rattle.std.specs.Prelude.{codes, nat_eq, nat_lt, option_to_list, slice_get}
use Rattle.std.specs.List.{list_all, list_any}
use Rattle.std.proofs.lemmas.Bool.{and_right}
use Rattle.target_base.specs.declared.types.ClassId.{ClassId}
use Rattle.target_base.specs.declared.types.Effect.TheVariants as effects
use Rattle.target_base.specs.declared.types.Target.{Target}
use Rattle.target_base.specs.Rules.{is_copy}
use Rattle.target_base.proofs.Tests.{first_of_both, second_of_both}
use Rattle.meaning.specs.Live.{Among as Member, here as first, there as later}
use Rattle.mir_func.specs.declared.func.Operand.{Operand}
use Rattle.mir_func.specs.declared.func.Operand.TheVariants as operands
use Rattle.mir_func.specs.declared.func.Edge.{Edge as Successor}
use Rattle.mir_func.specs.declared.func.Instr.{Instr}
use Rattle.mir_func.specs.declared.func.Block.{Block}
use Rattle.mir_func.specs.Value.{Function}
use Rattle.mir_func.specs.Binding.{does, effect_of, is_branch, is_lowered_away, is_terminator, passes}
use Rattle.mir_meaning.specs.Codes.{ends_without_terminator, fallen_into, falls_through, is_open}
use Rattle.mir_meaning.specs.Registers.{has_number}
use Rattle.mir_meaning.specs.Rules.{V1, V5, V6, V8, V9, V10, V16, block_numbers, block_of, branch_targets, contains, copy_fits, lists_once, named_blocks, predecessors, successors_of}
use Rattle.live_laws.proofs.Effects.Blocks.{slice-member}
use Rattle.live_laws.proofs.Touch.Roles.{met}
use Rattle.lowering_laws.proofs.Formed.{none-by}
use Rattle.join_laws.proofs.Asked.{copy-is}
use Rattle.join_laws.proofs.Branches.{no-terminators}
use Rattle.join_laws.proofs.Ends.{ends, filter-ordered, map-ordered, ordered, ordered-by, rule-by}
use Rattle.phi_elim.specs.Numbered.{numbered}
use Rattle.rewriter.specs.Physical.{Assignment, is_identity, moves_nothing, physical, physical_form, physical_instr, physical_instrs}
use Rattle.rewrite_laws.proofs.Blocks.{AllFollow, Follows, fallen-same, first-same, form-follows}
use Rattle.valid_laws.specs.Rules.{PhysicalBlocks, PhysicalLowered, PhysicalTerminators, StandsClear}
use Rattle.valid_laws.proofs.Forms.{IsForm, form-at, instr-of, made-of}
use Rattle.valid_laws.proofs.Fitting.{not-away, physical-operands}

-- lists of blocks that follow others

module _ (t : Target) (rs : Assignment) where
  numbers-follow : (bs cs : List Block) → AllFollow t rs bs cs → block_numbers cs ≡ block_numbers bs
  numbers-follow [] [] h = refl
  numbers-follow [] (c ∷ cs) h = absurd h
  numbers-follow (b ∷ bs) [] h = absurd h
  numbers-follow (b ∷ bs) (c ∷ cs) h = λ k. h.0.number k ∷ numbers-follow bs cs h.1 k

  length-follows : (bs cs : List Block) → AllFollow t rs bs cs → length cs ≡ length bs
  length-follows [] [] h = refl
  length-follows [] (c ∷ cs) h = absurd h
  length-follows (b ∷ bs) [] h = absurd h
  length-follows (b ∷ bs) (c ∷ cs) h = ap suc (length-follows bs cs h.1)

  take-follows : (k : ℕ) (bs cs : List Block) → AllFollow t rs bs cs → AllFollow t rs (take k bs) (take k cs)
  take-follows zero bs cs h = tt
  take-follows (suc k) [] [] h = tt
  take-follows (suc k) [] (c ∷ cs) h = absurd h
  take-follows (suc k) (b ∷ bs) [] h = absurd h
  take-follows (suc k) (b ∷ bs) (c ∷ cs) h = (h.0, take-follows k bs cs h.1)

  drop-none : {X : Type 0} (xs : List X) → drop 0 xs ≡ xs
  drop-none [] = refl
  drop-none (x ∷ xs) = refl

  drop-follows : (k : ℕ) (bs cs : List Block) → AllFollow t rs bs cs → AllFollow t rs (drop k bs) (drop k cs)
  drop-follows zero bs cs h = subst (λ ds. AllFollow t rs (drop 0 bs) ds) (sym (drop-none cs)) (subst (λ ds. AllFollow t rs ds cs) (sym (drop-none bs)) h)
  drop-follows (suc k) [] [] h = tt
  drop-follows (suc k) [] (c ∷ cs) h = absurd h
  drop-follows (suc k) (b ∷ bs) [] h = absurd h
  drop-follows (suc k) (b ∷ bs) (c ∷ cs) h = drop-follows k bs cs h.1

  leads-same : (b c : Block) → Follows t rs b c → successors_of c ≡ successors_of b
  leads-same b c h = ap (map (λ (e : Successor). e.block)) h.successors

  into-same : (n : ℕ) (bs cs : List Block) → AllFollow t rs bs cs → block_numbers (filter (λ b. has_number (successors_of b) n) cs) ≡ block_numbers (filter (λ b. has_number (successors_of b) n) bs)
  into-same n [] [] h = refl
  into-same n [] (c ∷ cs) h = absurd h
  into-same n (b ∷ bs) [] h = absurd h
  into-same n (b ∷ bs) (c ∷ cs) h = ap (λ ns. block_numbers (cond (has_number ns n) (c ∷ filter (λ b. has_number (successors_of b) n) cs) (filter (λ b. has_number (successors_of b) n) cs))) (leads-same b c h.0) ∙ go (has_number (successors_of b) n) (into-same n bs cs h.1)
    where
      go : (u : Bool) → block_numbers (filter (λ b. has_number (successors_of b) n) cs) ≡ block_numbers (filter (λ b. has_number (successors_of b) n) bs)
          → block_numbers (cond u (c ∷ filter (λ b. has_number (successors_of b) n) cs) (filter (λ b. has_number (successors_of b) n) cs)) ≡ block_numbers (cond u (b ∷ filter (λ b. has_number (successors_of b) n) bs) (filter (λ b. has_number (successors_of b) n) bs))
      go true e = λ k. h.0.number k ∷ e k
      go false e = e

  -- blocks that instructions name

  operand-names : (o : Operand) → block_of (physical t rs o) ≡ block_of o
  operand-names (operands.Reg o) = refl
  operand-names (operands.Imm z) = refl
  operand-names (operands.Block z) = refl
  operand-names (operands.Stack z) = refl
  operand-names (operands.FixedStack z) = refl
  operand-names (operands.Symbol z) = refl
  operand-names (operands.Index z) = refl
  operand-names (operands.Mask z) = refl

  names-same : (os : List Operand) → flat_map block_of (map (physical t rs) os) ≡ flat_map block_of os
  names-same [] = refl
  names-same (o ∷ os) = λ k. operand-names o k ++ names-same os k

  numbered-names : (n : ℕ) (is : List Instr) → flat_map named_blocks (numbered n is) ≡ flat_map named_blocks is
  numbered-names n [] = refl
  numbered-names n (i ∷ is) = ap (λ ns. named_blocks i ++ ns) (numbered-names (n + 1) is)

  numbered-targets : (n : ℕ) (is : List Instr) → branch_targets t (numbered n is) ≡ branch_targets t is
  numbered-targets n [] = refl
  numbered-targets n (i ∷ is) = go (does is_branch t i) (numbered-targets (n + 1) is)
    where
      go : (u : Bool) → branch_targets t (numbered (n + 1) is) ≡ branch_targets t is
          → flat_map named_blocks (cond u (record i { id = n } ∷ filter (does is_branch t) (numbered (n + 1) is)) (filter (does is_branch t) (numbered (n + 1) is))) ≡ flat_map named_blocks (cond u (i ∷ filter (does is_branch t) is) (filter (does is_branch t) is))
      go true e = ap (λ ns. named_blocks i ++ ns) e
      go false e = e

  -- a copy of a register to itself

  copies : (i : Instr) → is_identity t (physical_instr t rs i) ≡ true → effect_of t i ≡ Some effects.Copy
  copies i e = copy-is (effect_of t i) (first_of_both (does is_copy t i) (moves_nothing (map (physical t rs) i.operands)) e)

  true-by : (u : Bool) → not u ≡ false → u ≡ true
  true-by true e = refl
  true-by false e = absurd (cc)

  keeps-ends : (i : Instr) → not (is_identity t i) ≡ false → ends t i ≡ false
  keeps-ends i e = ap (passes is_terminator) (copy-is (effect_of t i) (first_of_both (does is_copy t i) (moves_nothing i.operands) (true-by (is_identity t i) e)))

  copy-names : (os : List Operand) → copy_fits os ≡ true → flat_map block_of os ≡ []
  copy-names (operands.Reg d ∷ operands.Reg s ∷ []) e = refl
  copy-names os e = absurd (cc)

  gone-names : (f : Function) (i : Instr) → V1 t f i ≡ true → is_identity t (physical_instr t rs i) ≡ true → named_blocks i ≡ []
  gone-names f i one e = copy-names i.operands (met t f i effects.Copy (copies i e) one).3

  names-left : (f : Function) (is : List Instr) → ((i : Instr) → Member i is → V1 t f i ≡ true) → flat_map named_blocks (physical_instrs t rs is) ≡ flat_map named_blocks is
  names-left f [] h = refl
  names-left f (i ∷ is) h = go (is_identity t (physical_instr t rs i)) refl (names-left f is (λ x m. h x (later m)))
    where
      go : (u : Bool) → is_identity t (physical_instr t rs i) ≡ u → flat_map named_blocks (physical_instrs t rs is) ≡ flat_map named_blocks is
          → flat_map named_blocks (cond (not u) (physical_instr t rs i ∷ physical_instrs t rs is) (physical_instrs t rs is)) ≡ named_blocks i ++ flat_map named_blocks is
      go true e rest = rest ∙ sym (ap (λ ns. ns ++ flat_map named_blocks is) (gone-names f i (h i first) e))
      go false e rest = λ k. names-same i.operands k ++ rest k

  targets-left : (is : List Instr) → branch_targets t (physical_instrs t rs is) ≡ branch_targets t is
  targets-left [] = refl
  targets-left (i ∷ is) = go (is_identity t (physical_instr t rs i)) refl (targets-left is)
    where
      branch : (c : Bool) → branch_targets t (physical_instrs t rs is) ≡ branch_targets t is
          → flat_map named_blocks (cond c (physical_instr t rs i ∷ filter (does is_branch t) (physical_instrs t rs is)) (filter (does is_branch t) (physical_instrs t rs is))) ≡ flat_map named_blocks (cond c (i ∷ filter (does is_branch t) is) (filter (does is_branch t) is))
      branch true e = λ k. names-same i.operands k ++ e k
      branch false e = e

      go : (u : Bool) → is_identity t (physical_instr t rs i) ≡ u → branch_targets t (physical_instrs t rs is) ≡ branch_targets t is
          → branch_targets t (cond (not u) (physical_instr t rs i ∷ physical_instrs t rs is) (physical_instrs t rs is)) ≡ branch_targets t (i ∷ is)
      go true e more = more ∙ sym (ap (λ c. flat_map named_blocks (cond (passes is_branch c) (i ∷ filter (does is_branch t) is) (filter (does is_branch t) is))) (copies i e))
      go false e more = branch (does is_branch t i) more

  -- behind a terminator stand terminators only

  numbered-all : (p : Instr → Bool) → ((n : ℕ) (i : Instr) → p (record i { id = n }) ≡ p i) → (n : ℕ) (is : List Instr) → list_all p (numbered n is) ≡ list_all p is
  numbered-all p e n [] = refl
  numbered-all p e n (i ∷ is) = λ k. e n i k && numbered-all p e (n + 1) is k

  numbered-ordered : (n : ℕ) (is : List Instr) → ordered t (numbered n is) ≡ ordered t is
  numbered-ordered n [] = refl
  numbered-ordered n (i ∷ is) = λ k. cond (ends t i) (numbered-all (ends t) (λ n i. refl) (n + 1) is k) (numbered-ordered (n + 1) is k)

  none-ends : (is : List Instr) → ((i : Instr) → Member i is → does is_terminator t i ≡ false) → ends_without_terminator t is ≡ true
  none-ends [] h = refl
  none-ends (i ∷ []) h = ap not (h i first)
  none-ends (i ∷ j ∷ is) h = none-ends (j ∷ is) (λ x m. h x (later m))

  module _ (f : Function) (b c : Block) (h : Follows t rs b c) (rule-eight : (j : ℕ) (i : Instr) → slice_get b.instrs j ≡ Some i → V8 t b j i ≡ true) where
    in-order : ordered t c.instrs ≡ true
    unfolding V8
    in-order =
        ap (ordered t) h.instrs
        ∙ (numbered-ordered h.id (physical_instrs t rs b.instrs)
        ∙ filter-ordered t (λ i. not (is_identity t i)) keeps-ends (map (physical_instr t rs) b.instrs) (map-ordered t (physical_instr t rs) b.instrs (λ i. refl) ∙ ordered-by t b.instrs rule-eight))

    eight : (j : ℕ) (x : Instr) → slice_get c.instrs j ≡ Some x → V8 t c j x ≡ true
    unfolding V8
    eight j x e = rule-by t c.instrs in-order j x e

    -- an open block stays open
    open-stays : is_open t b ≡ true → is_open t c ≡ true
    unfolding V8
    open-stays e =
        let front = t.options.open_blocks && nat_eq (length b.successors) 0 in
        let was = no-terminators t b.instrs rule-eight (second_of_both front (ends_without_terminator t b.instrs) e) in
        let now : ends_without_terminator t c.instrs ≡ true = none-ends c.instrs (λ x m. let z = made-of t rs f b c x h m in ap (does is_terminator t) z.is ∙ was z.instr z.inside) in
        λ k. (ap (λ (es : List Successor). t.options.open_blocks && nat_eq (length es) 0) h.successors ∙ first_of_both front (ends_without_terminator t b.instrs) e) k && now k

    targets-same : branch_targets t c.instrs ≡ branch_targets t b.instrs
    targets-same = ap (branch_targets t) h.instrs ∙ (numbered-targets h.id (physical_instrs t rs b.instrs) ∙ targets-left b.instrs)

    -- control reaches the end as it did

    told : (a e : Bool) (n : ℕ) → cond a (Some n) None ≡ cond e (Some n) None → a ≡ e
    told true true n q = refl
    told true false n q = absurd (cc)
    told false true n q = absurd (cc)
    told false false n q = refl

    reaches-same : (falls_through t c.instrs && not (is_open t c)) ≡ (falls_through t b.instrs && not (is_open t b))
    reaches-same = told (falls_through t c.instrs && not (is_open t c)) (falls_through t b.instrs && not (is_open t b)) b.number (fallen-same t rs b c h rule-eight (b ∷ []) (b ∷ []) refl)

    past : (a x y z w : Bool) → (x && not y) ≡ (z && not w) → (a || not z || w) ≡ true → (a || not x || y) ≡ true
    past true x y z w e g = refl
    past false true true z w e g = refl
    past false true false true true e g = absurd (cc)
    past false true false true false e g = absurd (cc)
    past false true false false w e g = absurd (cc)
    past false false y z w e g = refl

-- the rules, block by block

or-false : (a b : Bool) → a ≡ false → (a || b) ≡ b
or-false a b e = ap (λ c. c || b) e

lead-on : (a b c d : Bool) → (a ≡ true → c ≡ true) → (b ≡ true → d ≡ true) → (a || b) ≡ true → (c || d) ≡ true
lead-on true b c d f g e = ap (λ x. x || d) (f refl)
lead-on false b true d f g e = refl
lead-on false b false d f g e = g e

module _ (t : Target) (f : Function) (rs : Assignment) (slots : List (ℕ × ClassId)) (live : ℕ → ℕ → Bool) (stand : StandsClear t f rs) where
  abbrev g : Function
  g = physical_form t rs slots live f

  all : AllFollow t rs f.blocks g.blocks
  all = form-follows t rs slots live f

  none-wrong : (h : Function) (is : List Instr) → ((i : Instr) → Member i is → V1 t h i ≡ true) → list_any (λ i. does is_branch t i && not (V1 t h i)) is ≡ false
  none-wrong h is ones = none-by (λ i. does is_branch t i && not (V1 t h i)) is (λ i m. and_right (does is_branch t i) (not (V1 t h i)) (ap not (ones i m)))

  module _ (k : ℕ) (b c : Block) (eb : slice_get f.blocks k ≡ Some b) (ec : slice_get g.blocks k ≡ Some c) (form : IsForm t rs live k b c) where
    mb : Member b f.blocks
    mb = slice-member f.blocks k b eb

    ones : (i : Instr) → Member i b.instrs → V1 t f i ≡ true
    ones i m = (stand.lowered.rules.shaped b i mb m).operands

    names-all : flat_map named_blocks c.instrs ≡ flat_map named_blocks b.instrs
    names-all = ap (flat_map named_blocks) form.follows.instrs ∙ (numbered-names t rs form.follows.id (physical_instrs t rs b.instrs) ∙ names-left t rs f b.instrs ones)

    five : V5 g k c ≡ true
    unfolding V5
    five =
        (λ i. not (has_number (numbers-follow t rs (take k f.blocks) (take k g.blocks) (take-follows t rs k f.blocks g.blocks all) i) (form.follows.number i))
        && list_all (has_number (numbers-follow t rs f.blocks g.blocks all i)) (leads-same t rs b c form.follows i ++ names-all i))
        ∙ stand.lowered.rules.blocks k b eb

    six : V6 f k b ≡ true → V6 g k c ≡ true
    unfolding V6
    six h = (λ i. not (nat_eq k 0) || nat_eq (length ((ap (predecessors g) form.follows.number ∙ into-same t rs b.number f.blocks g.blocks all) i)) 0) ∙ h

    rule-eight : (j : ℕ) (i : Instr) → slice_get b.instrs j ≡ Some i → V8 t b j i ≡ true
    rule-eight j i e = stand.lowered.terminators b j i mb e

    fallen : fallen_into t c (drop (suc k) g.blocks) ≡ fallen_into t b (drop (suc k) f.blocks)
    fallen =
        fallen-same t rs b c form.follows rule-eight (drop (suc k) f.blocks) (drop (suc k) g.blocks)
        (first-same t rs (drop (suc k) f.blocks) (drop (suc k) g.blocks) (drop-follows t rs (suc k) f.blocks g.blocks all))

    leads : lists_once (successors_of b) (branch_targets t b.instrs ++ option_to_list (fallen_into t b (drop (suc k) f.blocks))) ≡ true
        → lists_once (successors_of c) (branch_targets t c.instrs ++ option_to_list (fallen_into t c (drop (suc k) g.blocks))) ≡ true
    leads h = (λ i. lists_once (leads-same t rs b c form.follows i) (targets-same t rs f b c form.follows rule-eight i ++ option_to_list (fallen i))) ∙ h

    nine : V9 t g k c ≡ true
    unfolding V9
    nine =
        let after = lists_once (successors_of c) (branch_targets t c.instrs ++ option_to_list (fallen_into t c (drop (suc k) g.blocks))) in
        let before = lists_once (successors_of b) (branch_targets t b.instrs ++ option_to_list (fallen_into t b (drop (suc k) f.blocks))) in
        let right = none-wrong g c.instrs (λ x m. physical-operands t f rs slots live stand c x (slice-member g.blocks k c ec) m) in
        let was : (is_open t b || before) ≡ true = sym (ap (λ u. u || is_open t b || before) (none-wrong f b.instrs ones)) ∙ stand.lowered.successors k b eb in
        ap (λ u. u || is_open t c || after) right
        ∙ lead-on (is_open t b) before (is_open t c) after (open-stays t rs f b c form.follows rule-eight) leads was

    ten : V10 t f k b ≡ true → V10 t g k c ≡ true
    unfolding V10
    ten h =
        past t rs f b c form.follows rule-eight (nat_lt (suc k) (length g.blocks)) (falls_through t c.instrs) (is_open t c) (falls_through t b.instrs) (is_open t b)
        (reaches-same t rs f b c form.follows rule-eight)
        ((λ i. nat_lt (suc k) (length-follows t rs f.blocks g.blocks all i) || not (falls_through t b.instrs) || is_open t b) ∙ h)

    sixteen : V16 b ≡ true → V16 c ≡ true
    unfolding V16
    sixteen h = ap (λ bs. not (contains bs (codes "landing-pad")) && not (contains bs (codes "ehfunclet-entry"))) form.attributes ∙ h

pub physical-blocks : PhysicalBlocks
physical-blocks t f rs slots live stand has k c e =
    let z = form-at t rs slots live f k c e in
    let was = has k z.0 z.1 in
    record {
      five = five t f rs slots live stand k z.0 c z.1 e z.2;
      six = six t f rs slots live stand k z.0 c z.1 e z.2 was.six;
      nine = nine t f rs slots live stand k z.0 c z.1 e z.2;
      ten = ten t f rs slots live stand k z.0 c z.1 e z.2 was.ten;
      sixteen = sixteen t f rs slots live stand k z.0 c z.1 e z.2 was.sixteen;
    }

pub physical-terminators : PhysicalTerminators
physical-terminators t f rs slots live stand k c j x e q =
    let z = form-at t rs slots live f k c e in
    eight t rs f z.0 c z.2.follows (λ j i h. stand.lowered.terminators z.0 j i (slice-member f.blocks k z.0 z.1) h) j x q

pub physical-lowered : PhysicalLowered
physical-lowered t f rs slots live stand c x mc mx =
    let z = instr-of t rs slots live f c x mc mx in
    ap (does is_lowered_away t) z.2.is ∙ not-away t f rs stand z.0 z.2.instr z.1 z.2.inside
