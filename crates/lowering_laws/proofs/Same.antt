-- What an instruction does in two functions with the same classes is the same, but for the ways out of its block.
use Rattle.std.proofs.Common.{◌≡◌, ◌∷◌, ◌++◌, ◌∙◌, ◌&&◌, ◌+◌, ◌≤◌, ◌<◌, ℕ, suc, Bool, true, false, cond, List, Option, Some, None, map, length, refl, sym, ap, subst, arith, []}
use Rattle.std.specs.Prelude.{find, nat_eq, option_map, slice_get, slice_index}
use Rattle.target_base.specs.declared.types.ClassId.{ClassId}
use Rattle.target_base.specs.declared.types.Effect.{Effect}
use Rattle.target_base.specs.declared.types.Effect.TheVariants as effects
use Rattle.target_base.specs.declared.types.IndexId.{IndexId}
use Rattle.target_base.specs.declared.types.Target.{Target}
use Rattle.target_base.specs.Registers.{lanes_of, widths_of_some}
use Rattle.target_base.specs.Roles.{is_silent}
use Rattle.target_base.specs.Rules.{is_phi}
use Rattle.meaning.specs.Code.{BlockEnd, BlockStart, Counted, Item, Silent}
use Rattle.meaning.specs.Live.{Among, here, there, reads_of, writes_of}
use Rattle.meaning.specs.declared.types.Lane.TheVariants.{VirtualLane}
use Rattle.meaning.specs.declared.types.Rest.{Rest}
use Rattle.meaning.specs.declared.types.Source.TheVariants.{FromLane, Undef}
use Rattle.mir_func.specs.declared.func.Loc.{Loc}
use Rattle.mir_func.specs.declared.func.Loc.TheVariants.{Fixed, Virtual}
use Rattle.mir_func.specs.declared.func.RegOp.{RegOp}
use Rattle.mir_func.specs.declared.func.Operand.{Operand}
use Rattle.mir_func.specs.declared.func.Operand.TheVariants as operands
use Rattle.mir_func.specs.declared.func.Instr.{Instr}
use Rattle.mir_func.specs.declared.func.Block.{Block}
use Rattle.mir_func.specs.Value.{Function}
use Rattle.mir_func.specs.Binding.{does, effect_of, is_early_clobber, is_terminator, passes, puts_together, registers, roles_of}
use Rattle.mir_meaning.specs.Registers.{located_lanes, located_widths, numbers, operand_lanes, undefined_lanes, use_sources, whole_lanes}
use Rattle.mir_meaning.specs.Items.{copied, counted_writes, defined, defined_undef, inserted, moved, parts, rest_of, sequenced, silent_reads, silent_writes, undefined, uses, values}
use Rattle.mir_meaning.specs.Codes.{effect_item, instrs_of, item_of, phi_operands, phi_pair, phis_written, target_of, way, ways_out}
use Rattle.mir_meaning.specs.Renaming.{IsFixed, Renames, RenamesAll}
use Rattle.mir_meaning.proofs.Renaming.{law_of_renaming}
use Rattle.phi_elim.specs.declared.arrivals.Arrival.{Arrival}
use Rattle.phi_elim.specs.Moves.{source_of, whole_definition}
use Rattle.lowering_laws.proofs.Arrivals.{arrival_writes, differ, eqb-sym}
use Rattle.lowering_laws.proofs.Classes.{instr-same, item-same, lanes-same, same-lane, same-operand}

-- a number that no phi names

block_sum : List Operand → ℕ
block_sum [] = 0
block_sum (operands.Block n ∷ os) = n + block_sum os
block_sum (o ∷ os) = block_sum os

instrs_sum : List Instr → ℕ
instrs_sum [] = 0
instrs_sum (i ∷ is) = block_sum i.operands + instrs_sum is

pub blocks_sum : List Block → ℕ
blocks_sum [] = 0
blocks_sum (b ∷ bs) = instrs_sum b.instrs + blocks_sum bs

within-sum : (bs : List Block) (m : ℕ) → instrs_sum (instrs_of bs m) ≤ blocks_sum bs
unfolding blocks_sum instrs_sum
within-sum [] m = omega arith
within-sum (b ∷ bs) m = go (nat_eq b.number m) (within-sum bs m)
  where
    go : (y : Bool) → instrs_sum (instrs_of bs m) ≤ blocks_sum bs → instrs_sum (elim (cond y (Some b) (find (λ d. nat_eq d.number m) bs)) as (λ q. List Instr) [ None ↦ [] | Some d ↦ d.instrs ]) ≤ instrs_sum b.instrs + blocks_sum bs
    go true k = omega arith
    go false k = omega arith

module _ (t : Target) (f : Function) (n : ℕ) where
  pair-none : (d : RegOp) (os : List Operand) → block_sum os < n → phi_pair t f n d os ≡ []
  unfolding block_sum
  pair-none d [] h = refl
  pair-none d (operands.Reg s ∷ operands.Block m ∷ os) h =
      (λ k. cond ((eqb-sym m n ∙ differ m n (omega arith)) k) (defined t f false d (use_sources t f s)) (phi_pair t f n d os)) ∙ pair-none d os (omega arith)
  pair-none d os h = refl

  operands-none : (os : List Operand) → block_sum os < n → phi_operands t f n os ≡ []
  unfolding block_sum
  operands-none (operands.Reg d ∷ os) h = pair-none d os h
  operands-none os h = refl

  writes-none : (is : List Instr) → instrs_sum is < n → phis_written t f n is ≡ []
  unfolding instrs_sum
  writes-none [] h = refl
  writes-none (i ∷ is) h = λ k. writes-none is (omega arith) k ++ one (does is_phi t i) k
    where
      one : (y : Bool) → cond y (phi_operands t f n i.operands) [] ≡ []
      one true = operands-none i.operands (omega arith)
      one false = refl

-- on no way from a block of this number phis write
pub bare-from : (t : Target) (f : Function) (m : ℕ) → (way t f (suc (blocks_sum f.blocks)) m).phis ≡ []
bare-from t f m = writes-none t f (suc (blocks_sum f.blocks)) (instrs_of f.blocks m) (let k = within-sum f.blocks m in omega arith)

module _ (t : Target) (h g : Function) (classes : h.classes ≡ g.classes) where
  pub lanes-alike : (l : Loc) (x : Option IndexId) → located_lanes t g l x ≡ located_lanes t h l x
  lanes-alike (Virtual v) None = λ k. map (VirtualLane v) (numbers 0 (length (widths_of_some t (elim (slice_get (sym classes k) v) as (λ q. Option ClassId) [ None ↦ None | Some c ↦ c ]))))
  lanes-alike (Virtual v) (Some x) = refl
  lanes-alike (Fixed r) x = refl

  pub widths-alike : (l : Loc) (x : Option IndexId) → located_widths t g l x ≡ located_widths t h l x
  widths-alike (Virtual v) None = λ k. widths_of_some t (elim (slice_get (sym classes k) v) as (λ q. Option ClassId) [ None ↦ None | Some c ↦ c ])
  widths-alike (Virtual v) (Some x) = λ k. map (slice_index (widths_of_some t (elim (slice_get (sym classes k) v) as (λ q. Option ClassId) [ None ↦ None | Some c ↦ c ]))) (lanes_of t x)
  widths-alike (Fixed r) x = refl

  whole-alike : (l : Loc) → whole_lanes t g l ≡ whole_lanes t h l
  whole-alike (Virtual v) = lanes-alike (Virtual v) None
  whole-alike (Fixed r) = refl

  undefined-alike : (o : RegOp) → undefined_lanes t g o ≡ undefined_lanes t h o
  undefined-alike o = ap (λ ls. cond (o.def && o.undef) ls []) (whole-alike o.loc)

  sources-alike : (o : RegOp) → use_sources t g o ≡ use_sources t h o
  sources-alike o = ap (λ ls. map (cond o.undef (λ l. Undef) FromLane) ls) (lanes-alike o.loc o.index)

  pub copied-alike : (os : List Operand) → copied t g os ≡ copied t h os
  copied-alike (operands.Reg d ∷ operands.Reg s ∷ os) = λ k. moved false (lanes-alike d.loc d.index k) (sources-alike s k) ++ undefined false (undefined-alike d k)
  copied-alike os = refl

  pub undef-alike : (os : List Operand) → defined_undef t g os ≡ defined_undef t h os
  undef-alike (operands.Reg d ∷ os) = λ k. undefined false (lanes-alike d.loc d.index k ++ undefined-alike d k)
  undef-alike os = refl

  pub arrival-alike : (a : Arrival) → arrival_writes t g a ≡ arrival_writes t h a
  arrival-alike a = λ k. cond a.from.undef (undef-alike (operands.Reg (whole_definition a.to) ∷ []) k) (copied-alike (operands.Reg (whole_definition a.to) ∷ operands.Reg (source_of a.from) ∷ []) k)

  -- what puts a register together

  parts-alike : (d : RegOp) (os : List Operand) → parts t g d os ≡ parts t h d os
  parts-alike d [] = refl
  parts-alike d (operands.Reg s ∷ operands.Index x ∷ os) = λ i. moved false (lanes-alike d.loc (Some x) i) (sources-alike s i) ++ parts-alike d os i
  parts-alike d os = refl

  sequence-alike : (os : List Operand) → sequenced t g os ≡ sequenced t h os
  sequence-alike (operands.Reg d ∷ os) = λ i. parts-alike d os i ++ undefined false (lanes-alike d.loc d.index i)
  sequence-alike os = refl

  insertion-alike : (os : List Operand) → inserted t g os ≡ inserted t h os
  insertion-alike (operands.Reg d ∷ operands.Reg a ∷ operands.Reg b ∷ operands.Index x ∷ os) =
      λ i. moved false (lanes-alike d.loc (Some x) i) (sources-alike b i) ++ moved false (lanes-alike d.loc d.index i) (sources-alike a i)
  insertion-alike os = refl

  uses-alike : (os : List RegOp) → map (use_sources t g) os ≡ map (use_sources t h) os
  uses-alike [] = refl
  uses-alike (o ∷ os) = λ i. sources-alike o i ∷ uses-alike os i

  -- all others

  renames : (o : RegOp) → (o.implicit ≡ true → IsFixed o.loc) → Renames t h g same-lane same-operand o
  renames o fixed = record {
    def = refl;
    implicit = refl;
    undef = refl;
    lanes = lanes-alike o.loc o.index ∙ sym (lanes-same (operand_lanes t h o));
    widths = widths-alike o.loc o.index;
    others = undefined-alike o ∙ sym (lanes-same (undefined_lanes t h o));
    stays = λ e. refl;
    fixed = fixed;
  }

  abbrev pub AreFixed : List Operand → Type 0
  AreFixed os = (o : RegOp) → Among o (registers os) → o.implicit ≡ true → IsFixed o.loc

  renames-all : (os : List Operand) → AreFixed os → RenamesAll t h g same-lane same-operand os
  renames-all [] n = tt
  renames-all (operands.Reg o ∷ os) n = (renames o (n o here), renames-all os (λ p m. n p (there m)))
  renames-all (operands.Imm z ∷ os) n = renames-all os n
  renames-all (operands.Block z ∷ os) n = renames-all os n
  renames-all (operands.Stack z ∷ os) n = renames-all os n
  renames-all (operands.FixedStack z ∷ os) n = renames-all os n
  renames-all (operands.Symbol z ∷ os) n = renames-all os n
  renames-all (operands.Index z ∷ os) n = renames-all os n
  renames-all (operands.Mask z ∷ os) n = renames-all os n

  module _ (bare : (n m : ℕ) → (way t g n m).phis ≡ []) (i : Instr) (fixed : AreFixed i.operands) (e : Effect) (known : effect_of t i ≡ Some e) where
    abbrev number : ℕ
    number = suc (blocks_sum h.blocks)

    -- a block from which no phi is given anything
    abbrev aside : Block
    aside = record { number = number; name = []; attributes = []; successors = []; liveins = []; instrs = [] }

    same-way : (m : ℕ) → way t g number m ≡ way t h number m
    same-way m = λ k. record { block = m; phis = (bare number m ∙ sym (bare-from t h m)) k }

    by-effect : (f : Function) → item_of t f aside i ≡ effect_item t f aside i e
    unfolding item_of
    by-effect f = ap (λ o. elim o as (λ o. Item) [ None ↦ Silent [] [] | Some x ↦ effect_item t f aside i x ]) known

    module _ (plain : puts_together e ≡ false) where
      same-item : effect_item t g aside i e ≡ effect_item t h aside i e
      same-item =
          sym (by-effect g)
          ∙ (ap (item_of t g aside) (sym (instr-same i))
          ∙ (law_of_renaming t h g same-lane same-operand (record { units = λ u. refl; slots = λ s k w. refl }) aside aside same-way refl i (ap (passes puts_together) known ∙ plain) (renames-all i.operands fixed)
          ∙ (item-same (item_of t h aside i) ∙ by-effect h)))

      abbrev as-silent : Function → Item
      as-silent f = Silent (silent_reads t f e i.operands) (silent_writes t f e (is_early_clobber (roles_of t i)) i.operands)

      abbrev as-counted : Function → Item
      as-counted f = Counted (rest_of t f e i) (map (λ v. v.0) (values t f e i)) (counted_writes t f e i) (option_map (way t f number) (target_of i.operands)) (cond (is_terminator e) (ways_out t f aside) [])

      silent-same : is_silent e ≡ true → as-silent g ≡ as-silent h
      silent-same s = subst (λ y. cond y (as-silent g) (as-counted g) ≡ cond y (as-silent h) (as-counted h)) s same-item

      counted-same : is_silent e ≡ false → as-counted g ≡ as-counted h
      counted-same s = subst (λ y. cond y (as-silent g) (as-counted g) ≡ cond y (as-silent h) (as-counted h)) s same-item

    by : (y : Bool) → puts_together e ≡ y → is_silent e ≡ true → (silent_reads t g e i.operands ≡ silent_reads t h e i.operands) × (silent_writes t g e (is_early_clobber (roles_of t i)) i.operands ≡ silent_writes t h e (is_early_clobber (roles_of t i)) i.operands)
    by false n s = (ap reads_of (silent-same n s), ap writes_of (silent-same n s))
    by true n s = together e n
      where
        together : (x : Effect) → puts_together x ≡ true → (silent_reads t g x i.operands ≡ silent_reads t h x i.operands) × (silent_writes t g x (is_early_clobber (roles_of t i)) i.operands ≡ silent_writes t h x (is_early_clobber (roles_of t i)) i.operands)
        together effects.RegSequence p = (uses-alike (uses i.operands), sequence-alike i.operands)
        together effects.InsertSubreg p = (uses-alike (uses i.operands), insertion-alike i.operands)
        together x p = absurd (cc)

    -- what a silent instruction reads and writes
    pub silent-alike : is_silent e ≡ true → (silent_reads t g e i.operands ≡ silent_reads t h e i.operands) × (silent_writes t g e (is_early_clobber (roles_of t i)) i.operands ≡ silent_writes t h e (is_early_clobber (roles_of t i)) i.operands)
    silent-alike s = by (puts_together e) refl s

    rest-in : Rest → Item → Rest
    rest-in r (BlockStart n) = r
    rest-in r (BlockEnd falls exits) = r
    rest-in r (Silent reads ws) = r
    rest-in r (Counted q reads ws target exits) = q

    not-together : (x : Effect) → is_silent x ≡ false → puts_together x ≡ false
    not-together effects.RegSequence n = absurd (cc)
    not-together effects.InsertSubreg n = absurd (cc)
    not-together x n = refl

    -- what a counted one does, reads and writes
    pub counted-alike : is_silent e ≡ false → (rest_of t g e i ≡ rest_of t h e i) × (map (λ v. v.0) (values t g e i) ≡ map (λ v. v.0) (values t h e i)) × (counted_writes t g e i ≡ counted_writes t h e i)
    unfolding rest-in
    counted-alike s =
        let q = counted-same (not-together e s) s in
        (ap (rest-in (rest_of t g e i)) q, ap reads_of q, ap writes_of q)
