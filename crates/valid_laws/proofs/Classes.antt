-- Registers in physical form lie in the classes of their roles, have no indexes, and none is virtual.
use Rattle.std.proofs.Common.{◌≡◌, ◌∷◌, ◌∙◌, ◌&&◌, ◌||◌, not, ℕ, Bool, true, false, List, Option, Some, None, refl, sym, ap, subst}
use Rattle.std.specs.Prelude.{option_and_then, option_map, option_to_list, IsSome}
use Rattle.std.specs.List.{list_all, list_any}
use Rattle.target_base.specs.declared.types.ClassId.{ClassId}
use Rattle.target_base.specs.declared.types.Effect.{Effect}
use Rattle.target_base.specs.declared.types.Effect.TheVariants as effects
use Rattle.target_base.specs.declared.types.IndexId.{IndexId}
use Rattle.target_base.specs.declared.types.OpcodeDesc.{OpcodeDesc}
use Rattle.target_base.specs.declared.types.Reg.{Reg}
use Rattle.target_base.specs.declared.types.Target.{Target}
use Rattle.target_base.specs.Numbers.{reg_number}
use Rattle.target_base.specs.Registers.{lanes_of, regs_of}
use Rattle.target_base.specs.Storage.{holds_place, holds_reg, is_unreserved, reg_units, same_numbers, sub_place}
use Rattle.target_base.proofs.Tests.{first_of_both, second_of_both}
use Rattle.meaning.specs.Live.{Among as Member, here as first, there as later}
use Rattle.mir_func.specs.declared.func.Loc.{Loc}
use Rattle.mir_func.specs.declared.func.Loc.TheVariants.{Fixed, Virtual}
use Rattle.mir_func.specs.declared.func.RegOp.{RegOp}
use Rattle.mir_func.specs.declared.func.Operand.{Operand}
use Rattle.mir_func.specs.declared.func.Operand.TheVariants as operands
use Rattle.mir_func.specs.declared.func.Instr.{Instr}
use Rattle.mir_func.specs.declared.func.Block.{Block}
use Rattle.mir_func.specs.Value.{Function}
use Rattle.mir_func.specs.Binding.{Bound, asked_class, bound, class_of as class_in, does, is_lowered_away, is_virtual, known_opcode, passes, registers}
use Rattle.mir_meaning.specs.Registers.{operand_widths}
use Rattle.mir_meaning.specs.Rules.{V2, V3, V4, has_class, has_home, has_lanes, in_operand_class, index_fits, is_opaque, is_reserved_register, is_taken_reserved, lies_in, register_lies_in, same_widths, subregs_fit, takes_reserved, widths_fit}
use Rattle.mir_meaning.specs.Valid.{names_virtual}
use Rattle.instr_effects.proofs.Members.{filter-of}
use Rattle.live_laws.specs.Effects.Shaped.{IsShaped}
use Rattle.live_laws.proofs.Effects.Lists.{all-of}
use Rattle.lowering_laws.proofs.Formed.{all-by, none-by}
use Rattle.join_laws.proofs.Named.{not-phi}
use Rattle.join_laws.proofs.Rules.{all-more, any-map, bound-in}
use Rattle.rewriter.specs.Physical.{Assignment, in_register, part_of, physical_at, physical_form, physical_instr, register_of}
use Rattle.rewrite_laws.specs.Laws.{IsClear}
use Rattle.rewrite_laws.proofs.Operands.{IsNamed, renames, stands}
use Rattle.valid_laws.specs.Rules.{EachMeets, PhysicalClasses, PhysicalIndexes, PhysicalNames, PhysicalWidths, StandsClear}
use Rattle.valid_laws.proofs.Forms.{instr-of}
use Rattle.valid_laws.proofs.Fitting.{AreNamed, each-named, implicit-fixed, lanes-after, lanes-before, not-away, reserved-fixed}
use Rattle.valid_laws.proofs.Moved.{bound-same, move-bound, moved, moves, regs, stays}

second-true : (a b c : Bool) → b ≡ true → (a || b || c) ≡ true
second-true true b c e = refl
second-true false true c e = refl
second-true false false c e = absurd (cc)

third-true : (a b c : Bool) → c ≡ true → (a || b || c) ≡ true
third-true true b c e = refl
third-true false true c e = refl
third-true false false c e = e

by-parts : (x y z x' y' z' : Bool) → x ≡ true → (y ≡ true → y' ≡ true) → (z ≡ true → z' ≡ true) → (not x || y || z) ≡ true → (not x' || y' || z') ≡ true
by-parts false y z x' y' z' p f g e = absurd (cc)
by-parts true true z x' y' z' p f g e = second-true (not x') y' z' (f refl)
by-parts true false z x' y' z' p f g e = third-true (not x') y' z' (g e)

module _ (t : Target) (f g : Function) (rs : Assignment) (clear : IsClear t f rs) where
  abbrev r : RegOp → RegOp
  r = moved t rs

  -- a register lies in the class in which the registers of its class lie

  abbrev lies-at : ClassId → RegOp → Bool
  lies-at k p = register_lies_in t g k p.loc p.index

  lies : (k : ClassId) (o : RegOp) → IsNamed t f rs o → register_lies_in t f k o.loc o.index ≡ true → register_lies_in t g k (r o).loc (r o).index ≡ true
  lies k o n h = go o.loc refl h
    where
      part : (q : Option ℕ) → holds_place (regs_of t k) q ≡ true → lies-at k (in_register o (option_map reg_number q)) ≡ true
      part None e = absurd (cc)
      part (Some p) e = e

      by : (v : ℕ) (q : Option Reg) → register_of rs v ≡ q → IsSome q → (x : Option IndexId) → register_lies_in t f k (Virtual v) x ≡ true → lies-at k (in_register o (part_of t q x)) ≡ true
      by v None e s x h = absurd (cc)
      by v (Some p) e s x h =
          let z = clear.classes v p e in
          let class : class_in f v ≡ Some z.0 = ap (λ q. elim q as (λ q. Option ClassId) [ None ↦ None | Some c ↦ c ]) z.1 in
          let inside : Member p (regs_of t z.0) = (filter-of (is_unreserved t.reserved t.regs) p (regs_of t z.0) z.2).0 in
          at z.0 inside x (sym (ap (passes (λ c. lies_in t k c x)) class) ∙ h)
        where
          at : (c : ClassId) → Member p (regs_of t c) → (x : Option IndexId) → lies_in t k c x ≡ true → lies-at k (in_register o (part_of t (Some p) x)) ≡ true
          at c inside None h = all-of (holds_reg (regs_of t k)) p (regs_of t c) inside h
          at c inside (Some x) h =
              part (sub_place t.regs (reg_units t.regs p) (lanes_of t x)) (all-of (λ q. holds_place (regs_of t k) (sub_place t.regs (reg_units t.regs q) (lanes_of t x))) p (regs_of t c) inside h)

      go : (l : Loc) → o.loc ≡ l → register_lies_in t f k l o.index ≡ true → lies-at k (physical_at t rs o l) ≡ true
      go (Fixed q) e h = ap (λ l. register_lies_in t g k l o.index) e ∙ h
      go (Virtual v) e h = by v (register_of rs v) refl (n.assigned v e) o.index h

  all-lie : (o : RegOp) → IsNamed t f rs o → (ks : List ClassId) → list_all (λ k. register_lies_in t f k o.loc o.index) ks ≡ true → list_all (λ k. register_lies_in t g k (r o).loc (r o).index) ks ≡ true
  all-lie o n ks e = all-by (λ k. register_lies_in t g k (r o).loc (r o).index) ks (λ k m. lies k o n (all-of (λ k. register_lies_in t f k o.loc o.index) k ks m e))

  in-class : (e : Effect) (b : Bound) → ((o : RegOp) → b.1 ≡ operands.Reg o → IsNamed t f rs o) → in_operand_class t f e b ≡ true → in_operand_class t g e (move-bound t rs b) ≡ true
  in-class e (q, operands.Reg o) n h =
      let ks = option_to_list (option_and_then asked_class q) in
      by-parts (has_lanes t f o) (is_taken_reserved t e q o.loc) (list_all (λ k. register_lies_in t f k o.loc o.index) ks)
      (has_lanes t g (r o)) (is_taken_reserved t e q (r o).loc) (list_all (λ k. register_lies_in t g k (r o).loc (r o).index) ks)
      (lanes-before t f g rs clear o (n o refl))
      (λ a. ap (λ (p : RegOp). is_taken_reserved t e q p.loc) (stays t rs o (reserved-fixed t o.loc (second_of_both (is_opaque e && passes takes_reserved q) (is_reserved_register t o.loc) a))) ∙ a)
      (all-lie o (n o refl) ks) h
  in-class e (q, operands.Imm z) n h = h
  in-class e (q, operands.Block z) n h = h
  in-class e (q, operands.Stack z) n h = h
  in-class e (q, operands.FixedStack z) n h = h
  in-class e (q, operands.Symbol z) n h = h
  in-class e (q, operands.Index z) n h = h
  in-class e (q, operands.Mask z) n h = h

  -- what is copied has equal widths

  wide : (d s : RegOp) → IsNamed t f rs d → IsNamed t f rs s → same_widths t f d s ≡ true → same_widths t g (r d) (r s) ≡ true
  wide d s n p h =
      (λ k. not (lanes-after t f g rs clear d n k && lanes-after t f g rs clear s p k) || same_numbers ((renames t f rs clear g d n).widths k) ((renames t f rs clear g s p).widths k))
      ∙ (sym (λ k. not (lanes-before t f g rs clear d n k && lanes-before t f g rs clear s p k) || same_numbers (operand_widths t f d) (operand_widths t f s)) ∙ h)

  home : (d s : RegOp) → IsNamed t f rs d → IsNamed t f rs s → has_home t (r d).loc (r s).loc ≡ true
  home d s n p = let a = stands t f rs clear d n in let b = stands t f rs clear s p in (λ k. has_home t (a.1 k) (b.1 k))

  fit-widths : (e : Effect) (os : List Operand) → AreNamed t f g rs clear os → is_lowered_away e ≡ false → widths_fit t f e os ≡ true → widths_fit t g e (moves t rs os) ≡ true
  fit-widths effects.Copy (operands.Reg d ∷ operands.Reg s ∷ os) n l h =
      let nd = n d first in
      let ns = n s (later first) in
      λ k. wide d s nd ns (first_of_both (same_widths t f d s) (has_home t d.loc s.loc) (first_of_both (same_widths t f d s && has_home t d.loc s.loc) (has_home t s.loc d.loc) h)) k && home d s nd ns k && home s d ns nd k
  fit-widths effects.Copy os n l h = h
  fit-widths effects.Phi os n l h = absurd (cc)
  fit-widths effects.RegSequence os n l h = absurd (cc)
  fit-widths effects.InsertSubreg os n l h = absurd (cc)
  fit-widths e os n l h = h

  -- an operand has no index, and is physical

  abbrev fits-at : RegOp → Bool
  fits-at p = index_fits t g p.loc p.index

  index-fits : (o : RegOp) → IsNamed t f rs o → index_fits t g (r o).loc (r o).index ≡ true
  index-fits o n = go o.loc refl n.index
    where
      place : (q : Reg) × ((r o).loc ≡ Fixed q)
      place = stands t f rs clear o n

      by : (v : ℕ) (q : Option Reg) → o.loc ≡ Virtual v → (in_register o q).loc ≡ Fixed place.0 → fits-at (in_register o q) ≡ true
      by v None e s = absurd (let z : Virtual v ≡ Fixed place.0 = sym e ∙ s in cc)
      by v (Some q) e s = refl

      go : (l : Loc) → o.loc ≡ l → index_fits t f l o.index ≡ true → fits-at (physical_at t rs o l) ≡ true
      go (Fixed q) e h = ap (λ l. index_fits t g l o.index) e ∙ h
      go (Virtual v) e h = by v (part_of t (register_of rs v) o.index) e (sym (ap (λ l. (physical_at t rs o l).loc) e) ∙ place.1)

  classed : (o : RegOp) → IsNamed t f rs o → has_class g (r o).loc ≡ true
  classed o n = let z = stands t f rs clear o n in ap (has_class g) z.1

  real : (o : RegOp) → IsNamed t f rs o → is_virtual (r o).loc ≡ false
  real o n = let z = stands t f rs clear o n in ap is_virtual z.1

  module _ (i : Instr) (names : AreNamed t f g rs clear i.operands) (lowered : does is_lowered_away t i ≡ false) (shaped : IsShaped t f i) (n : ℕ) where
    abbrev x : Instr
    x = record (physical_instr t rs i) { id = n }

    pub two : V2 t g x ≡ true
    unfolding V2
    two = by (known_opcode t i.op) lowered shaped.widths
      where
        by : (q : Option OpcodeDesc) → passes is_lowered_away (option_map (λ d. d.effect) q) ≡ false
            → elim q as (λ q. Bool) [ None ↦ true | Some d ↦ list_all (in_operand_class t f d.effect) (bound t i) && widths_fit t f d.effect i.operands ] ≡ true
            → elim q as (λ q. Bool) [ None ↦ true | Some d ↦ list_all (in_operand_class t g d.effect) (bound t x) && widths_fit t g d.effect (moves t rs i.operands) ] ≡ true
        by None l e = refl
        by (Some d) l e =
            let classes = first_of_both (list_all (in_operand_class t f d.effect) (bound t i)) (widths_fit t f d.effect i.operands) e in
            let widths = second_of_both (list_all (in_operand_class t f d.effect) (bound t i)) (widths_fit t f d.effect i.operands) e in
            λ k. (ap (list_all (in_operand_class t g d.effect)) (bound-same t rs i (implicit-fixed t f g rs clear i.operands names))
            ∙ all-more (in_operand_class t g d.effect) (move-bound t rs) (bound t i) (λ b m. in-class d.effect b (λ o q. names o (bound-in t i b m o q)) (all-of (in_operand_class t f d.effect) b (bound t i) m classes))) k
            && fit-widths d.effect i.operands names l widths k

    pub three : V3 g x ≡ true
    unfolding V3
    three = ap (list_all (λ (o : RegOp). has_class g o.loc)) (regs t rs i.operands) ∙ all-more (λ (o : RegOp). has_class g o.loc) r (registers i.operands) (λ o m. classed o (names o m))

    pub four : V4 t g x ≡ true
    unfolding V4
    four =
        λ k. (ap (list_all (λ (o : RegOp). index_fits t g o.loc o.index)) (regs t rs i.operands) ∙ all-more (λ (o : RegOp). index_fits t g o.loc o.index) r (registers i.operands) (λ o m. index-fits o (names o m))) k
        && (not ((not-phi t i lowered).1 k) || subregs_fit t g (moves t rs i.operands))

    pub none-virtual : list_any (λ (o : RegOp). is_virtual o.loc) (registers x.operands) ≡ false
    none-virtual =
        ap (list_any (λ (o : RegOp). is_virtual o.loc)) (regs t rs i.operands)
        ∙ (any-map (λ (o : RegOp). is_virtual o.loc) (λ (o : RegOp). is_virtual (r o).loc) r (λ o. refl) (registers i.operands) ∙ none-by (λ (o : RegOp). is_virtual (r o).loc) (registers i.operands) (λ o m. real o (names o m)))

module _ (t : Target) (f : Function) (rs : Assignment) (slots : List (ℕ × ClassId)) (live : ℕ → ℕ → Bool) (stand : StandsClear t f rs) where
  abbrev h : Function
  h = physical_form t rs slots live f

  -- what holds of each instruction in physical form
  pub each-made : (rule : Function → Instr → Bool)
      → ((b : Block) (i : Instr) → Member b f.blocks → Member i b.instrs → AreNamed t f h rs stand.clear i.operands → does is_lowered_away t i ≡ false → IsShaped t f i → (n : ℕ) → rule h (record (physical_instr t rs i) { id = n }) ≡ true)
      → EachMeets rule h
  each-made rule by c x mc mx =
      let z = instr-of t rs slots live f c x mc mx in
      let i = z.2.instr in
      subst (λ y. rule h y ≡ true) (sym z.2.is)
      (by z.0 i z.1 z.2.inside (each-named t f rs stand z.0 i z.1 z.2.inside) (not-away t f rs stand z.0 i z.1 z.2.inside) (stand.lowered.rules.shaped z.0 i z.1 z.2.inside) z.2.id)

pub physical-widths : PhysicalWidths
physical-widths t f rs slots live stand = each-made t f rs slots live stand (λ g x. V2 t g x) (λ b i mb mi names away shaped n. two t f (physical_form t rs slots live f) rs stand.clear i names away shaped n)

pub physical-classes : PhysicalClasses
physical-classes t f rs slots live stand = each-made t f rs slots live stand V3 (λ b i mb mi names away shaped n. three t f (physical_form t rs slots live f) rs stand.clear i names away shaped n)

pub physical-indexes : PhysicalIndexes
physical-indexes t f rs slots live stand = each-made t f rs slots live stand (λ g x. V4 t g x) (λ b i mb mi names away shaped n. four t f (physical_form t rs slots live f) rs stand.clear i names away shaped n)

pub physical-names : PhysicalNames
physical-names t f rs slots live stand =
    none-by names_virtual (physical_form t rs slots live f).blocks (λ c mc. none-by (λ (i : Instr). list_any (λ (o : RegOp). is_virtual o.loc) (registers i.operands)) c.instrs (λ x mx.
    let z = instr-of t rs slots live f c x mc mx in
    let i = z.2.instr in
    subst (λ (y : Instr). list_any (λ (o : RegOp). is_virtual o.loc) (registers y.operands) ≡ false) (sym z.2.is)
    (none-virtual t f (physical_form t rs slots live f) rs stand.clear i (each-named t f rs stand z.0 i z.1 z.2.inside) (not-away t f rs stand z.0 i z.1 z.2.inside) (stand.lowered.rules.shaped z.0 i z.1 z.2.inside) z.2.id)))
