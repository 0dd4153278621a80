-- Where lanes go, and operands in physical form: their lanes are the images of those that they had, with the same widths.
use Rattle.std.proofs.Common.{◌≡◌, ◌∷◌, ◌∙◌, ◌&&◌, ℕ, Bool, true, false, cond, List, [], Option, Some, None, map, length, refl, sym, ap, subst}
use Rattle.std.specs.Prelude.{slice_get, slice_index, IsSome}
use Rattle.target_base.specs.declared.types.ClassId.{ClassId}
use Rattle.target_base.specs.declared.types.IndexId.{IndexId}
use Rattle.target_base.specs.declared.types.Reg.{Reg}
use Rattle.target_base.specs.declared.types.Target.{Target}
use Rattle.target_base.specs.declared.types.Unit.{Unit as UnitNumber}
use Rattle.target_base.specs.Registers.{fits, lanes_of, regs_of, units_of, widths_of_some}
use Rattle.target_base.specs.Storage.{is_unreserved, unit_width, widths}
use Rattle.meaning.specs.Live.{Among as Member}
use Rattle.meaning.specs.declared.types.Lane.{Lane}
use Rattle.meaning.specs.declared.types.Lane.TheVariants.{UnitLane, VirtualLane}
use Rattle.mir_func.specs.declared.func.Loc.{Loc}
use Rattle.mir_func.specs.declared.func.Loc.TheVariants.{Fixed, Virtual}
use Rattle.mir_func.specs.declared.func.RegOp.{RegOp}
use Rattle.mir_func.specs.Value.{Function}
use Rattle.mir_func.specs.Binding.{class_of}
use Rattle.mir_meaning.specs.Registers.{located_lanes, located_widths, numbers, operand_lanes, operand_widths, range_widths, undefined_lanes, unit_lanes, whole_lanes}
use Rattle.mir_meaning.specs.Renaming.{IsFixed, KeepsPlaces, Renames}
use Rattle.mir_meaning.specs.Rules.{index_fits}
use Rattle.instr_effects.proofs.Members.{filter-of}
use Rattle.join_laws.proofs.Operands.{length-map, map-map}
use Rattle.rewriter.specs.Physical.{Assignment, in_register, part_of, physical_at, register_of}
use Rattle.rewrite_laws.specs.Laws.{IsClear}
use Rattle.rewrite_laws.proofs.Units.{all-places, mapped-at, part-there, picked-places, widths-in-class}

-- the lane of a unit; where there is none, the lane that was
abbrev pub unit_or : Lane → Option UnitNumber → Lane
unit_or l None = l
unit_or l (Some u) = UnitLane u.0

-- the lane of the k-th unit of a register
abbrev pub lane_in : Target → Lane → ℕ → Option Reg → Lane
lane_in t l k None = l
lane_in t l k (Some r) = unit_or l (slice_get (units_of t r) k)

-- where lanes go: that of a range to the unit of its register, where it has one; all others stay
abbrev pub image : Target → Assignment → Lane → Lane
image t rs (VirtualLane v k) = lane_in t (VirtualLane v k) k (register_of rs v)
image t rs l = l

pub keeps-places : (t : Target) (rs : Assignment) → KeepsPlaces (image t rs)
keeps-places t rs = record { units = λ u. refl; slots = λ s k w. refl }

-- the lane goes to that unit
pub goes-to : (t : Target) (rs : Assignment) (v k : ℕ) (r : Reg) (u : UnitNumber) → register_of rs v ≡ Some r → slice_get (units_of t r) k ≡ Some u → image t rs (VirtualLane v k) ≡ UnitLane u.0
goes-to t rs v k r u e g = ap (lane_in t (VirtualLane v k) k) e ∙ ap (unit_or (VirtualLane v k)) g

units-stay : (t : Target) (rs : Assignment) (us : List UnitNumber) → unit_lanes us ≡ map (image t rs) (unit_lanes us)
units-stay t rs [] = refl
units-stay t rs (u ∷ us) = ap (λ ls. UnitLane u.0 ∷ ls) (units-stay t rs us)

-- The operand's index fits its register; an implicit one is physical, no definition is `undef`, and a range has a register.
pub record IsNamed (t : Target) (f : Function) (rs : Assignment) (o : RegOp) : Type 0 where
  pub index : index_fits t f o.loc o.index ≡ true
  pub fixed : o.implicit ≡ true → IsFixed o.loc
  pub plain : (o.def && o.undef) ≡ false
  pub assigned : (v : ℕ) → o.loc ≡ Virtual v → IsSome (register_of rs v)

module _ (t : Target) (f : Function) (rs : Assignment) (clear : IsClear t f rs) where
  abbrev m : Lane → Lane
  m = image t rs

  -- the register in which lanes of a range stand
  record IsPlaced (v : ℕ) (x : Option IndexId) (q : Reg) : Type 0 where
    pub part : part_of t (register_of rs v) x ≡ Some q
    pub lanes : unit_lanes (units_of t q) ≡ map m (located_lanes t f (Virtual v) x)
    pub widths : widths t.units (units_of t q) ≡ located_widths t f (Virtual v) x

  module _ (v : ℕ) (r : Reg) (e : register_of rs v ≡ Some r) where
    abbrev us : List UnitNumber
    us = units_of t r

    abbrev c : ClassId
    c = (clear.classes v r e).0

    class-is : class_of f v ≡ Some c
    class-is = ap (λ q. elim q as (λ q. Option ClassId) [ None ↦ None | Some c ↦ c ]) (clear.classes v r e).1

    inside : Member r (regs_of t c)
    inside = (filter-of (is_unreserved t.reserved t.regs) r (regs_of t c) (clear.classes v r e).2).0

    own-widths : widths t.units us ≡ range_widths t f v
    own-widths = widths-in-class t c r inside ∙ sym (ap (widths_of_some t) class-is)

    lane-at : (k : ℕ) (u : UnitNumber) → slice_get us k ≡ Some u → m (VirtualLane v k) ≡ UnitLane u.0
    lane-at k u g = goes-to t rs v k r u e g

    width-at : (k : ℕ) (u : UnitNumber) → slice_get us k ≡ Some u → slice_index (range_widths t f v) k ≡ unit_width t.units u
    width-at k u g = ap (λ ws. slice_index ws k) (sym own-widths) ∙ mapped-at (unit_width t.units) us k u g

    whole : IsPlaced v None r
    whole = record {
      part = ap (λ o. part_of t o None) e;
      lanes = sym
          (map-map m (VirtualLane v) (numbers 0 (length (range_widths t f v)))
          ∙ (ap (λ n. map (λ k. m (VirtualLane v k)) (numbers 0 n)) (sym (ap length own-widths) ∙ length-map (unit_width t.units) us)
          ∙ all-places (λ k. m (VirtualLane v k)) (λ (u : UnitNumber). UnitLane u.0) us lane-at));
      widths = own-widths;
    }

    part-at : (x : IndexId) → index_fits t f (Virtual v) (Some x) ≡ true → (q : Reg) × IsPlaced v (Some x) q
    part-at x h =
        let fit : fits t c (Some x) ≡ true = sym (ap (λ q. elim q as (λ q. Bool) [ None ↦ true | Some k ↦ fits t k (Some x) ]) class-is) ∙ h in
        let z = part-there t c x r inside fit in (
          z.0,
          record {
            part = ap (λ o. part_of t o (Some x)) e ∙ z.1.is;
            lanes = sym (map-map m (VirtualLane v) (lanes_of t x) ∙ picked-places (λ k. m (VirtualLane v k)) (λ (u : UnitNumber). UnitLane u.0) us (lanes_of t x) (units_of t z.0) z.1.picked lane-at);
            widths = sym (picked-places (slice_index (range_widths t f v)) (unit_width t.units) us (lanes_of t x) (units_of t z.0) z.1.picked width-at);
          },
        )

  placed : (v : ℕ) (x : Option IndexId) → IsSome (register_of rs v) → index_fits t f (Virtual v) x ≡ true → (q : Reg) × IsPlaced v x q
  placed v x s h = go (register_of rs v) refl s x h
    where
      go : (o : Option Reg) → register_of rs v ≡ o → IsSome o → (x : Option IndexId) → index_fits t f (Virtual v) x ≡ true → (q : Reg) × IsPlaced v x q
      go None e s x h = absurd (cc)
      go (Some r) e s None h = (r, whole v r e)
      go (Some r) e s (Some x) h = part-at v r e x h

  abbrev r : RegOp → RegOp
  r o = physical_at t rs o o.loc

  -- an operand stands in a physical register
  pub stands : (o : RegOp) → IsNamed t f rs o → (q : Reg) × ((r o).loc ≡ Fixed q)
  stands o n = go o.loc refl
    where
      go : (l : Loc) → o.loc ≡ l → (q : Reg) × ((r o).loc ≡ Fixed q)
      go (Virtual v) e =
          let z = placed v o.index (n.assigned v e) (subst (λ l. index_fits t f l o.index ≡ true) e n.index) in
          (z.0, ap (λ (p : RegOp). p.loc) (ap (physical_at t rs o) e ∙ ap (in_register o) z.1.part))
      go (Fixed q) e = (q, ap (λ (p : RegOp). p.loc) (ap (physical_at t rs o) e) ∙ e)

  module _ (g : Function) (o : RegOp) (n : IsNamed t f rs o) where
    no-others : (h : Function) (q : RegOp) → q.def ≡ o.def → q.undef ≡ o.undef → undefined_lanes t h q ≡ []
    no-others h q d u = (λ i. cond (d i && u i) (whole_lanes t h q.loc) []) ∙ (λ i. cond (n.plain i) (whole_lanes t h q.loc) [])

    pub renames : Renames t f g m r o
    renames = go o.loc refl
      where
        others : (r o).def ≡ o.def → (r o).undef ≡ o.undef → undefined_lanes t g (r o) ≡ map m (undefined_lanes t f o)
        others d u = no-others g (r o) d u ∙ sym (ap (map m) (no-others f o refl refl))

        go : (l : Loc) → o.loc ≡ l → Renames t f g m r o
        go (Virtual v) e =
            let z = placed v o.index (n.assigned v e) (subst (λ l. index_fits t f l o.index ≡ true) e n.index) in
            let to : r o ≡ in_register o (Some z.0) = ap (physical_at t rs o) e ∙ ap (in_register o) z.1.part in
            record {
              def = ap (λ (p : RegOp). p.def) to;
              implicit = ap (λ (p : RegOp). p.implicit) to;
              undef = ap (λ (p : RegOp). p.undef) to;
              lanes = ap (operand_lanes t g) to ∙ (z.1.lanes ∙ ap (λ l. map m (located_lanes t f l o.index)) (sym e));
              widths = ap (operand_widths t g) to ∙ (z.1.widths ∙ ap (λ l. located_widths t f l o.index) (sym e));
              others = others (ap (λ (p : RegOp). p.def) to) (ap (λ (p : RegOp). p.undef) to);
              stays = λ i. absurd (let z = subst IsFixed e (n.fixed i) in z);
              fixed = n.fixed;
            }
        go (Fixed q) e =
            let to : r o ≡ o = ap (physical_at t rs o) e in
            record {
              def = ap (λ (p : RegOp). p.def) to;
              implicit = ap (λ (p : RegOp). p.implicit) to;
              undef = ap (λ (p : RegOp). p.undef) to;
              lanes = ap (operand_lanes t g) to ∙ (ap (λ l. located_lanes t g l o.index) e ∙ (units-stay t rs (units_of t q) ∙ ap (λ l. map m (located_lanes t f l o.index)) (sym e)));
              widths = ap (operand_widths t g) to ∙ (ap (λ l. located_widths t g l o.index) e ∙ ap (λ l. located_widths t f l o.index) (sym e));
              others = others (ap (λ (p : RegOp). p.def) to) (ap (λ (p : RegOp). p.undef) to);
              stays = λ i. to;
              fixed = n.fixed;
            }
