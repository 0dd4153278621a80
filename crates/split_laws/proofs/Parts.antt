-- Instructions whose range is renamed to a part, in a function that has classes for the parts.
use Rattle.std.proofs.Common.{◌≡◌, ◌<◌, ◌++◌, ◌&&◌, ℕ, zero, suc, Bool, true, false, cond, List, [], ◌∷◌, Option, Some, None, map, length, replicate, refl, sym, ap, ◌∙◌, subst, arith, eqb-true}
use Rattle.std.specs.Prelude.{nat_eq, slice_get, slice_index}
use Rattle.target_base.specs.declared.types.ClassId.{ClassId}
use Rattle.target_base.specs.declared.types.IndexId.{IndexId}
use Rattle.target_base.specs.declared.types.Target.{Target}
use Rattle.target_base.specs.declared.types.Unit.{Unit as UnitNumber}
use Rattle.target_base.specs.Registers.{lanes_of, units_of, widths_of_some}
use Rattle.meaning.specs.Live.{Among as Member, here as first, there as later}
use Rattle.meaning.specs.declared.types.Lane.{Lane}
use Rattle.meaning.specs.declared.types.Lane.TheVariants.{UnitLane, VirtualLane}
use Rattle.mir_func.specs.declared.func.Loc.{Loc}
use Rattle.mir_func.specs.declared.func.Loc.TheVariants.{Fixed, Virtual}
use Rattle.mir_func.specs.declared.func.RegOp.{RegOp}
use Rattle.mir_func.specs.declared.func.Operand.{Operand}
use Rattle.mir_func.specs.declared.func.Operand.TheVariants as operands
use Rattle.mir_func.specs.Value.{Function}
use Rattle.mir_func.specs.Binding.{class_of, registers}
use Rattle.mir_meaning.specs.Registers.{located_lanes, located_widths, numbers, operand_lanes, operand_widths, range_widths, undefined_lanes, unit_lanes, whole_lanes}
use Rattle.mir_meaning.specs.Points.{is_range}
use Rattle.mir_meaning.specs.Renaming.{IsFixed, Renames, RenamesAll}
use Rattle.instr_effects.proofs.Tables.{slice-left, slice-right}
use Rattle.split_kit.specs.Split.{as_part, part}
use Rattle.split_laws.proofs.Suits.{IsNamed}
use Rattle.split_laws.proofs.Homes.{home-named, home-own, lane_home}

get-some : {X : Type 0} (xs : List X) (k : ℕ) → k < length xs → (x : X) × (slice_get xs k ≡ Some x)
get-some [] k h = absurd (omega arith)
get-some (x ∷ xs) zero h = (x, refl)
get-some (x ∷ xs) (suc k) h = get-some xs k (omega arith)

get-replicate : {X : Type 0} (n : ℕ) (x : X) (k : ℕ) → k < n → slice_get (replicate n x) k ≡ Some x
get-replicate zero x k h = absurd (omega arith)
get-replicate (suc n) x zero h = refl
get-replicate (suc n) x (suc k) h = get-replicate n x k (omega arith)

virtual-of : (v : ℕ) (l : Loc) → is_range v l ≡ true → l ≡ Virtual v
virtual-of v (Virtual w) e = ap Virtual (sym (eqb-true v w e))
virtual-of v (Fixed r) e = absurd (cc)

map-map : {A B C : Type 0} (g : B → C) (h : A → B) (xs : List A) → map g (map h xs) ≡ map (λ x. g (h x)) xs
map-map g h [] = refl
map-map g h (x ∷ xs) = ap (λ ys. g (h x) ∷ ys) (map-map g h xs)

-- g has the classes of f, and then that of v for each of `count` parts
module _ (t : Target) (f g : Function) (v count : ℕ) (classes : g.classes ≡ f.classes ++ replicate count (class_of f v)) where
  abbrev home : ℕ → Lane → Lane
  home = lane_home f v count

  class-by : Option (Option ClassId) → Option ClassId
  class-by q = elim q [ None ↦ None | Some c ↦ c ]

  pub class-part : (label : ℕ) → label < count → class_of g (part f label) ≡ class_of f v
  unfolding class-by
  class-part label h =
      ap (λ cs. class-by (slice_get cs (part f label))) classes
      ∙ ap class-by (slice-right f.classes (replicate count (class_of f v)) label ∙ get-replicate count (class_of f v) label h)

  pub class-named : (w : ℕ) → w < length f.classes → class_of g w ≡ class_of f w
  unfolding class-by
  class-named w h =
      let z = get-some f.classes w h in
      ap (λ cs. class-by (slice_get cs w)) classes
      ∙ ap class-by (slice-left f.classes (replicate count (class_of f v)) w z.0 z.1 ∙ sym z.1)

  pub widths-part : (label : ℕ) → label < count → range_widths t g (part f label) ≡ range_widths t f v
  widths-part label h = ap (widths_of_some t) (class-part label h)

  widths-named : (w : ℕ) → w < length f.classes → range_widths t g w ≡ range_widths t f w
  widths-named w h = ap (widths_of_some t) (class-named w h)

  module _ (label : ℕ) (fits : label < count) where
    own : (ks : List ℕ) → map (VirtualLane (part f label)) ks ≡ map (home label) (map (VirtualLane v) ks)
    own [] = refl
    own (k ∷ ks) = λ i. VirtualLane (sym (home-own f v count label) i) k ∷ own ks i

    others : (w : ℕ) → nat_eq v w ≡ false → w < length f.classes → (ks : List ℕ) → map (VirtualLane w) ks ≡ map (home label) (map (VirtualLane w) ks)
    others w e h [] = refl
    others w e h (k ∷ ks) = λ i. VirtualLane (sym (home-named f v count label w e h) i) k ∷ others w e h ks i

    units : (us : List UnitNumber) → unit_lanes us ≡ map (home label) (unit_lanes us)
    units [] = refl
    units (u ∷ us) = ap (λ ls. UnitLane u.0 ∷ ls) (units us)

    -- the range itself

    part-lanes : (x : Option IndexId) → located_lanes t g (Virtual (part f label)) x ≡ map (home label) (located_lanes t f (Virtual v) x)
    part-lanes None = ap (λ ws. map (VirtualLane (part f label)) (numbers 0 (length ws))) (widths-part label fits) ∙ own (numbers 0 (length (range_widths t f v)))
    part-lanes (Some x) = own (lanes_of t x)

    part-widths : (x : Option IndexId) → located_widths t g (Virtual (part f label)) x ≡ located_widths t f (Virtual v) x
    part-widths None = widths-part label fits
    part-widths (Some x) = ap (λ ws. map (slice_index ws) (lanes_of t x)) (widths-part label fits)

    -- what is named beside it

    abbrev IsThere : Loc → Type 0
    IsThere l = (w : ℕ) → l ≡ Virtual w → w < length f.classes

    named-lanes : (l : Loc) (x : Option IndexId) → is_range v l ≡ false → IsThere l → located_lanes t g l x ≡ map (home label) (located_lanes t f l x)
    named-lanes (Virtual w) None e h =
        ap (λ ws. map (VirtualLane w) (numbers 0 (length ws))) (widths-named w (h w refl)) ∙ others w e (h w refl) (numbers 0 (length (range_widths t f w)))
    named-lanes (Virtual w) (Some x) e h = others w e (h w refl) (lanes_of t x)
    named-lanes (Fixed r) x e h = units (units_of t r)

    named-widths : (l : Loc) (x : Option IndexId) → IsThere l → located_widths t g l x ≡ located_widths t f l x
    named-widths (Virtual w) None h = widths-named w (h w refl)
    named-widths (Virtual w) (Some x) h = ap (λ ws. map (slice_index ws) (lanes_of t x)) (widths-named w (h w refl))
    named-widths (Fixed r) x h = refl

    named-whole : (l : Loc) → is_range v l ≡ false → IsThere l → whole_lanes t g l ≡ map (home label) (whole_lanes t f l)
    named-whole (Virtual w) e h = named-lanes (Virtual w) None e h
    named-whole (Fixed r) e h = refl

    chosen : (b : Bool) (xs ys : List Lane) → xs ≡ map (home label) ys → cond b xs [] ≡ map (home label) (cond b ys [])
    chosen true xs ys e = e
    chosen false xs ys e = refl

    not-fixed : (l : Loc) → l ≡ Virtual v → IsFixed l → ⊥
    not-fixed l e h = subst IsFixed e h

    renames-by : (o : RegOp) → IsNamed t f o → (b : Bool) → is_range v o.loc ≡ b → Renames t f g (home label) (as_part f v label) o
    renames-by o n true e =
        let loc : o.loc ≡ Virtual v = virtual-of v o.loc e in
        let to : as_part f v label o ≡ record o { loc = Virtual (part f label) } = ap (λ b. cond b (record o { loc = Virtual (part f label) }) o) e in
        record {
          def = ap (λ (p : RegOp). p.def) to;
          implicit = ap (λ (p : RegOp). p.implicit) to;
          undef = ap (λ (p : RegOp). p.undef) to;
          lanes = ap (operand_lanes t g) to ∙ (part-lanes o.index ∙ ap (λ l. map (home label) (located_lanes t f l o.index)) (sym loc));
          widths = ap (operand_widths t g) to ∙ (part-widths o.index ∙ ap (λ l. located_widths t f l o.index) (sym loc));
          others = ap (undefined_lanes t g) to ∙ (chosen (o.def && o.undef) (whole_lanes t g (Virtual (part f label))) (whole_lanes t f (Virtual v)) (part-lanes None) ∙ ap (λ l. map (home label) (cond (o.def && o.undef) (whole_lanes t f l) [])) (sym loc));
          stays = λ i. absurd (not-fixed o.loc loc (n.implicit i));
          fixed = n.implicit;
        }
    renames-by o n false e =
        let to : as_part f v label o ≡ o = ap (λ b. cond b (record o { loc = Virtual (part f label) }) o) e in
        record {
          def = ap (λ (p : RegOp). p.def) to;
          implicit = ap (λ (p : RegOp). p.implicit) to;
          undef = ap (λ (p : RegOp). p.undef) to;
          lanes = ap (operand_lanes t g) to ∙ named-lanes o.loc o.index e n.range;
          widths = ap (operand_widths t g) to ∙ named-widths o.loc o.index n.range;
          others = ap (undefined_lanes t g) to ∙ chosen (o.def && o.undef) (whole_lanes t g o.loc) (whole_lanes t f o.loc) (named-whole o.loc e n.range);
          stays = λ i. to;
          fixed = n.implicit;
        }

    abbrev AreNamed : List Operand → Type 0
    AreNamed os = (o : RegOp) → Member o (registers os) → IsNamed t f o

    pub renames-all : (os : List Operand) → AreNamed os → RenamesAll t f g (home label) (as_part f v label) os
    renames-all [] n = tt
    renames-all (operands.Reg o ∷ os) n = (renames-by o (n o first) (is_range v o.loc) refl, renames-all os (λ p m. n p (later m)))
    renames-all (operands.Imm z ∷ os) n = renames-all os n
    renames-all (operands.Block z ∷ os) n = renames-all os n
    renames-all (operands.Stack z ∷ os) n = renames-all os n
    renames-all (operands.FixedStack z ∷ os) n = renames-all os n
    renames-all (operands.Symbol z ∷ os) n = renames-all os n
    renames-all (operands.Index z ∷ os) n = renames-all os n
    renames-all (operands.Mask z ∷ os) n = renames-all os n
