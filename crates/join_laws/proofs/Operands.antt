-- An operand after a join: its lanes are the images of those that it had, and it fits as it did.
use Rattle.std.proofs.Common.{◌≡◌, ◌∷◌, ◌∙◌, ◌&&◌, ℕ, zero, suc, Bool, true, false, cond, List, [], Option, Some, None, map, length, refl, sym, ap, subst, eqb-true, eq-eqb}
use Rattle.std.specs.Prelude.{is_some, nat_eq, slice_index}
use Rattle.target_base.specs.declared.types.ClassId.{ClassId}
use Rattle.target_base.specs.declared.types.IndexId.{IndexId}
use Rattle.target_base.specs.declared.types.Reg.{Reg}
use Rattle.target_base.specs.declared.types.Target.{Target}
use Rattle.target_base.specs.declared.types.Unit.{Unit as UnitNumber}
use Rattle.target_base.specs.Registers.{fits, lanes_of, regs_of, units_of}
use Rattle.target_base.specs.Rules.{regs_of_some}
use Rattle.target_base.specs.Storage.{holds_place, holds_reg, holds_subs, is_within, lanes_fit, reg_units, sub_place}
use Rattle.meaning.specs.declared.types.Lane.{Lane}
use Rattle.meaning.specs.declared.types.Lane.TheVariants.{UnitLane, VirtualLane}
use Rattle.mir_func.specs.declared.func.Loc.{Loc}
use Rattle.mir_func.specs.declared.func.Loc.TheVariants.{Fixed, Virtual}
use Rattle.mir_func.specs.declared.func.RegOp.{RegOp}
use Rattle.mir_func.specs.Value.{Function}
use Rattle.mir_func.specs.Binding.{class_of, passes}
use Rattle.mir_meaning.specs.Points.{is_range}
use Rattle.mir_meaning.specs.Registers.{located_lanes, located_widths, numbers, operand_lanes, operand_widths, range_widths, undefined_lanes, unit_lanes, whole_lanes}
use Rattle.mir_meaning.specs.Renaming.{IsFixed, Renames}
use Rattle.mir_meaning.specs.Rules.{has_class, has_lanes, has_lanes_at, index_fits, lies_in, register_lies_in}
use Rattle.live_edits.specs.declared.fold.Join.{Join}
use Rattle.live_edits.specs.Folded.{composed, folded, image, index_within, joined_operand, lane_within, registers_of}
use Rattle.join_laws.specs.Joined.{fits_range}
use Rattle.join_laws.proofs.Asked.{IsAsked, same-not}
use Rattle.join_laws.proofs.Subsets.{all-within, composed-lanes, picked-lanes, picked-mapped, subs-composed, subs-fit, subs-within}
use Rattle.join_laws.proofs.Widths.{class-there, fewer, fewer-whole, widths-after}

-- The operand's register has a class, which its index fits; an implicit one is physical, and no definition is `undef`. An index
-- of the range that goes fits within the lanes that it becomes.
pub record IsNamed (t : Target) (f : Function) (j : Join) (o : RegOp) : Type 0 where
  pub class : has_class f o.loc ≡ true
  pub index : index_fits t f o.loc o.index ≡ true
  pub fixed : o.implicit ≡ true → IsFixed o.loc
  pub plain : (o.def && o.undef) ≡ false
  pub within : is_range j.gone o.loc ≡ true → (x z : IndexId) → j.index ≡ Some x → o.index ≡ Some z → fits_range t f j.keep (composed t x z) ≡ true

pub range-is : (v : ℕ) (l : Loc) → is_range v l ≡ true → l ≡ Virtual v
range-is v (Virtual w) e = ap Virtual (sym (eqb-true v w e))
range-is v (Fixed r) e = absurd (cc)

map-same : (h : ℕ → ℕ) → ((k : ℕ) → h k ≡ k) → (ks : List ℕ) → map h ks ≡ ks
map-same h e [] = refl
map-same h e (k ∷ ks) = λ i. e k i ∷ map-same h e ks i

pub map-map : {A B C : Type 0} (g : B → C) (h : A → B) (xs : List A) → map g (map h xs) ≡ map (λ x. g (h x)) xs
map-map g h [] = refl
map-map g h (x ∷ xs) = ap (λ ys. g (h x) ∷ ys) (map-map g h xs)

pub length-map : {A B : Type 0} (h : A → B) (xs : List A) → length (map h xs) ≡ length xs
length-map h [] = refl
length-map h (x ∷ xs) = ap suc (length-map h xs)

-- all places of a list, one after the other
numbers-on : {X : Type 0} (h : ℕ → X) (n k : ℕ) → map h (numbers (suc n) k) ≡ map (λ i. h (suc i)) (numbers n k)
numbers-on h n zero = refl
numbers-on h n (suc k) = ap (λ xs. h (suc n) ∷ xs) (numbers-on h (suc n) k)

all-places : (xs : List ℕ) → map (slice_index xs) (numbers 0 (length xs)) ≡ xs
all-places [] = refl
all-places (x ∷ xs) = ap (λ ys. x ∷ ys) (numbers-on (slice_index (x ∷ xs)) 0 (length xs) ∙ all-places xs)

-- what is said of a register by the registers of its class
module _ (t : Target) where
  abbrev fit_by : List Reg → Option IndexId → Bool
  fit_by rs None = true
  fit_by rs (Some x) = lanes_fit t.regs (lanes_of t x) rs

  abbrev lie_by : ClassId → List Reg → Option IndexId → Bool
  lie_by k rs None = is_within rs (regs_of t k)
  lie_by k rs (Some x) = holds_subs t.regs (lanes_of t x) rs (regs_of t k)

  index-by : (h : Function) (v : ℕ) (x : Option IndexId) → is_some (class_of h v) ≡ true → index_fits t h (Virtual v) x ≡ fit_by (registers_of t h v) x
  index-by h v x s = go (class_of h v) s x
    where
      go : (q : Option ClassId) → is_some q ≡ true → (x : Option IndexId) → elim q as (λ q. Bool) [ None ↦ true | Some c ↦ fits t c x ] ≡ fit_by (regs_of_some t.classes q) x
      go None s x = absurd (cc)
      go (Some c) s None = refl
      go (Some c) s (Some x) = refl

  lies-by : (h : Function) (k : ClassId) (v : ℕ) (x : Option IndexId) → is_some (class_of h v) ≡ true → register_lies_in t h k (Virtual v) x ≡ lie_by k (registers_of t h v) x
  lies-by h k v x s = go (class_of h v) s x
    where
      go : (q : Option ClassId) → is_some q ≡ true → (x : Option IndexId) → passes (λ c. lies_in t k c x) q ≡ lie_by k (regs_of_some t.classes q) x
      go None s x = absurd (cc)
      go (Some c) s None = refl
      go (Some c) s (Some x) = refl

  fit-fewer : (rs qs : List Reg) (x : Option IndexId) → is_within rs qs ≡ true → fit_by qs x ≡ true → fit_by rs x ≡ true
  fit-fewer rs qs None w e = refl
  fit-fewer rs qs (Some x) w e = all-within (λ r. is_some (sub_place t.regs (reg_units t.regs r) (lanes_of t x))) rs qs w e

  lie-fewer : (k : ClassId) (rs qs : List Reg) (x : Option IndexId) → is_within rs qs ≡ true → lie_by k qs x ≡ true → lie_by k rs x ≡ true
  lie-fewer k rs qs None w e = all-within (holds_reg (regs_of t k)) rs qs w e
  lie-fewer k rs qs (Some x) w e = all-within (λ r. holds_place (regs_of t k) (sub_place t.regs (reg_units t.regs r) (lanes_of t x))) rs qs w e

module _ (t : Target) (f : Function) (j : Join) (a : IsAsked t f j) where
  abbrev g : Function
  g = folded t j f

  abbrev m : Lane → Lane
  m = image t j

  abbrev r : RegOp → RegOp
  r = joined_operand t j

  -- an index of the range that goes
  abbrev Within : Option IndexId → Type 0
  Within y = (x z : IndexId) → j.index ≡ Some x → y ≡ Some z → fits_range t f j.keep (composed t x z) ≡ true

  -- lanes of the range that goes

  own-lanes : (ks : List ℕ) → map m (map (VirtualLane j.gone) ks) ≡ map (VirtualLane j.keep) (map (lane_within t j.index) ks)
  own-lanes [] = refl
  own-lanes (k ∷ ks) = λ i. cond (eq-eqb j.gone j.gone refl i) (VirtualLane j.keep (lane_within t j.index k)) (VirtualLane j.gone k) ∷ own-lanes ks i

  abbrev lane-numbers : Option IndexId → List ℕ
  lane-numbers None = numbers 0 (length (range_widths t f j.gone))
  lane-numbers (Some z) = lanes_of t z

  kept-widths : j.index ≡ None → range_widths t g j.keep ≡ range_widths t f j.gone
  kept-widths e = widths-after t f j a j.keep ∙ sym (a.whole e).widths

  lanes-at : (x : Option IndexId) → j.index ≡ x → (y : Option IndexId) → Within y → located_lanes t g (Virtual j.keep) (index_within t x y) ≡ map (VirtualLane j.keep) (map (lane_within t x) (lane-numbers y))
  lanes-at None e None w = (λ i. map (VirtualLane j.keep) (numbers 0 (length (kept-widths e i)))) ∙ ap (map (VirtualLane j.keep)) (sym (map-same (lane_within t None) (λ k. refl) (numbers 0 (length (range_widths t f j.gone)))))
  lanes-at None e (Some z) w = ap (map (VirtualLane j.keep)) (sym (map-same (lane_within t None) (λ k. refl) (lanes_of t z)))
  lanes-at (Some x) e None w =
      ap (map (VirtualLane j.keep))
      (sym (ap (λ n. map (slice_index (lanes_of t x)) (numbers 0 n)) (ap length (a.part x e).widths ∙ length-map (slice_index (range_widths t f j.keep)) (lanes_of t x)) ∙ all-places (lanes_of t x)))
  lanes-at (Some x) e (Some z) w = go (composed t x z) refl (w x z e refl)
    where
      go : (q : Option IndexId) → composed t x z ≡ q → fits_range t f j.keep q ≡ true → located_lanes t g (Virtual j.keep) q ≡ map (VirtualLane j.keep) (map (slice_index (lanes_of t x)) (lanes_of t z))
      go None h p = absurd (cc)
      go (Some d) h p = ap (map (VirtualLane j.keep)) (picked-lanes (lanes_of t x) (lanes_of t z) (lanes_of t d) (composed-lanes t x z d h))

  gone-lanes : (y : Option IndexId) → Within y → located_lanes t g (Virtual j.keep) (index_within t j.index y) ≡ map m (located_lanes t f (Virtual j.gone) y)
  gone-lanes None w = lanes-at j.index refl None w ∙ sym (own-lanes (numbers 0 (length (range_widths t f j.gone))))
  gone-lanes (Some z) w = lanes-at j.index refl (Some z) w ∙ sym (own-lanes (lanes_of t z))

  widths-at : (x : Option IndexId) → j.index ≡ x → (y : Option IndexId) → Within y → located_widths t g (Virtual j.keep) (index_within t x y) ≡ located_widths t f (Virtual j.gone) y
  widths-at None e None w = kept-widths e
  widths-at None e (Some z) w = ap (λ ws. map (slice_index ws) (lanes_of t z)) (kept-widths e)
  widths-at (Some x) e None w = ap (λ ws. map (slice_index ws) (lanes_of t x)) (widths-after t f j a j.keep) ∙ sym (a.part x e).widths
  widths-at (Some x) e (Some z) w = go (composed t x z) refl (w x z e refl)
    where
      go : (q : Option IndexId) → composed t x z ≡ q → fits_range t f j.keep q ≡ true → located_widths t g (Virtual j.keep) q ≡ map (slice_index (range_widths t f j.gone)) (lanes_of t z)
      go None h p = absurd (cc)
      go (Some d) h p =
          ap (λ ws. map (slice_index ws) (lanes_of t d)) (widths-after t f j a j.keep)
          ∙ (picked-mapped (slice_index (range_widths t f j.keep)) (lanes_of t x) (lanes_of t z) (lanes_of t d) (composed-lanes t x z d h)
          ∙ ap (λ ws. map (slice_index ws) (lanes_of t z)) (sym (a.part x e).widths))

  -- lanes of other registers

  other-lanes : (v : ℕ) → nat_eq v j.gone ≡ false → (ks : List ℕ) → map (VirtualLane v) ks ≡ map m (map (VirtualLane v) ks)
  other-lanes v e [] = refl
  other-lanes v e (k ∷ ks) = λ i. cond (sym e i) (VirtualLane j.keep (lane_within t j.index k)) (VirtualLane v k) ∷ other-lanes v e ks i

  units-stay : (us : List UnitNumber) → unit_lanes us ≡ map m (unit_lanes us)
  units-stay [] = refl
  units-stay (u ∷ us) = ap (λ ls. UnitLane u.0 ∷ ls) (units-stay us)

  named-lanes : (l : Loc) (x : Option IndexId) → is_range j.gone l ≡ false → located_lanes t g l x ≡ map m (located_lanes t f l x)
  named-lanes (Virtual v) None e = (λ i. map (VirtualLane v) (numbers 0 (length (widths-after t f j a v i)))) ∙ other-lanes v (same-not j.gone v e) (numbers 0 (length (range_widths t f v)))
  named-lanes (Virtual v) (Some x) e = other-lanes v (same-not j.gone v e) (lanes_of t x)
  named-lanes (Fixed q) x e = units-stay (units_of t q)

  named-widths : (l : Loc) (x : Option IndexId) → located_widths t g l x ≡ located_widths t f l x
  named-widths (Virtual v) None = widths-after t f j a v
  named-widths (Virtual v) (Some x) = ap (λ ws. map (slice_index ws) (lanes_of t x)) (widths-after t f j a v)
  named-widths (Fixed q) x = refl

  -- the operand

  abbrev stands : RegOp → RegOp
  stands o = record o { loc = Virtual j.keep; index = index_within t j.index o.index }

  pub field-stays : {X : Type 0} (P : RegOp → X) → (o : RegOp) → P (stands o) ≡ P o → P (r o) ≡ P o
  field-stays P o h = go (is_range j.gone o.loc)
    where
      go : (u : Bool) → P (cond u (stands o) o) ≡ P o
      go true = h
      go false = refl

  -- what is the same of all ranges is the same of its register
  pub place-stays : {X : Type 0} (P : Loc → X) → ((v w : ℕ) → P (Virtual v) ≡ P (Virtual w)) → (o : RegOp) → P (r o).loc ≡ P o.loc
  place-stays P h o = go o.loc
    where
      go : (l : Loc) → P (cond (is_range j.gone l) (record o { loc = Virtual j.keep; index = index_within t j.index o.index }) (record o { loc = l })).loc ≡ P l
      go (Virtual w) = by (nat_eq j.gone w)
        where
          by : (u : Bool) → P (cond u (record o { loc = Virtual j.keep; index = index_within t j.index o.index }) (record o { loc = Virtual w })).loc ≡ P (Virtual w)
          by true = h j.keep w
          by false = refl
      go (Fixed q) = refl

  module _ (o : RegOp) (n : IsNamed t f j o) where
    no-others : (h : Function) (q : RegOp) → q.def ≡ o.def → q.undef ≡ o.undef → undefined_lanes t h q ≡ []
    no-others h q d u = (λ i. cond (d i && u i) (whole_lanes t h q.loc) []) ∙ (λ i. cond (n.plain i) (whole_lanes t h q.loc) [])

    not-fixed : o.loc ≡ Virtual j.gone → IsFixed o.loc → ⊥
    not-fixed e h = subst IsFixed e h

    pub renames : Renames t f g m r o
    renames = go (is_range j.gone o.loc) refl
      where
        others : undefined_lanes t g (r o) ≡ map m (undefined_lanes t f o)
        others = no-others g (r o) (field-stays (λ (p : RegOp). p.def) o refl) (field-stays (λ (p : RegOp). p.undef) o refl) ∙ sym (ap (map m) (no-others f o refl refl))

        go : (u : Bool) → is_range j.gone o.loc ≡ u → Renames t f g m r o
        go true e =
            let loc : o.loc ≡ Virtual j.gone = range-is j.gone o.loc e in
            let to : r o ≡ stands o = ap (λ u. cond u (stands o) o) e in
            record {
              def = ap (λ (p : RegOp). p.def) to;
              implicit = ap (λ (p : RegOp). p.implicit) to;
              undef = ap (λ (p : RegOp). p.undef) to;
              lanes = ap (operand_lanes t g) to ∙ (gone-lanes o.index (n.within e) ∙ ap (λ l. map m (located_lanes t f l o.index)) (sym loc));
              widths = ap (operand_widths t g) to ∙ (widths-at j.index refl o.index (n.within e) ∙ ap (λ l. located_widths t f l o.index) (sym loc));
              others = others;
              stays = λ i. absurd (not-fixed loc (n.fixed i));
              fixed = n.fixed;
            }
        go false e =
            let to : r o ≡ o = ap (λ u. cond u (stands o) o) e in
            record {
              def = ap (λ (p : RegOp). p.def) to;
              implicit = ap (λ (p : RegOp). p.implicit) to;
              undef = ap (λ (p : RegOp). p.undef) to;
              lanes = ap (operand_lanes t g) to ∙ named-lanes o.loc o.index e;
              widths = ap (operand_widths t g) to ∙ named-widths o.loc o.index;
              others = others;
              stays = λ i. to;
              fixed = n.fixed;
            }

    -- its class and its index

    classed : (l : Loc) → has_class f l ≡ true → has_class g l ≡ true
    classed (Virtual v) h = class-there t f j a v h
    classed (Fixed q) h = refl

    pub class-stays : has_class g (r o).loc ≡ true
    class-stays = go (is_range j.gone o.loc)
      where
        go : (u : Bool) → has_class g (cond u (stands o) o).loc ≡ true
        go true = class-there t f j a j.keep a.keep
        go false = classed o.loc n.class

    indexed : (l : Loc) (x : Option IndexId) → has_class f l ≡ true → index_fits t f l x ≡ true → index_fits t g l x ≡ true
    indexed (Virtual v) x h e = index-by t g v x (class-there t f j a v h) ∙ fit-fewer t (registers_of t g v) (registers_of t f v) x (fewer t f j a v) (sym (index-by t f v x h) ∙ e)
    indexed (Fixed q) x h e = e

    fit-at : (x : Option IndexId) → j.index ≡ x → (y : Option IndexId) → Within y → fit_by t (registers_of t f j.gone) y ≡ true → fit_by t (registers_of t g j.keep) (index_within t x y) ≡ true
    fit-at None e y w p = fit-fewer t (registers_of t g j.keep) (registers_of t f j.gone) y (fewer-whole t f j a e) p
    fit-at (Some x) e None w p = fit-fewer t (registers_of t g j.keep) (registers_of t f j.keep) (Some x) (fewer t f j a j.keep) (subs-fit t.regs (lanes_of t x) (registers_of t f j.keep) (registers_of t f j.gone) (a.part x e).holds)
    fit-at (Some x) e (Some z) w p = go (composed t x z) (w x z e refl)
      where
        go : (q : Option IndexId) → fits_range t f j.keep q ≡ true → fit_by t (registers_of t g j.keep) q ≡ true
        go None h = absurd (cc)
        go (Some d) h = fit-fewer t (registers_of t g j.keep) (registers_of t f j.keep) (Some d) (fewer t f j a j.keep) h

    pub index-stays : index_fits t g (r o).loc (r o).index ≡ true
    index-stays = go (is_range j.gone o.loc) refl
      where
        go : (u : Bool) → is_range j.gone o.loc ≡ u → index_fits t g (cond u (stands o) o).loc (cond u (stands o) o).index ≡ true
        go true e =
            index-by t g j.keep (index_within t j.index o.index) (class-there t f j a j.keep a.keep)
            ∙ fit-at j.index refl o.index (n.within e) (sym (index-by t f j.gone o.index a.gone) ∙ subst (λ l. index_fits t f l o.index ≡ true) (range-is j.gone o.loc e) n.index)
        go false e = indexed o.loc o.index n.class n.index

    lying : (k : ClassId) (l : Loc) (x : Option IndexId) → has_class f l ≡ true → register_lies_in t f k l x ≡ true → register_lies_in t g k l x ≡ true
    lying k (Virtual v) x h e = lies-by t g k v x (class-there t f j a v h) ∙ lie-fewer t k (registers_of t g v) (registers_of t f v) x (fewer t f j a v) (sym (lies-by t f k v x h) ∙ e)
    lying k (Fixed q) x h e = e

    lie-at : (k : ClassId) (x : Option IndexId) → j.index ≡ x → (y : Option IndexId) → Within y → lie_by t k (registers_of t f j.gone) y ≡ true → lie_by t k (registers_of t g j.keep) (index_within t x y) ≡ true
    lie-at k None e y w p = lie-fewer t k (registers_of t g j.keep) (registers_of t f j.gone) y (fewer-whole t f j a e) p
    lie-at k (Some x) e None w p =
        lie-fewer t k (registers_of t g j.keep) (registers_of t f j.keep) (Some x) (fewer t f j a j.keep) (subs-within t.regs (lanes_of t x) (registers_of t f j.keep) (registers_of t f j.gone) (regs_of t k) (a.part x e).holds p)
    lie-at k (Some x) e (Some z) w p = go (composed t x z) refl (w x z e refl)
      where
        go : (q : Option IndexId) → composed t x z ≡ q → fits_range t f j.keep q ≡ true → lie_by t k (registers_of t g j.keep) q ≡ true
        go None h i = absurd (cc)
        go (Some d) h i =
            lie-fewer t k (registers_of t g j.keep) (registers_of t f j.keep) (Some d) (fewer t f j a j.keep)
            (subs-composed t.regs (lanes_of t x) (lanes_of t z) (lanes_of t d) (registers_of t f j.keep) (registers_of t f j.gone) (regs_of t k) (a.part x e).holds (composed-lanes t x z d h) p)

    pub lies-stay : (k : ClassId) → register_lies_in t f k o.loc o.index ≡ true → register_lies_in t g k (r o).loc (r o).index ≡ true
    lies-stay k lie = go (is_range j.gone o.loc) refl
      where
        go : (u : Bool) → is_range j.gone o.loc ≡ u → register_lies_in t g k (cond u (stands o) o).loc (cond u (stands o) o).index ≡ true
        go true e =
            lies-by t g k j.keep (index_within t j.index o.index) (class-there t f j a j.keep a.keep)
            ∙ lie-at k j.index refl o.index (n.within e) (sym (lies-by t f k j.gone o.index a.gone) ∙ subst (λ l. register_lies_in t f k l o.index ≡ true) (range-is j.gone o.loc e) lie)
        go false e = lying k o.loc o.index n.class lie

    -- its lanes are known

    known : (h : Function) (l : Loc) (x : Option IndexId) → has_class h l ≡ true → index_fits t h l x ≡ true → has_lanes_at t h l x ≡ true
    known h (Fixed q) x c e = refl
    known h (Virtual v) x c e = go (class_of h v) c e
      where
        go : (q : Option ClassId) → is_some q ≡ true → elim q as (λ q. Bool) [ None ↦ true | Some c ↦ fits t c x ] ≡ true → passes (λ c. fits t c x) q ≡ true
        go None c e = absurd (cc)
        go (Some k) c e = e

    pub had-lanes : has_lanes t f o ≡ true
    had-lanes = known f o.loc o.index n.class n.index

    pub has-lanes : has_lanes t g (r o) ≡ true
    has-lanes = known g (r o).loc (r o).index class-stays index-stays
