-- Classes of parts, of moves and of fixed registers: what a target's rules tell of them.
use Rattle.std.proofs.Common.{◌≡◌, ◌<◌, ◌∙◌, ℕ, Bool, true, false, List, [], ◌∷◌, Option, Some, None, length, refl, sym, ap, subst, arith, eq-eqb, eqb-true}
use Rattle.std.specs.Prelude.{◌==◌, is_some, nat_lt, option_map, position, slice_get}
use Rattle.std.specs.List.{list_any}
use Rattle.std.proofs.lemmas.Bool.{ltb-false, ltb-true}
use Rattle.std.proofs.lemmas.Option.{slice_get_past}
use Rattle.target_base.specs.declared.types.ClassId.{ClassId}
use Rattle.target_base.specs.declared.types.ClassDesc.{ClassDesc}
use Rattle.target_base.specs.declared.types.IndexId.{IndexId}
use Rattle.target_base.specs.declared.types.Reg.{Reg}
use Rattle.target_base.specs.declared.types.RegDesc.{RegDesc}
use Rattle.target_base.specs.declared.types.Target.{Target}
use Rattle.target_base.specs.declared.types.Unit.{Unit as UnitNumber}
use Rattle.target_base.specs.Numbers.{class_number}
use Rattle.target_base.specs.Registers.{HasIndex, IsClass, IsIndex, fits, home_of, lanes_in, lanes_of, move_class, part_of, regs_of, widths_of, widths_of_some}
use Rattle.target_base.specs.Rules.{is_reg_desc}
use Rattle.target_base.specs.Storage.{class_widths, holds_place, holds_reg, holds_subs, is_picked, is_within, lanes_fit, part_place, reg_units, regs_in, same_numbers, sub_place}
use Rattle.target_base.proofs.Lookups.{move_found, part_found}
use Rattle.target_base.proofs.Sound.{regs_sound}
use Rattle.target_base.proofs.Tests.{first_of_both, position_within, second_of_both}
use Rattle.mir_func.specs.declared.func.Loc.{Loc}
use Rattle.mir_func.specs.declared.func.Loc.TheVariants.{Fixed, Virtual}
use Rattle.mir_func.specs.Value.{Function}
use Rattle.mir_func.specs.Binding.{class_of, passes}
use Rattle.mir_meaning.specs.Rules.{lies_in, register_lies_in}
use Rattle.live_laws.proofs.Effects.Blocks.{slice-member}
use Rattle.live_laws.proofs.Effects.Lists.{all-of, any-in}
use Rattle.live_laws.proofs.Effects.Shapes.{class-registers, same-length}
use Rattle.live_laws.proofs.Touch.Cells.{any-of}
use Rattle.lowering_laws.proofs.Formed.{all-by}
use Rattle.lowering_laws.proofs.RulesStay.{all-more}
use Rattle.lowering_laws.proofs.Widths.{lying-widths, through_index}
use Rattle.spill_laws.proofs.Opcodes.{found}

-- registers within registers

pub hold-within : (rs qs : List Reg) (r : Reg) → is_within rs qs ≡ true → holds_reg rs r ≡ true → holds_reg qs r ≡ true
hold-within rs qs r w h =
    let z = any-of (λ (q : Reg). q.0 == r.0) rs h in
    subst (λ n. list_any (λ (q : Reg). q.0 == n) qs ≡ true) (eqb-true z.0.0 r.0 z.2) (all-of (holds_reg qs) z.0 rs z.1 w)

place-within : (rs qs : List Reg) (q : Option ℕ) → is_within rs qs ≡ true → holds_place rs q ≡ true → holds_place qs q ≡ true
place-within rs qs None w h = absurd (cc)
place-within rs qs (Some n) w h = hold-within rs qs (record { 0 = n }) w h

pub within-self : (rs : List Reg) → is_within rs rs ≡ true
within-self rs = all-by (holds_reg rs) rs (λ r m. any-in (λ (q : Reg). q.0 == r.0) r rs m (eq-eqb r.0 r.0 refl))

-- what lies in a class lies in one that holds all of its registers
pub lies-further : (t : Target) (g : Function) (k c : ClassId) → is_within (regs_of t k) (regs_of t c) ≡ true → (l : Loc) (x : Option IndexId) → register_lies_in t g k l x ≡ true → register_lies_in t g c l x ≡ true
lies-further t g k c w (Fixed r) x h = hold-within (regs_of t k) (regs_of t c) r w h
lies-further t g k c w (Virtual v) x h = go (class_of g v) x h
  where
    go : (q : Option ClassId) (x : Option IndexId) → passes (λ b. lies_in t k b x) q ≡ true → passes (λ b. lies_in t c b x) q ≡ true
    go None x h = absurd (cc)
    go (Some b) None h = all-more (holds_reg (regs_of t k)) (holds_reg (regs_of t c)) (regs_of t b) (λ r e. hold-within (regs_of t k) (regs_of t c) r w e) h
    go (Some b) (Some y) h =
        all-more (λ r. holds_place (regs_of t k) (sub_place t.regs (reg_units t.regs r) (lanes_of t y))) (λ r. holds_place (regs_of t c) (sub_place t.regs (reg_units t.regs r) (lanes_of t y))) (regs_of t b)
        (λ r e. place-within (regs_of t k) (regs_of t c) (sub_place t.regs (reg_units t.regs r) (lanes_of t y)) w e) h

module _ (t : Target) where
  -- an index that fits a class is one of the target

  nothing-picked : (us ps : List UnitNumber) → is_picked us [] ps ≡ true → ps ≡ []
  nothing-picked us [] e = refl
  nothing-picked us (p ∷ ps) e = absurd (cc)

  units-long : (d : RegDesc) → is_reg_desc t.version t.units d ≡ true → nat_lt 0 (length d.units) ≡ true
  units-long d h = second_of_both _ _ (first_of_both _ _ (first_of_both _ _ (first_of_both _ _ (first_of_both _ _ h))))

  has-units : (d : RegDesc) → is_reg_desc t.version t.units d ≡ true → d.units ≡ [] → ⊥
  has-units d h e =
      let y : 0 < length d.units = ltb-true 0 (length d.units) (units-long d h) in
      let x : length d.units ≡ 0 = ap length e in
      omega arith

  no-place : (us : List UnitNumber) → is_some (sub_place t.regs us []) ≡ true → ⊥
  no-place us h = go (sub_place t.regs us []) refl h
    where
      go : (q : Option ℕ) → sub_place t.regs us [] ≡ q → is_some q ≡ true → ⊥
      go None e h = cc
      go (Some n) e h =
          let z = found (λ (d : RegDesc). is_picked us [] d.units) t.regs n e in
          let all = second_of_both _ _ (first_of_both _ _ (regs_sound t.name t.version t.units t.regs t.reserved t.indexes t.classes t.masks t.opcodes t.sound)) in
          has-units z.0 (all-of (is_reg_desc t.version t.units) z.0 t.regs (slice-member t.regs n z.0 z.1) all) (nothing-picked us z.0.units z.2)

  index-known : (c : ClassId) (y : IndexId) → IsClass t c → fits t c (Some y) ≡ true → IsIndex t y
  index-known c y h e = go (nat_lt y.0 (length t.indexes)) refl
    where
      none : lanes_of t y ≡ [] → (rs : List Reg) → 0 < length rs → lanes_fit t.regs (lanes_of t y) rs ≡ true → ⊥
      none n [] l g = omega arith
      none n (r ∷ rs) l g =
          no-place (reg_units t.regs r)
          (subst (λ ks. is_some (sub_place t.regs (reg_units t.regs r) ks) ≡ true) n (first_of_both (is_some (sub_place t.regs (reg_units t.regs r) (lanes_of t y))) (lanes_fit t.regs (lanes_of t y) rs) g))

      go : (b : Bool) → nat_lt y.0 (length t.indexes) ≡ b → IsIndex t y
      go true g = ltb-true y.0 (length t.indexes) g
      go false g = absurd (none (ap lanes_in (slice_get_past t.indexes y.0 (ltb-false y.0 (length t.indexes) g))) (regs_of t c) (class-registers t (slice_get t.classes c.0) c.0 refl h) e)

  pub index-there : (c : ClassId) (x : Option IndexId) → IsClass t c → fits t c x ≡ true → HasIndex t x
  index-there c None h e = tt
  index-there c (Some y) h e = index-known c y h e

  -- the class of a part holds what the index picks
  pub record Part (c : ClassId) (x : Option IndexId) : Type 0 where
    pub class : ClassId
    pub is : part_of t c x ≡ Some class
    pub known : IsClass t class
    pub lies : lies_in t class c x ≡ true

  pub part-class : (c : ClassId) (x : Option IndexId) → IsClass t c → fits t c x ≡ true → Part c x
  part-class c None h e = record { class = c; is = refl; known = h; lies = within-self (regs_of t c) }
  part-class c (Some y) h e = go (part_place t.regs t.classes (lanes_of t y) (regs_of t c)) refl
    where
      go : (q : Option ℕ) → part_place t.regs t.classes (lanes_of t y) (regs_of t c) ≡ q → Part c (Some y)
      go None g = absurd (part_found t c (Some y) h (index-there c (Some y) h e) e (ap (option_map class_number) g))
      go (Some n) g =
          let test = λ (d : ClassDesc). holds_subs t.regs (lanes_of t y) (regs_of t c) d.regs in
          let z = found test t.classes n g in
          record {
            class = class_number n;
            is = ap (option_map class_number) g;
            known = position_within test t.classes n g;
            lies = subst (λ rs. holds_subs t.regs (lanes_of t y) (regs_of t c) rs ≡ true) (sym (ap regs_in z.1)) z.2;
          }

  -- the class of a move has as many lanes
  pub record Move (c : ClassId) (x : Option IndexId) : Type 0 where
    pub class : ClassId
    pub is : move_class t c x ≡ Some class
    pub known : IsClass t class
    pub long : length (widths_of t class) ≡ length (through_index t c x)

  pub move-of : (c : ClassId) (x : Option IndexId) → IsClass t c → fits t c x ≡ true → Move c x
  move-of c x h e = go (position (λ (d : ClassDesc). same_numbers (class_widths t.units t.regs d.regs) (widths_of_some t (part_of t c x))) t.classes) refl
    where
      part : Part c x
      part = part-class c x h e

      go : (q : Option ℕ) → position (λ (d : ClassDesc). same_numbers (class_widths t.units t.regs d.regs) (widths_of_some t (part_of t c x))) t.classes ≡ q → Move c x
      go None g = absurd (move_found t c x h (index-there c x h e) e (ap (option_map class_number) g))
      go (Some n) g =
          let test = λ (d : ClassDesc). same_numbers (class_widths t.units t.regs d.regs) (widths_of_some t (part_of t c x)) in
          let z = found test t.classes n g in
          record {
            class = class_number n;
            is = ap (option_map class_number) g;
            known = position_within test t.classes n g;
            long =
                ap (λ rs. length (class_widths t.units t.regs rs)) (ap regs_in z.1)
                ∙ (same-length (class_widths t.units t.regs z.0.regs) (widths_of_some t (part_of t c x)) z.2
                ∙ (ap (λ q. length (widths_of_some t q)) part.is ∙ ap length (sym (lying-widths t c part.class x h part.lies))));
          }

  -- the home of a fixed register
  pub record Home (r : Reg) : Type 0 where
    pub class : ClassId
    pub is : home_of t r ≡ Some class
    pub known : IsClass t class
    pub holds : holds_reg (regs_of t class) r ≡ true

  pub home-class : (r : Reg) → is_some (home_of t r) ≡ true → Home r
  home-class r h = go (position (λ (d : ClassDesc). holds_reg d.regs r) t.classes) refl
    where
      some-place : (q : Option ℕ) → is_some (option_map class_number q) ≡ true → q ≡ None → ⊥
      some-place None e g = cc
      some-place (Some n) e g = cc

      go : (q : Option ℕ) → position (λ (d : ClassDesc). holds_reg d.regs r) t.classes ≡ q → Home r
      go None g = absurd (some-place (position (λ (d : ClassDesc). holds_reg d.regs r) t.classes) h g)
      go (Some n) g =
          let test = λ (d : ClassDesc). holds_reg d.regs r in
          let z = found test t.classes n g in
          record {
            class = class_number n;
            is = ap (option_map class_number) g;
            known = position_within test t.classes n g;
            holds = subst (λ rs. holds_reg rs r ≡ true) (sym (ap regs_in z.1)) z.2;
          }
