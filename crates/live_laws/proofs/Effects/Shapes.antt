-- What the shape of instructions tells.
use Rattle.std.proofs.Common.{◌≡◌, ◌⊎◌, inl, inr, get_or, ◌≢◌, ◌≤◌, ◌<◌, ℕ, zero, suc, ◌+◌, Bool, true, false, not, ◌&&◌, ◌||◌, List, [], ◌∷◌, Option, Some, None, length, refl, sym, ap, subst, eqb-true, arith}
use Rattle.std.specs.Prelude.{◌==◌, nat_eq, slice_get, option_map, is_some}
use Rattle.std.specs.List.{list_all}
use Rattle.std.proofs.lemmas.Option.{slice_get_within, slice_get_cases, get_or_from_slice_get}
use Rattle.std.proofs.lemmas.List.Quantifiers.{position-Some}
use Rattle.target_base.specs.declared.types.ClassId.{ClassId}
use Rattle.target_base.specs.declared.types.ClassDesc.{ClassDesc}
use Rattle.target_base.specs.declared.types.Effect.{Effect}
use Rattle.target_base.specs.declared.types.IndexId.{IndexId}
use Rattle.target_base.specs.declared.types.OpcodeDesc.{OpcodeDesc}
use Rattle.target_base.specs.declared.types.Reg.{Reg}
use Rattle.target_base.specs.declared.types.RegDesc.{RegDesc}
use Rattle.target_base.specs.declared.types.Unit.{Unit as UnitNumber}
use Rattle.target_base.specs.declared.types.Target.{Target}
use Rattle.target_base.specs.Registers.{lanes_of, regs_of, widths_of, widths_of_some, fits, IsClass}
use Rattle.target_base.specs.Storage.{is_unit, is_picked, sub_place, lanes_fit, class_widths, widths, reg_units, regs_in, same_numbers}
use Rattle.target_base.specs.Rules.{is_class_desc}
use Rattle.target_base.proofs.Tests.{first_of_both, second_of_both, each_passes}
use Rattle.target_base.proofs.Sound.{classes_sound}
use Rattle.std.proofs.lemmas.Bool.{ltb-true, eqb-false}
use Rattle.meaning.specs.declared.types.Lane.{Lane}
use Rattle.meaning.specs.declared.types.Lane.TheVariants.{VirtualLane}
use Rattle.meaning.specs.Live.{Among as Member, here as first, there as later}
use Rattle.mir_func.specs.declared.func.Loc.{Loc}
use Rattle.mir_func.specs.declared.func.Loc.TheVariants.{Virtual, Fixed}
use Rattle.mir_func.specs.declared.func.RegOp.{RegOp}
use Rattle.mir_func.specs.declared.func.Instr.{Instr}
use Rattle.mir_func.specs.Value.{Function}
use Rattle.mir_func.specs.Binding.{effect_of, known_opcode, class_of, passes, registers, bound, does, puts_together}
use Rattle.mir_meaning.specs.Registers.{numbers, range_widths, located_lanes, operand_widths}
use Rattle.mir_meaning.specs.Rules.{V1, V2, V3, V4, in_operand_class, operands_fit, widths_fit, has_class, index_fits, has_lanes_at, has_lanes, same_widths, subregs_fit}
use Rattle.instr_effects.proofs.Members.{member-none, member-elim, map-of, map-in}
use Rattle.live_laws.specs.Effects.Shaped.{AreClasses, IsShaped}
use Rattle.live_laws.proofs.Effects.Lists.{all-of}

module _ (t : Target) (f : Function) (i : Instr) (e : Effect) (known : effect_of t i ≡ Some e) where
  -- rule 1 by the effect
  pub fits-of : V1 t f i ≡ true → (d : OpcodeDesc) × (operands_fit t f d i.operands e ≡ true)
  unfolding V1
  fits-of h = go (known_opcode t i.op) h known
    where
      same : (x y : Effect) → Some x ≡ Some y → x ≡ y
      same x y g = cc

      go : (q : Option OpcodeDesc) → elim q [ None ↦ true | Some d ↦ operands_fit t f d i.operands d.effect ] ≡ true → option_map (λ d. d.effect) q ≡ Some e → (d : OpcodeDesc) × (operands_fit t f d i.operands e ≡ true)
      go None h g = absurd (cc)
      go (Some d) h g = (d, subst (λ x. operands_fit t f d i.operands x ≡ true) (same d.effect e g) h)

  -- rule 2 by the effect
  pub widths-of : V2 t f i ≡ true → widths_fit t f e i.operands ≡ true
  unfolding V2
  widths-of h = go (known_opcode t i.op) h known
    where
      same : (x y : Effect) → Some x ≡ Some y → x ≡ y
      same x y g = cc

      go : (q : Option OpcodeDesc) → elim q [ None ↦ true | Some d ↦ list_all (in_operand_class t f d.effect) (bound t i) && widths_fit t f d.effect i.operands ] ≡ true → option_map (λ d. d.effect) q ≡ Some e → widths_fit t f e i.operands ≡ true
      go None h g = absurd (cc)
      go (Some d) h g = subst (λ x. widths_fit t f x i.operands ≡ true) (same d.effect e g) (second_of_both _ _ h)

module _ (t : Target) (f : Function) (i : Instr) (shaped : IsShaped t f i) where
  pub class-there : (o : RegOp) → Member o (registers i.operands) → has_class f o.loc ≡ true
  unfolding V3
  class-there o m = all-of (λ x. has_class f x.loc) o (registers i.operands) m shaped.classes

  pub index-there : (o : RegOp) → Member o (registers i.operands) → index_fits t f o.loc o.index ≡ true
  unfolding V4
  index-there o m = all-of (λ x. index_fits t f x.loc x.index) o (registers i.operands) m (first_of_both _ _ shaped.indexes)

  lanes-at : (l : Loc) (x : Option IndexId) → has_class f l ≡ true → index_fits t f l x ≡ true → has_lanes_at t f l x ≡ true
  lanes-at (Fixed r) x h g = refl
  lanes-at (Virtual v) x h g = go (class_of f v) h g
    where
      go : (q : Option ClassId) → is_some q ≡ true → elim q [ None ↦ true | Some c ↦ fits t c x ] ≡ true → passes (λ c. fits t c x) q ≡ true
      go None h g = absurd (cc)
      go (Some c) h g = g

  -- the lanes of operands are known
  pub lanes-there : (o : RegOp) → Member o (registers i.operands) → has_lanes t f o ≡ true
  lanes-there o m = lanes-at o.loc o.index (class-there o m) (index-there o m)

  -- the indexes of what puts a register together fit its class
  pub subregs-there : does puts_together t i ≡ true → subregs_fit t f i.operands ≡ true
  unfolding V4
  subregs-there p = go (does puts_together t i) p (second_of_both _ _ shaped.indexes)
    where
      go : (b : Bool) → b ≡ true → (not b || subregs_fit t f i.operands) ≡ true → subregs_fit t f i.operands ≡ true
      go true h g = g
      go false h g = absurd (cc)

pub same-length : (ms ns : List ℕ) → same_numbers ms ns ≡ true → length ms ≡ length ns
same-length [] [] e = refl
same-length [] (n ∷ ns) e = absurd (cc)
same-length (m ∷ ms) [] e = absurd (cc)
same-length (m ∷ ms) (n ∷ ns) e = ap (λ k. suc k) (same-length ms ns (second_of_both (m == n) (same_numbers ms ns) e))

-- operands whose lanes are known have as many
pub same-lanes : (t : Target) (f : Function) (a b : RegOp) → has_lanes t f a ≡ true → has_lanes t f b ≡ true → same_widths t f a b ≡ true → length (operand_widths t f a) ≡ length (operand_widths t f b)
same-lanes t f a b h g e = same-length (operand_widths t f a) (operand_widths t f b) (go (has_lanes t f a) (has_lanes t f b) h g e)
  where
    go : (x y : Bool) → x ≡ true → y ≡ true → (not (x && y) || same_numbers (operand_widths t f a) (operand_widths t f b)) ≡ true → same_numbers (operand_widths t f a) (operand_widths t f b) ≡ true
    go true true h g e = e
    go true false h g e = absurd (cc)
    go false y h g e = absurd (cc)

-- lanes of an index lie within the registers of a class that it fits

picked-within : (us : List UnitNumber) (ks : List ℕ) (ps : List UnitNumber) (k : ℕ) → is_picked us ks ps ≡ true → Member k ks → k < length us
picked-within us [] ps k e m = absurd (member-none k m)
picked-within us (j ∷ ks) [] k e m = absurd (cc)
picked-within us (j ∷ ks) (p ∷ ps) k e m = member-elim k j ks (λ g. at (slice_get us j) refl (first_of_both (is_unit (slice_get us j) p) (is_picked us ks ps) e) g) (λ n. picked-within us ks ps k (second_of_both (is_unit (slice_get us j) p) (is_picked us ks ps) e) n) m
  where
    at : (q : Option UnitNumber) → slice_get us j ≡ q → is_unit q p ≡ true → k ≡ j → k < length us
    at None g h n = absurd (cc)
    at (Some u) g h n = let x = slice_get_within us j u g in omega (arith, x, n)

placed-within : (regs : List RegDesc) (us : List UnitNumber) (ks : List ℕ) (k : ℕ) (q : Option ℕ) → sub_place regs us ks ≡ q → is_some q ≡ true → Member k ks → k < length us
placed-within regs us ks k None e h m = absurd (cc)
placed-within [] us ks k (Some n) e h m = absurd (cc)
placed-within (d ∷ regs) us ks k (Some n) e h m = let z = position-Some (λ x. is_picked us ks x.units) (d ∷ regs) n d e in picked-within us ks _ k z.1 m

module _ (t : Target) where
  pub class-registers : (q : Option ClassDesc) (k : ℕ) → slice_get t.classes k ≡ q → k < length t.classes → 0 < length (regs_in q)
  class-registers None k e h = absurd (go (slice_get_cases t.classes k).1)
    where
      go : ((x : ClassDesc) × (k < length t.classes) × (slice_get t.classes k ≡ Some x) × (get_or t.classes k x ≡ x)) ⊎ ((length t.classes ≤ k) × (slice_get t.classes k ≡ None)) → ⊥
      go (inl z) = let g = z.2 in cc
      go (inr z) = let g = z.0 in omega arith
  class-registers (Some d) k e h =
      let all = second_of_both _ _ (first_of_both _ _ (classes_sound t.name t.version t.units t.regs t.reserved t.indexes t.classes t.masks t.opcodes t.sound)) in
      let p = each_passes (is_class_desc t.units t.regs) t.classes k d h all in
      let c = rw (get_or_from_slice_get t.classes k d d e) at p in
      ltb-true _ _ (second_of_both _ _ (first_of_both _ _ (first_of_both _ _ (first_of_both _ _ (first_of_both _ _ c)))))

  -- an index that fits a class picks lanes of it
  pub fits-within : (c : ClassId) (x : IndexId) (k : ℕ) → IsClass t c → fits t c (Some x) ≡ true → Member k (lanes_of t x) → k < length (widths_of t c)
  fits-within c x k h e m = go (regs_of t c) (class-registers (slice_get t.classes c.0) c.0 refl h) e
    where
      long : (us : List UnitNumber) → length (widths t.units us) ≡ length us
      long [] = refl
      long (u ∷ us) = ap (λ n. suc n) (long us)

      go : (rs : List Reg) → 0 < length rs → lanes_fit t.regs (lanes_of t x) rs ≡ true → k < length (class_widths t.units t.regs rs)
      go [] h e = absurd (omega arith)
      go (r ∷ rs) h e = let n = placed-within t.regs (reg_units t.regs r) (lanes_of t x) k (sub_place t.regs (reg_units t.regs r) (lanes_of t x)) refl (first_of_both _ _ e) m in omega (arith, n, long (reg_units t.regs r))

pub numbers-in : (u n k : ℕ) → n ≤ u → u < n + k → Member u (numbers n k)
numbers-in u n zero h g = absurd (omega arith)
numbers-in u n (suc k) h g = go (nat_eq u n) refl (λ e. numbers-in u (suc n) k (let g : u ≢ n = eqb-false u n e in omega arith) (omega arith))
  where
    go : (b : Bool) → nat_eq u n ≡ b → (nat_eq u n ≡ false → Member u (numbers (suc n) k)) → Member u (n ∷ numbers (suc n) k)
    go true e f = subst (λ x. Member x (n ∷ numbers (suc n) k)) (sym (eqb-true u n e)) first
    go false e f = later (f e)

-- the lanes of an index are lanes of the register
pub index-lanes : (t : Target) (f : Function) (v : ℕ) (x : IndexId) (l : Lane) → AreClasses t f → has_class f (Virtual v) ≡ true → index_fits t f (Virtual v) (Some x) ≡ true → Member l (located_lanes t f (Virtual v) (Some x)) → Member l (located_lanes t f (Virtual v) None)
index-lanes t f v x l classes h g m =
    let z = map-of (VirtualLane v) l (lanes_of t x) m in
    subst (λ a. Member a (located_lanes t f (Virtual v) None)) (sym z.2) (map-in (VirtualLane v) z.0 (numbers 0 (length (range_widths t f v))) (numbers-in z.0 0 (length (range_widths t f v)) (omega arith) (let n = within (class_of f v) refl h g z.0 z.1 in omega arith)))
  where
    within : (q : Option ClassId) → class_of f v ≡ q → is_some q ≡ true → elim q [ None ↦ true | Some c ↦ fits t c (Some x) ] ≡ true → (k : ℕ) → Member k (lanes_of t x) → k < length (widths_of_some t q)
    within None e h g k n = absurd (cc)
    within (Some c) e h g k n = fits-within t c x k (classes v c e) g n
