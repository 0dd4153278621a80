-- A table that numbers all lanes of a function gives each a number of its own.
use Rattle.std.proofs.Common.{◌≡◌, ◌⊎◌, ◌≤◌, ◌<◌, ℕ, zero, suc, ◌+◌, Bool, true, false, cond, ◌&&◌, List, [], ◌∷◌, Option, Some, None, map, length, get_or, refl, sym, ap, ◌∙◌, subst, inl, inr, eq-eqb, arith}
use Rattle.std.specs.Prelude.{nat_eq, nat_lt, slice_get, slice_index, option_map, is_some, IsSome}
use Rattle.std.specs.List.{list_any}
use Rattle.std.specs.Ordering.{nat_cmp}
use Rattle.std.specs.BTreeMap.{get}
use Rattle.std.proofs.lemmas.Bool.{ltb-true, leb-true, ltb-false}
use Rattle.std.proofs.lemmas.Option.{slice_get_within, slice_get_cases, get_or_from_slice_get}
use Rattle.std.proofs.lemmas.List.Quantifiers.{position-Some}
use Rattle.target_base.specs.declared.types.ClassId.{ClassId}
use Rattle.target_base.specs.declared.types.IndexId.{IndexId}
use Rattle.target_base.specs.declared.types.IndexDesc.{IndexDesc}
use Rattle.target_base.specs.declared.types.Reg.{Reg}
use Rattle.target_base.specs.declared.types.RegDesc.{RegDesc}
use Rattle.target_base.specs.declared.types.Unit.{Unit as UnitNumber}
use Rattle.target_base.specs.declared.types.UnitDesc.{UnitDesc}
use Rattle.target_base.specs.declared.types.Target.{Target}
use Rattle.target_base.specs.Registers.{units_of, lanes_of, lanes_in, regs_of, widths_of, widths_of_some, fits, IsClass, is_reserved_unit}
use Rattle.target_base.specs.Storage.{units_in, reg_units, class_units, widths, unit_width, width_in, is_picked, sub_place, lanes_fit}
use Rattle.target_base.specs.Rules.{is_reg_desc, is_index_desc, most_lanes}
use Rattle.target_base.proofs.Tests.{first_of_both, second_of_both, each_passes, position_within}
use Rattle.target_base.proofs.Sound.{regs_sound, indexes_sound}
use Rattle.meaning.specs.declared.types.Lane.{Lane}
use Rattle.meaning.specs.declared.types.Lane.TheVariants.{VirtualLane, UnitLane, SlotLane}
use Rattle.meaning.specs.Live.{Among as Member, here as first, there as later}
use Rattle.mir_func.specs.declared.func.Loc.{Loc}
use Rattle.mir_func.specs.declared.func.Loc.TheVariants.{Virtual, Fixed}
use Rattle.mir_func.specs.declared.func.RegOp.{RegOp}
use Rattle.mir_func.specs.declared.func.Operand.{Operand}
use Rattle.mir_func.specs.declared.func.Operand.TheVariants as operands
use Rattle.mir_func.specs.declared.func.Instr.{Instr}
use Rattle.mir_func.specs.declared.func.Block.{Block}
use Rattle.mir_func.specs.Value.{Function}
use Rattle.mir_func.specs.Binding.{registers, class_of, slot_at}
use Rattle.mir_meaning.specs.Registers.{numbers, range_widths, located_lanes, located_widths, operand_lanes, operand_widths, whole_lanes, undefined_lanes, is_reserved, slot_lanes, slot_lane_numbers}
use Rattle.mir_meaning.specs.Rules.{has_class, index_fits}
use Rattle.instr_effects.specs.declared.lanes.LaneTable.{LaneTable}
use Rattle.instr_effects.specs.declared.owner.Owner.{Owner}
use Rattle.instr_effects.specs.declared.row.LaneSpan.{LaneSpan}
use Rattle.instr_effects.specs.Owners.{owner_of}
use Rattle.instr_effects.specs.Row.{lane_in}
use Rattle.instr_effects.specs.Numbers.{unit_number_in, row_number_in}
use Rattle.instr_effects.specs.Numbered.{number_in, NumbersAll}
use Rattle.instr_effects.specs.Stepping.{tag_of, NamesTagged}
use Rattle.instr_effects.proofs.Members.{member-none, member-elim, map-of}
use Rattle.instr_effects.proofs.Tables.{slice-numbers}
use Rattle.live_laws.specs.Effects.Shaped.{is_proper, SlotsTagged}
use Rattle.live_laws.specs.Effects.Coded.{KeepsRules, IsNumbered}
use Rattle.live_laws.specs.Effects.Laws.{TableLaw}
use Rattle.live_laws.proofs.Effects.Moving.{some-same}
use Rattle.live_laws.proofs.Effects.Lists.{any-in, all-of}
use Rattle.live_laws.proofs.Effects.Shapes.{class-there, index-there, index-lanes, fits-within, class-registers}
use Rattle.live_laws.proofs.Effects.Blocks.{slice-member, member-slice, slice-map}

below : (u n k : ℕ) → Member u (numbers n k) → u < n + k
below u n zero m = absurd (member-none u m)
below u n (suc k) m = member-elim u n (numbers (suc n) k) (λ e. omega (arith, e)) (λ j. let h = below u (suc n) k j in omega arith) m

few : (version : ℕ) → most_lanes version ≤ 32
few version = grind arith

lt-true : (a b : ℕ) → a < b → nat_lt a b ≡ true
lt-true a b h = go (nat_lt a b) refl
  where
    go : (q : Bool) → nat_lt a b ≡ q → q ≡ true
    go true e = refl
    go false e = absurd (let g = ltb-false a b e in omega arith)

-- what a target's rules tell of its units and lanes

module _ (t : Target) where
  register-rule : (o : Option RegDesc) (k : ℕ) → slice_get t.regs k ≡ o → (u : UnitNumber) → Member u (units_in o) → (u.0 < length t.units) × (length (units_in o) ≤ 32)
  register-rule None k e u m = absurd (member-none u m)
  register-rule (Some d) k e u m =
      let all = second_of_both _ _ (first_of_both _ _ (regs_sound t.name t.version t.units t.regs t.reserved t.indexes t.classes t.masks t.opcodes t.sound)) in
      let p = each_passes (is_reg_desc t.version t.units) t.regs k d (slice_get_within t.regs k d e) all in
      let r = rw (get_or_from_slice_get t.regs k d d e) at p in
      let long : length d.units ≤ most_lanes t.version = leb-true _ _ (second_of_both _ _ (first_of_both _ _ (first_of_both _ _ (first_of_both _ _ r)))) in
      let known : u.0 < length t.units = ltb-true _ _ (all-of (λ v. nat_lt v.0 (length t.units)) u d.units m (second_of_both _ _ (first_of_both _ _ (first_of_both _ _ r)))) in
      (known, omega (arith, long, few t.version))

  index-rule : (o : Option IndexDesc) (k : ℕ) → slice_get t.indexes k ≡ o → (j : ℕ) → Member j (lanes_in o) → j < 32
  index-rule None k e j m = absurd (member-none j m)
  index-rule (Some d) k e j m =
      let all = second_of_both _ _ (first_of_both _ _ (indexes_sound t.name t.version t.units t.regs t.reserved t.indexes t.classes t.masks t.opcodes t.sound)) in
      let p = each_passes (is_index_desc t.version) t.indexes k d (slice_get_within t.indexes k d e) all in
      let r = rw (get_or_from_slice_get t.indexes k d d e) at p in
      let h : j < most_lanes t.version = ltb-true _ _ (all-of (λ v. nat_lt v (most_lanes t.version)) j d.lanes m (second_of_both _ _ (first_of_both _ _ r))) in
      omega (arith, h, few t.version)

  unit-known : (r : Reg) (u : UnitNumber) → Member u (units_of t r) → u.0 < length t.units
  unit-known r u m = (register-rule (slice_get t.regs r.0) r.0 refl u m).0

  few-of : (us : List UnitNumber) → ((u : UnitNumber) → Member u us → length us ≤ 32) → length us ≤ 32
  few-of [] h = omega arith
  few-of (v ∷ vs) h = h v first

  few-units : (r : Reg) → length (units_of t r) ≤ 32
  few-units r = few-of (units_of t r) (λ u m. (register-rule (slice_get t.regs r.0) r.0 refl u m).1)

  -- the width of a unit of the target
  abbrev IsWidth : ℕ → Type 0
  IsWidth w = list_any (λ d. nat_eq d.width w) t.units ≡ true

  unit-width : (u : UnitNumber) → u.0 < length t.units → IsWidth (unit_width t.units u)
  unit-width u h = go (slice_get t.units u.0) refl
    where
      go : (q : Option UnitDesc) → slice_get t.units u.0 ≡ q → IsWidth (width_in q)
      go None e = absurd (past (slice_get_cases t.units u.0).1)
        where
          past : ((x : UnitDesc) × (u.0 < length t.units) × (slice_get t.units u.0 ≡ Some x) × (get_or t.units u.0 x ≡ x)) ⊎ ((length t.units ≤ u.0) × (slice_get t.units u.0 ≡ None)) → ⊥
          past (inl z) = let g = z.2 in cc
          past (inr z) = let g = z.0 in omega arith
      go (Some d) e = any-in (λ x. nat_eq x.width d.width) d t.units (slice-member t.units u.0 d e) (eq-eqb d.width d.width refl)

  widths-known : (us : List UnitNumber) (w : ℕ) → ((u : UnitNumber) → Member u us → u.0 < length t.units) → Member w (widths t.units us) → IsWidth w
  widths-known us w h m = let z = map-of (unit_width t.units) w us m in subst IsWidth (sym z.2) (unit-width z.0 (h z.0 z.1))

  class-known : (rs : List Reg) (u : UnitNumber) → Member u (class_units t.regs rs) → u.0 < length t.units
  class-known [] u m = absurd (member-none u m)
  class-known (r ∷ rs) u m = unit-known r u m

  class-few : (rs : List Reg) → length (class_units t.regs rs) ≤ 32
  class-few [] = omega arith
  class-few (r ∷ rs) = few-units r

  widths-long : (us : List UnitNumber) → length (widths t.units us) ≡ length us
  widths-long [] = refl
  widths-long (u ∷ us) = ap (λ n. suc n) (widths-long us)

  some-few : (c : Option ClassId) → length (widths_of_some t c) ≤ 32
  some-few None = omega arith
  some-few (Some c) = let h = class-few (regs_of t c) in omega (arith, h, widths-long (class_units t.regs (regs_of t c)))

  some-known : (c : Option ClassId) (w : ℕ) → Member w (widths_of_some t c) → IsWidth w
  some-known None w m = absurd (member-none w m)
  some-known (Some c) w m = widths-known (class_units t.regs (regs_of t c)) w (class-known (regs_of t c)) m

  picked-long : (us : List UnitNumber) (ks : List ℕ) (ps : List UnitNumber) → is_picked us ks ps ≡ true → length ks ≡ length ps
  picked-long us [] [] e = refl
  picked-long us [] (p ∷ ps) e = absurd (cc)
  picked-long us (k ∷ ks) [] e = absurd (cc)
  picked-long us (k ∷ ks) (p ∷ ps) e = ap (λ n. suc n) (picked-long us ks ps (second_of_both _ _ e))

  placed-few : (us : List UnitNumber) (ks : List ℕ) (q : Option ℕ) → sub_place t.regs us ks ≡ q → is_some q ≡ true → length ks ≤ 32
  placed-few us ks None e h = absurd (cc)
  placed-few us ks (Some n) e h = at (slice_get_cases t.regs n).1
    where
      at : ((x : RegDesc) × (n < length t.regs) × (slice_get t.regs n ≡ Some x) × (get_or t.regs n x ≡ x)) ⊎ ((length t.regs ≤ n) × (slice_get t.regs n ≡ None)) → length ks ≤ 32
      at (inl z) =
          let found = position-Some (λ d. is_picked us ks d.units) t.regs n z.0 e in
          let p = subst (λ d. is_picked us ks d.units ≡ true) z.3 found.1 in
          let f = few-of z.0.units (λ u m. (register-rule (Some z.0) n z.2 u m).1) in
          let g : length ks ≡ length z.0.units = picked-long us ks z.0.units p in
          omega arith
      at (inr z) = absurd (let g : n < length t.regs = position_within (λ d. is_picked us ks d.units) t.regs n e in omega (arith, z.0))

-- lanes of a slot with their widths
slot-lane-of : (s : ℕ) (ks ws : List ℕ) (l : Lane) → Member l (slot_lanes s ks ws) → (k : ℕ) × (w : ℕ) × Member k ks × Member w ws × (l ≡ SlotLane s k w)
slot-lane-of s [] ws l m = absurd (member-none l m)
slot-lane-of s (j ∷ ks) [] l m = absurd (member-none l m)
slot-lane-of s (j ∷ ks) (w ∷ ws) l m = member-elim l (SlotLane s j w) (slot_lanes s ks ws) (λ e. (j, w, first, first, e)) (λ k. let z = slot-lane-of s ks ws l k in (z.0, z.1, later z.2, later z.3, z.4)) m

index-in : (xs : List ℕ) (k : ℕ) → k < length xs → Member (slice_index xs k) xs
index-in xs k h = at (slice_get_cases xs k).1
  where
    at : ((x : ℕ) × (k < length xs) × (slice_get xs k ≡ Some x) × (get_or xs k x ≡ x)) ⊎ ((length xs ≤ k) × (slice_get xs k ≡ None)) → Member (slice_index xs k) xs
    at (inl z) = subst (λ y. Member y xs) (sym (get_or_from_slice_get xs k z.0 0 z.2)) (slice-member xs k z.0 z.2)
    at (inr z) = absurd (omega (arith, z.0))

module _ (t : Target) (f : Function) (tab : LaneTable) (all : NumbersAll t f tab) (rules : KeepsRules t f) where
  abbrev num : Owner → Option ℕ
  num o = number_in tab o

  numbers-apart : (o p : Owner) (n : ℕ) → num o ≡ Some n → num p ≡ Some n → o ≡ p
  numbers-apart o p n e g = some-same o p (sym (all.table.owned o n e) ∙ all.table.owned p n g)

  -- units

  flag-at : (u : ℕ) → u < length t.units → slice_get tab.reserved.items u ≡ Some (is_reserved_unit t u)
  flag-at u h = let z : 0 + u ≡ u = omega arith in ap (λ bs. slice_get bs u) all.reserved ∙ slice-numbers (is_reserved_unit t) 0 (length t.units) u h ∙ ap (λ m. Some (is_reserved_unit t m)) z

  flags-long : length tab.reserved.items ≡ length t.units
  flags-long = ap length all.reserved ∙ long 0 (length t.units)
    where
      long : (n k : ℕ) → length (map (is_reserved_unit t) (numbers n k)) ≡ k
      long n zero = refl
      long n (suc k) = ap (λ m. suc m) (long (suc n) k)

  unit-free : (u n : ℕ) → unit_number_in tab.reserved.items u ≡ Some n → is_reserved_unit t u ≡ false
  unit-free u n e = go (slice_get tab.reserved.items u) refl e
    where
      by : (b : Bool) → slice_get tab.reserved.items u ≡ Some b → cond b None (Some u) ≡ Some n → is_reserved_unit t u ≡ false
      by true g h = absurd (cc)
      by false g h =
          let k : u < length tab.reserved.items = slice_get_within tab.reserved.items u false g in
          let l : length tab.reserved.items ≡ length t.units = flags-long in
          some-same (is_reserved_unit t u) false (sym (flag-at u (omega arith)) ∙ g)

      go : (q : Option Bool) → slice_get tab.reserved.items u ≡ q → elim q [ None ↦ None | Some b ↦ cond b None (Some u) ] ≡ Some n → is_reserved_unit t u ≡ false
      go None g h = absurd (cc)
      go (Some b) g h = by b g h

  free : (l : Lane) (n : ℕ) → num (owner_of l) ≡ Some n → is_reserved t l ≡ false
  free (VirtualLane v k) n e = refl
  free (UnitLane u) n e = unit-free u n e
  free (SlotLane s k w) n e = refl

  unit-number : (u : ℕ) → u < length t.units → is_reserved_unit t u ≡ false → unit_number_in tab.reserved.items u ≡ Some u
  unit-number u h r = ap (λ (q : Option Bool). elim q [ None ↦ None | Some b ↦ cond b None (Some u) ]) (flag-at u h ∙ ap Some r)

  abbrev Numbered : Owner → Type 0
  Numbered o = (n : ℕ) × (num o ≡ Some n)

  unit-numbered : (u : ℕ) → u < length t.units → is_reserved_unit t u ≡ false → (n : ℕ) × (unit_number_in tab.reserved.items u ≡ Some n)
  unit-numbered u h r = (u, unit-number u h r)

  -- ranges

  row-number : (x : LaneSpan) (k count : ℕ) → x.count ≡ count → k < count → (n : ℕ) × (lane_in x.first x.count k ≡ Some n)
  row-number x k count e h = (x.first + k, ap (λ q. cond q (Some (x.first + k)) None) (lt-true k x.count (omega (arith, e))))

  range-numbered : (v k : ℕ) → has_class f (Virtual v) ≡ true → k < length (range_widths t f v) → (n : ℕ) × (row_number_in (slice_get tab.ranges.items v) k ≡ Some n)
  range-numbered v k c h = go (slice_get f.classes v) refl c h
    where
      same : option_map (λ x. x.count) (slice_get tab.ranges.items v) ≡ option_map (λ q. length (widths_of_some t q)) (slice_get f.classes v)
      same = sym (slice-map (λ x. x.count) tab.ranges.items v) ∙ ap (λ ns. slice_get ns v) all.ranges ∙ slice-map (λ q. length (widths_of_some t q)) f.classes v

      at : (q : Option LaneSpan) (n : ℕ) → slice_get tab.ranges.items v ≡ q → option_map (λ x. x.count) q ≡ Some n → k < n → (m : ℕ) × (row_number_in q k ≡ Some m)
      at None n e g h = absurd (cc)
      at (Some x) n e g h = row-number x k n (some-same x.count n g) h

      go : (q : Option (Option ClassId)) → slice_get f.classes v ≡ q → is_some (elim q [ None ↦ None | Some x ↦ x ]) ≡ true → k < length (widths_of_some t (elim q [ None ↦ None | Some x ↦ x ])) → (n : ℕ) × (row_number_in (slice_get tab.ranges.items v) k ≡ Some n)
      go None e g h = absurd (cc)
      go (Some x) e g h = at (slice_get tab.ranges.items v) (length (widths_of_some t x)) refl (same ∙ ap (option_map (λ q. length (widths_of_some t q))) e) h

  -- slots

  slot-numbered : (s k : ℕ) → IsSome (get nat_cmp tab.slots s) → k < 32 → (n : ℕ) × (row_number_in (get nat_cmp tab.slots s) k ≡ Some n)
  slot-numbered s k known h = go (get nat_cmp tab.slots s) refl known
    where
      go : (q : Option LaneSpan) → get nat_cmp tab.slots s ≡ q → IsSome q → (n : ℕ) × (row_number_in q k ≡ Some n)
      go None e g = absurd (cc)
      go (Some x) e g = row-number x k 32 (all.table.full s x e) h

  module _ (b : Block) (i : Instr) (mb : Member b f.blocks) (mi : Member i b.instrs) where
    abbrev T : Lane → Option ℕ
    T l = tag_of num (is_proper t) l

    by-owner : (l : Lane) → is_proper t l ≡ true → Numbered (owner_of l) → (n : ℕ) × (T l ≡ Some n)
    by-owner l p z = (z.0, ap (λ q. cond q (num (owner_of l)) None) p ∙ z.1)

    whole-numbered : (v : ℕ) (l : Lane) → has_class f (Virtual v) ≡ true → Member l (located_lanes t f (Virtual v) None) → (n : ℕ) × (T l ≡ Some n)
    whole-numbered v l c m =
        let z = map-of (VirtualLane v) l (numbers 0 (length (range_widths t f v))) m in
        let h = below z.0 0 (length (range_widths t f v)) z.1 in
        by-owner l (ap (is_proper t) z.2) (subst (λ x. Numbered (owner_of x)) (sym z.2) (range-numbered v z.0 c (omega arith)))

    located-numbered : (x : Loc) (q : Option IndexId) (l : Lane) → has_class f x ≡ true → index_fits t f x q ≡ true → Member l (located_lanes t f x q) → is_reserved t l ≡ false → (n : ℕ) × (T l ≡ Some n)
    located-numbered (Virtual v) None l c g m r = whole-numbered v l c m
    located-numbered (Virtual v) (Some x) l c g m r = whole-numbered v l c (index-lanes t f v x l rules.classes c g m)
    located-numbered (Fixed x) q l c g m r =
        let z = map-of (λ u. UnitLane u.0) l (units_of t x) m in
        by-owner l (ap (is_proper t) z.2) (subst (λ y. Numbered (owner_of y)) (sym z.2) (unit-numbered z.0.0 (unit-known t x z.0 z.1) (sym (ap (is_reserved t) z.2) ∙ r)))

    others-numbered : (o : RegOp) (l : Lane) → has_class f o.loc ≡ true → Member l (undefined_lanes t f o) → (n : ℕ) × (T l ≡ Some n)
    others-numbered o l c m = go (o.def && o.undef) o.loc c m
      where
        whole : (x : Loc) → has_class f x ≡ true → Member l (whole_lanes t f x) → (n : ℕ) × (T l ≡ Some n)
        whole (Virtual v) c k = whole-numbered v l c k
        whole (Fixed r) c k = absurd (member-none l k)

        go : (q : Bool) (x : Loc) → has_class f x ≡ true → Member l (cond q (whole_lanes t f x) []) → (n : ℕ) × (T l ≡ Some n)
        go true x c k = whole x c k
        go false x c k = absurd (member-none l k)

    named : NamesTagged t f T i
    named = record {
      lanes = λ o l m k r. lane o l m k r;
      units = λ u h r. by-owner (UnitLane u) refl (unit-numbered u h r);
    }
      where
        lane : (o : RegOp) (l : Lane) → Member o (registers i.operands) → Member l (operand_lanes t f o) ⊎ Member l (undefined_lanes t f o) → is_reserved t l ≡ false → (n : ℕ) × (T l ≡ Some n)
        lane o l m (inl k) r = located-numbered o.loc o.index l (class-there t f i (rules.shaped b i mb mi) o m) (index-there t f i (rules.shaped b i mb mi) o m) k r
        lane o l m (inr k) r = others-numbered o l (class-there t f i (rules.shaped b i mb mi) o m) k

    -- widths of operands are those of units, and there are few

    index-class : (v : ℕ) (x : IndexId) → has_class f (Virtual v) ≡ true → index_fits t f (Virtual v) (Some x) ≡ true → (c : ClassId) × (class_of f v ≡ Some c) × IsClass t c × (fits t c (Some x) ≡ true)
    index-class v x h g = go (class_of f v) refl h g
      where
        go : (q : Option ClassId) → class_of f v ≡ q → is_some q ≡ true → elim q [ None ↦ true | Some c ↦ fits t c (Some x) ] ≡ true → (c : ClassId) × (class_of f v ≡ Some c) × IsClass t c × (fits t c (Some x) ≡ true)
        go None e h g = absurd (cc)
        go (Some c) e h g = (c, e, rules.classes v c e, g)

    located-width : (x : Loc) (q : Option IndexId) (w : ℕ) → has_class f x ≡ true → index_fits t f x q ≡ true → Member w (located_widths t f x q) → IsWidth t w
    located-width (Virtual v) None w c g m = some-known t (class_of f v) w m
    located-width (Virtual v) (Some x) w c g m =
        let z = map-of (slice_index (range_widths t f v)) w (lanes_of t x) m in
        let k = index-class v x c g in
        let h : z.0 < length (widths_of t k.0) = fits-within t k.0 x z.0 k.2 k.3 z.1 in
        let long : length (range_widths t f v) ≡ length (widths_of t k.0) = ap (λ q. length (widths_of_some t q)) k.1 in
        some-known t (class_of f v) w (subst (λ y. Member y (range_widths t f v)) (sym z.2) (index-in (range_widths t f v) z.0 (omega arith)))
    located-width (Fixed r) q w c g m = widths-known t (units_of t r) w (unit-known t r) m

    fit-few : (rs : List Reg) (ks : List ℕ) → 0 < length rs → lanes_fit t.regs ks rs ≡ true → length ks ≤ 32
    fit-few [] ks h e = absurd (omega arith)
    fit-few (r ∷ rs) ks h e = placed-few t (reg_units t.regs r) ks (sub_place t.regs (reg_units t.regs r) ks) refl (first_of_both _ _ e)

    map-long : {X Y : Type 0} (g : X → Y) (xs : List X) → length (map g xs) ≡ length xs
    map-long g [] = refl
    map-long g (x ∷ xs) = ap (λ k. suc k) (map-long g xs)

    located-few : (x : Loc) (q : Option IndexId) → has_class f x ≡ true → index_fits t f x q ≡ true → length (located_widths t f x q) ≤ 32
    located-few (Virtual v) None c g = some-few t (class_of f v)
    located-few (Virtual v) (Some x) c g =
        let k = index-class v x c g in
        let h = fit-few (regs_of t k.0) (lanes_of t x) (class-registers t (slice_get t.classes k.0.0) k.0.0 refl k.2) k.3 in
        omega (arith, h, map-long (slice_index (range_widths t f v)) (lanes_of t x))
    located-few (Fixed r) q c g = let h = few-units t r in omega (arith, h, widths-long t (units_of t r))

    number-few : (ws : List ℕ) (k : Operand) (j : ℕ) → length ws ≤ 32 → Member j (slot_lane_numbers t ws k) → j < 32
    number-few ws (operands.Index x) j h m = index-rule t (slice_get t.indexes x.0) x.0 refl j m
    number-few ws (operands.Reg x) j h m = let g = below j 0 (length ws) m in omega arith
    number-few ws (operands.Imm x) j h m = let g = below j 0 (length ws) m in omega arith
    number-few ws (operands.Block x) j h m = let g = below j 0 (length ws) m in omega arith
    number-few ws (operands.Stack x) j h m = let g = below j 0 (length ws) m in omega arith
    number-few ws (operands.FixedStack x) j h m = let g = below j 0 (length ws) m in omega arith
    number-few ws (operands.Symbol x) j h m = let g = below j 0 (length ws) m in omega arith
    number-few ws (operands.Mask x) j h m = let g = below j 0 (length ws) m in omega arith

    slotted : SlotsTagged t f T i
    slotted o s k os l kind e m =
        let z = slot-lane-of s (slot_lane_numbers t (operand_widths t f o) k) (operand_widths t f o) l m in
        let known : Member o (registers i.operands) = subst (λ x. Member o (registers x)) (sym e) first in
        let c = class-there t f i (rules.shaped b i mb mi) o known in
        let g = index-there t f i (rules.shaped b i mb mi) o known in
        let few = number-few (operand_widths t f o) k z.0 (located-few o.loc o.index c g) z.2 in
        let y = member-slice b f.blocks mb in
        let j = member-slice i b.instrs mi in
        let there = all.slots y.0 b y.1 j.0 i s j.1 (ap (λ x. slot_at x 1) e) in
        by-owner l (ap (is_proper t) z.4 ∙ located-width o.loc o.index z.1 c g z.3) (subst (λ x. Numbered (owner_of x)) (sym z.4) (slot-numbered s z.0 there few))

  pub is-numbered : IsNumbered t f num
  is-numbered = record {
    numbering = record { names = numbers-apart; free = free };
    names = λ b i mb mi. named b i mb mi;
    slots = λ b i mb mi. slotted b i mb mi;
  }

pub table-law : TableLaw
table-law t f tab all rules = is-numbered t f tab all rules
