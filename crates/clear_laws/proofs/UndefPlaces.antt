-- IMPLICIT_DEFs of the range: a store of an `undef` register stands in their place, or nothing.
use Rattle.std.proofs.Common.{◌≡◌, ◌≤◌, ◌∷◌, ◌++◌, ◌∙◌, ℕ, Bool, true, false, cond, List, Option, Some, None, length, map, refl, sym, ap, subst, arith, append-nil, eq-eqb, []}
use Rattle.std.proofs.lemmas.List.{length-map}
use Rattle.std.specs.Prelude.{is_some, option_and_then, slice_index}
use Rattle.target_base.specs.declared.types.ClassId.{ClassId}
use Rattle.target_base.specs.declared.types.Effect.TheVariants as effects
use Rattle.target_base.specs.declared.types.IndexId.{IndexId}
use Rattle.target_base.specs.declared.types.Target.{Target}
use Rattle.target_base.specs.Registers.{IsClass, fits, lanes_of, part_of, widths_of_some}
use Rattle.target_base.specs.Rules.{is_phi}
use Rattle.target_base.proofs.Tests.{first_of_both}
use Rattle.meaning.specs.Code.{Code, Silent}
use Rattle.meaning.specs.Lanes.{Writes}
use Rattle.meaning.specs.Live.{Among as Member, here as first}
use Rattle.meaning.specs.declared.types.Fill.TheVariants.{Moved}
use Rattle.meaning.specs.declared.types.Lane.{Lane}
use Rattle.meaning.specs.declared.types.Lane.TheVariants.{VirtualLane}
use Rattle.meaning.specs.declared.types.Source.{Source}
use Rattle.meaning.specs.declared.types.Source.TheVariants.{FromLane, Undef}
use Rattle.meaning.specs.declared.types.Write.{Write}
use Rattle.mir_func.specs.declared.func.RegOp.{RegOp}
use Rattle.mir_func.specs.declared.func.Operand.TheVariants as operands
use Rattle.mir_func.specs.declared.func.Instr.{Instr}
use Rattle.mir_func.specs.declared.func.Block.{Block}
use Rattle.mir_func.specs.Value.{Function}
use Rattle.mir_func.specs.Binding.{class_of, effect_of, passes, registers}
use Rattle.mir_meaning.specs.Codes.{item_of}
use Rattle.mir_meaning.specs.Items.{defined_undef, moved, undefined}
use Rattle.mir_meaning.specs.Places.{domain}
use Rattle.mir_meaning.specs.Registers.{located_lanes, operand_widths, range_widths, undefined_lanes, use_sources, whole_lanes}
use Rattle.mir_meaning.specs.Rules.{has_class, implicit_def_fits, index_fits}
use Rattle.instr_effects.proofs.Members.{map-of}
use Rattle.live_laws.proofs.Effects.Shapes.{class-there, index-there}
use Rattle.live_laws.proofs.Touch.Roles.{met}
use Rattle.lowering_laws.proofs.Silently.{lanes-count}
use Rattle.lowering_laws.proofs.Traced.{is_lane_of, lanes_by}
use Rattle.lowering_laws.proofs.Widths.{class-alike, lying-widths, through_index}
use Rattle.lowering_laws.specs.Form.{is_undef_definition}
use Rattle.spiller.specs.Setting.{Spilling, first_of, in_own_slot, is_live_behind, is_own, own_class, own_lanes, part_class, store, undef_use}
use Rattle.spiller.specs.Spilled.{in_place_of, spilled}
use Rattle.spill_laws.specs.Standing.{IsAt, IsSetting, IsSite}
use Rattle.spill_laws.proofs.Classes.{part-class as part-of-class}
use Rattle.spill_laws.proofs.Copies.{unreserved-there}
use Rattle.spill_laws.proofs.CopyPlaces.{none-of}
use Rattle.spill_laws.proofs.SlotPlaces.{width}
use Rattle.spill_laws.proofs.SlotWrites.{moved-lane, source-among, store_writes}
use Rattle.spill_laws.proofs.SpillItems.{indexed, item-known, own-at, own-lanes-are, store-effect, store-item}
use Rattle.spill_laws.proofs.TinyApart.{none-before}
use Rattle.clear_laws.proofs.GoneForms.{dropped-goes}
use Rattle.clear_laws.proofs.MovePlaces.{goes-kept}
use Rattle.clear_laws.proofs.SilentForms.{range-number, storing-replaces}
use Rattle.clear_laws.proofs.SilentPlaces.{KeptAs, as-one}

undefined-moved : (v : ℕ) (ks : List ℕ) → undefined false (lanes_by v ks) ≡ moved false (lanes_by v ks) (map (λ k. Undef) ks)
undefined-moved v [] = refl
undefined-moved v (k ∷ ks) = ap (λ ws. record { lane = VirtualLane v k; fill = Moved Undef; early = false } ∷ ws) (undefined-moved v ks)

undef-source : {X : Type 0} (xs : List X) (q : Source) → Member q (map (λ x. Undef) xs) → q ≡ Undef
undef-source xs q m = let y = map-of (λ x. Undef) q xs m in y.2

module _ (s : Spilling) (z : IsSetting s (spilled s)) (b c : Block) (i : Instr) (p : Code) (at : IsAt s b i p) (phi : passes is_phi (effect_of s.target i) ≡ false)
    (o : RegOp) (known : effect_of s.target i ≡ Some effects.ImplicitDef) (are : i.operands ≡ operands.Reg o ∷ []) (own : is_own s o ≡ true) where
  abbrev t : Target
  t = s.target

  abbrev f : Function
  f = s.func

  abbrev g : Function
  g = spilled s

  there : Member o (registers i.operands)
  there = subst (λ os. Member o (registers os)) (sym are) first

  class-o : has_class f o.loc ≡ true
  class-o = class-there t f i at.shaped o there

  index-o : index_fits t f o.loc o.index ≡ true
  index-o = index-there t f i at.shaped o there

  abbrev ks : List ℕ
  ks = own_lanes s o.index

  abbrev blanks : List Source
  blanks = map (λ k. Undef) ks

  abbrev blank-writes : Writes
  blank-writes = moved false (lanes_by s.range ks) blanks

  def : o.def ≡ true
  def = first_of_both o.def _ (subst (λ os. implicit_def_fits os ≡ true) are (met t f i effects.ImplicitDef known at.shaped.operands).3)

  none-undefined : undefined_lanes t f o ≡ []
  none-undefined = ap (λ y. cond y (whole_lanes t f o.loc) []) (none-of is_undef_definition o (registers i.operands) (none-before t i at.lowered) there)

  blank-item : item_of t f b i ≡ Silent [] blank-writes
  blank-item =
      item-known t f b i effects.ImplicitDef known
      ∙ (ap (λ os. Silent [] (defined_undef t f os)) are
      ∙ ((λ j. Silent [] (undefined false (own-lanes-are s o own j ++ none-undefined j)))
      ∙ ((λ j. Silent [] (undefined false (append-nil (lanes_by s.range ks) j)))
      ∙ ap (λ ws. Silent [] ws) (undefined-moved s.range ks))))

  site : IsSite s i.id (Silent [] blank-writes) p
  site = subst (λ x. IsSite s i.id x p) blank-item at.site

  lane-number : (w : Write) → Member w blank-writes → (k : ℕ) × Member k ks × (w.lane ≡ VirtualLane s.range k)
  lane-number w m = let y = map-of (VirtualLane s.range) w.lane ks (moved-lane false (lanes_by s.range ks) blanks w m) in (y.0, y.1, y.2)

  -- no lane of it is live behind
  pub undefined-dropped : is_live_behind s i o.index ≡ false → KeptAs s z b c i p at phi []
  undefined-dropped dead =
      goes-kept s z b c i p at phi (Silent [] blank-writes) blank-item
      (dropped-goes s i.id blank-writes p site (λ w m. let y = lane-number w m in ap (is_lane_of s.range) y.2 ∙ eq-eqb s.range s.range refl) g z (λ k w. (let y = lane-number w.0 w.1 in
      let same : y.0 ≡ k = range-number s.range y.0 k (sym y.2 ∙ w.2) in
      subst (λ n. s.facts.live_behind i.id n ≡ false) same (none-of (s.facts.live_behind i.id) y.0 ks dead y.1))))

  -- the class of the part, whose registers have its widths
  record PartWide : Type 0 where
    pub class : ClassId
    pub is : part_class t o.index (own_class s) ≡ Some class
    pub is_class : IsClass t class
    pub wide : operand_widths t g (undef_use t (Some class)) ≡ map (width s) ks

  part-wide : PartWide
  part-wide = go (class_of f s.range) refl (subst (λ l. has_class f l ≡ true) (own-at s.range o.loc own) class-o) (subst (λ l. index_fits t f l o.index ≡ true) (own-at s.range o.loc own) index-o)
    where
      through-is : (k : ClassId) → class_of f s.range ≡ Some k → (x : Option IndexId) → through_index t k x ≡ map (width s) (own_lanes s x)
      through-is k d None = sym (ap (widths_of_some t) d) ∙ sym (indexed (range_widths t f s.range))
      through-is k d (Some y) = ap (λ q. map (slice_index (widths_of_some t q)) (lanes_of t y)) (sym d)

      go : (q : Option ClassId) → class_of f s.range ≡ q → is_some q ≡ true → elim q as (λ q. Bool) [ None ↦ true | Some k ↦ fits t k o.index ] ≡ true → PartWide
      go None d n e = absurd (cc)
      go (Some k) d n e =
          let m = part-of-class t k o.index (z.classes s.range k d) e in
          let r = first_of (domain t (Some m.class)) in
          record {
            class = m.class;
            is = ap (option_and_then (λ b. part_of t b o.index)) d ∙ m.is;
            is_class = m.known;
            wide = class-alike t m.class r (unreserved-there s g z.keeps z.classes m.class m.known) ∙ (sym (lying-widths t k m.class o.index (z.classes s.range k d) m.lies) ∙ through-is k d o.index);
          }

  abbrev stored-class : Option ClassId
  stored-class = part_class t o.index (own_class s)

  pub undefined-stored : KeptAs s z b c i p at phi (in_place_of i (store t stored-class (undef_use t stored-class) (in_own_slot s o.index)) ∷ [])
  undefined-stored =
      let m = part-wide in
      let y = in_place_of i (store t stored-class (undef_use t stored-class) (in_own_slot s o.index)) in
      let us = use_sources t g (undef_use t stored-class) in
      let known' : effect_of t y ≡ Some effects.Spill = ap (λ q. effect_of t (store t q (undef_use t q) (in_own_slot s o.index))) m.is ∙ store-effect t m.class m.is_class (undef_use t (Some m.class)) (in_own_slot s o.index) in
      let wide' : operand_widths t g (undef_use t stored-class) ≡ map (width s) ks = ap (λ q. operand_widths t g (undef_use t q)) m.is ∙ m.wide in
      let long : length ks ≤ length blanks = let e = length-map ks (λ (k : ℕ). Undef) in omega (arith, e) in
      let lanes-long = length-map (located_lanes t g (undef_use t stored-class).loc None) (λ (l : Lane). Undef) in
      let count = lanes-count t g (undef_use t stored-class).loc None in
      let widths-long = ap length wide' ∙ length-map ks (width s) in
      let also : length ks ≤ length us = omega (arith, lanes-long, count, widths-long) in
      as-one s z b c i p at phi y (Silent [] blank-writes) (Silent [] (store_writes s.slot (width s) t ks us)) (ap (passes is_phi) known') blank-item (store-item s g c y (undef_use t stored-class) o.index refl wide' known')
      (storing-replaces s i.id false ks blanks us p long also site
      (λ a q. absurd (let e = undef-source (located_lanes t g (undef_use t stored-class).loc None) (FromLane a) q in cc))
      (λ k l one e. absurd (let q = undef-source (located_lanes t g (undef_use t stored-class).loc None) (FromLane l) (subst (λ y. Member y us) e (source-among ks us k also one)) in cc)))
