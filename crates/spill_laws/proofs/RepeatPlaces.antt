-- A copy from the range to another register stands as the constant that is repeated for it.
use Rattle.std.proofs.Common.{◌≡◌, ◌∷◌, ◌∙◌, ◌&&◌, ◌≤◌, inl, inr, ℕ, Bool, true, false, cond, List, Option, Some, None, flat_map, length, map, refl, sym, ap, subst, arith, eq-eqb, []}
use Rattle.std.proofs.lemmas.List.{length-map}
use Rattle.std.specs.List.{list_any}
use Rattle.target_base.specs.declared.types.ClassId.{ClassId}
use Rattle.target_base.specs.declared.types.IndexId.{IndexId}
use Rattle.target_base.specs.declared.types.Target.{Target}
use Rattle.meaning.specs.Code.{Code, Silent}
use Rattle.meaning.specs.Lanes.{Writes, filled}
use Rattle.meaning.specs.Live.{Among as Member, here as first, Writing, writes_of}
use Rattle.meaning.specs.declared.types.Fill.TheVariants.{Moved}
use Rattle.meaning.specs.declared.types.Lane.{Lane}
use Rattle.meaning.specs.declared.types.Lane.TheVariants.{VirtualLane}
use Rattle.meaning.specs.declared.types.Source.{Source}
use Rattle.mir_func.specs.declared.func.Loc.{Loc}
use Rattle.mir_func.specs.declared.func.RegOp.{RegOp}
use Rattle.mir_func.specs.declared.func.Operand.{Operand}
use Rattle.mir_func.specs.declared.func.Operand.TheVariants as operands
use Rattle.mir_func.specs.declared.func.Instr.{Instr}
use Rattle.mir_func.specs.declared.func.Block.{Block}
use Rattle.mir_func.specs.Value.{Function}
use Rattle.mir_func.specs.Binding.{does, is_early_clobber, registers, roles_of}
use Rattle.mir_meaning.specs.Codes.{item_of}
use Rattle.mir_meaning.specs.Items.{given_constant, moved}
use Rattle.mir_meaning.specs.Points.{AtFirst, from_instr, is_range}
use Rattle.mir_meaning.specs.Registers.{located_lanes, located_widths, range_widths}
use Rattle.instr_effects.proofs.Members.{filter-of}
use Rattle.live_laws.proofs.Effects.Moving.{some-same}
use Rattle.live_laws.proofs.Touch.Cells.{any-of}
use Rattle.lowering_laws.proofs.RulesStay.{lanes, widths}
use Rattle.lowering_laws.proofs.Traced.{is_lane_of, lanes_by}
use Rattle.lowering_laws.specs.Form.{is_undef_definition}
use Rattle.spiller.specs.Reaching.{Brings}
use Rattle.spiller.specs.Rematerialised.{Holding, Never, Reading, Wish, Within, copy_reading, copy_wish, if_serves, if_whole, is_constant, reaches, reaching, repeatable_class, repeated, repeated_for, serves, whole_class}
use Rattle.spiller.specs.Setting.{Spilling, class_beside, in_own_slot, own_lanes, plain_definition, reload}
use Rattle.spiller.specs.Spilled.{Change, becomes, copied_out, in_place_of}
use Rattle.spill_laws.specs.Standing.{ChangeStands, IsConstant, IsRepeated, IsSetting, IsSite, PlaceStands, RepeatsStand, code_before, code_from}
use Rattle.spill_laws.proofs.Constants.{ConstantOperands, by-numbers, const_sources, constant-item, constant-operands, given-is, repeated-item, sources-constant, sources-long}
use Rattle.spill_laws.proofs.CopyPlaces.{class-d, from-item, none-of, wide, written-away}
use Rattle.spill_laws.proofs.GonePlaces.{constant-lane}
use Rattle.spill_laws.proofs.Opcodes.{Repeats, repeats-for}
use Rattle.spill_laws.proofs.Reached.{reading-repeated}
use Rattle.spill_laws.proofs.SlotPlaces.{copy-place, range_source, width}
use Rattle.spill_laws.proofs.SlotWrites.{one-of, range-given, source-among, source_at, write-of}
use Rattle.spill_laws.proofs.SpillItems.{numbers-long, other-beside, own-lanes-are, own-widths-are, unslotted}
use Rattle.spill_laws.proofs.TinyApart.{none-before}

nothing-wished : (t : Target) (k : Option ClassId) → serves t Never k ≡ true → ⊥
nothing-wished t None h = cc
nothing-wished t (Some k) h = cc

no-class : (t : Target) (w : Wish) → serves t w None ≡ true → ⊥
no-class t Never h = cc
no-class t (Within None) h = cc
no-class t (Within (Some c)) h = cc
no-class t (Holding r) h = cc

-- What is repeated for a reading of the range is a constant for all of it.
module _ (s : Spilling) (g : Function) (z : IsSetting s g) (r : Reading) (x : Instr) (is : repeated_for s r ≡ Some x) where
  abbrev t : Target
  t = s.target

  abbrev f : Function
  f = s.func

  all : Repeats s r x
  all = repeats-for s r x is

  pub constant : does is_constant t x ≡ true
  constant = all.constant

  pub operands-of : ConstantOperands x.operands
  operands-of = constant-operands t f x (z.shaped all.block x all.there all.inside).operands all.constant

  reaches-it : reaches s x r ≡ true
  reaches-it = (filter-of (λ d. reaches s d r) x (flat_map (λ b. b.instrs) f.blocks) (one (reaching s r) is)).1
    where
      one : (ds : List Instr) → if_serves t r.wish ds ≡ Some x → Member x ds
      one [] e = absurd (cc)
      one (d ∷ []) e = by (serves t r.wish (repeatable_class t d)) e
        where
          by : (y : Bool) → cond y (Some d) None ≡ Some x → Member x (d ∷ [])
          by true e = subst (λ q. Member q (d ∷ [])) (some-same d x e) first
          by false e = absurd (cc)
      one (d ∷ u ∷ ds) e = absurd (cc)

  abbrev early : Bool
  early = is_early_clobber (roles_of t x)

  -- it defines the range
  owned : is_range s.range operands-of.definition.loc ≡ true
  owned =
      let a = any-of (λ j. list_any (λ k. s.facts.reaches x.id k j.id) r.lanes) r.by reaches-it in
      let b = any-of (λ k. s.facts.reaches x.id k a.0.id) r.lanes a.2 in
      let w = (z.facts.reach (x.id, b.0, a.0.id)).0 b.2 in
      let at = z.stands all.block x all.there all.inside in
      let v = (subst (AtFirst (λ j q. Brings (code_before s) (VirtualLane s.range b.0) j q (from_instr t f a.0.id f.blocks))) at.1 w.0).0 in
      let v' : Writing (Silent [] (given_constant t f early x.operands)) (VirtualLane s.range b.0) = subst (λ y. Writing y (VirtualLane s.range b.0)) (constant-item t f all.block x all.constant) v in
      let e = constant-lane s early x.operands v'.0 v'.1 in
      let own : is_range s.range e.0.loc ≡ true = sym e.4 ∙ (ap (is_lane_of s.range) v'.2 ∙ eq-eqb s.range s.range refl) in
      ap (λ (d : RegOp). is_range s.range d.loc) (first-same operands-of.definition e.0 operands-of.operand e.1 [] e.2 (sym operands-of.are ∙ e.3)) ∙ own
    where
      first-same : (d e : RegOp) (x y : Operand) (xs ys : List Operand) → operands.Reg d ∷ x ∷ xs ≡ operands.Reg e ∷ y ∷ ys → d ≡ e
      first-same d e x y xs ys q = cc

  -- all of it
  whole : operands-of.definition.index ≡ None
  whole = go (repeatable_class t x) refl all.serving
    where
      by-index : (y : Option IndexId) (k : ClassId) (q : Option ClassId) → elim y as (λ y. Option ClassId) [ None ↦ q | Some w ↦ None ] ≡ Some k → y ≡ None
      by-index None k q e = refl
      by-index (Some w) k q e = absurd (cc)

      go : (q : Option ClassId) → repeatable_class t x ≡ q → serves t r.wish q ≡ true → operands-of.definition.index ≡ None
      go None e h = absurd (no-class t r.wish h)
      go (Some k) e h = by-index operands-of.definition.index k _ (sym (ap (whole_class t x) operands-of.are) ∙ (sym (ap (λ y. cond y (whole_class t x x.operands) None) all.constant) ∙ e))

  -- a reading that it serves is of the whole range
  pub wholly : (y : Option IndexId) (w : Wish) → r.wish ≡ if_whole y w → y ≡ None
  wholly None w e = refl
  wholly (Some k) w e = absurd (nothing-wished t (repeatable_class t x) (subst (λ q. serves t q (repeatable_class t x) ≡ true) e all.serving))

  abbrev ks : List ℕ
  ks = own_lanes s None

  pub gives : List Source
  gives = const_sources operands-of.operand (map (width s) (own_lanes s None))

  pub gives-long : length gives ≡ length ks
  unfolding gives
  gives-long = sources-long operands-of.operand (map (width s) ks) operands-of.always ∙ length-map ks (width s)

  pub gives-by-number : map (source_at ks gives) ks ≡ gives
  gives-by-number = let h = numbers-long 0 (length (range_widths t f s.range)) in by-numbers 0 (length (range_widths t f s.range)) gives (gives-long ∙ h)

  pub gives-constant : (q : Source) → Member q gives → IsConstant q
  unfolding gives
  gives-constant q m = sources-constant operands-of.operand (map (width s) ks) q m

  own-item : item_of t f all.block x ≡ Silent [] (moved early (lanes_by s.range ks) gives)
  unfolding gives
  own-item =
      let d = operands-of.definition in
      let q = operands-of.operand in
      let plain : (d.def && d.undef) ≡ false = none-of is_undef_definition d (registers x.operands) (none-before t x (z.lowered all.block x all.there all.inside)) (subst (λ os. Member d (registers os)) (sym operands-of.are) first) in
      constant-item t f all.block x all.constant
      ∙ (ap (λ ws. Silent [] ws) (given-is t f early x.operands d q operands-of.are plain)
      ∙ ((λ j. Silent [] (moved early (own-lanes-are s d owned j) (const_sources q (own-widths-are s d owned j))))
      ∙ (λ j. Silent [] (moved early (lanes_by s.range (own_lanes s (whole j))) (const_sources q (map (width s) (own_lanes s (whole j))))))))

  -- what a lane of the range holds where this definition alone is there
  module _ (j : ℕ) (there : Member j ks) (p : Code) (only : (d : ℕ) → (AtFirst (λ i q. Brings (code_before s) (VirtualLane s.range j) i q p) (code_from s d)) → d ≡ x.id) where
    long : length ks ≤ length gives
    long = let h = gives-long in omega (arith, h)

    pub is-repeated : IsRepeated s j p (source_at ks gives j)
    is-repeated = record {
      by = x.id;
      only = only;
      gives =
          let at = z.stands all.block x all.there all.inside in
          let item = own-item in
          subst (AtFirst (λ i q. filled (writes_of i) (VirtualLane s.range j) ≡ Moved (source_at ks gives j))) (sym at.1)
          (subst (λ y. filled (writes_of y) (VirtualLane s.range j) ≡ Moved (source_at ks gives j)) (sym item) (range-given s.range early ks gives j long (one-of ks j there)));
      constant = gives-constant (source_at ks gives j) (source-among ks gives j long (one-of ks j there));
    }

  -- the instruction that repeats it, for a register with the widths of the range
  pub repeating-item : (c : Block) (l : Loc) (k : Option IndexId) → located_widths t g l k ≡ map (width s) ks → item_of t g c (repeated x (plain_definition l k)) ≡ Silent [] (moved early (located_lanes t g l k) (map (source_at ks gives) ks))
  unfolding gives
  repeating-item c l k w =
      repeated-item t g c x l k all.constant operands-of
      ∙ ((λ j. Silent [] (moved early (located_lanes t g l k) (const_sources operands-of.operand (w j))))
      ∙ ap (λ qs. Silent [] (moved early (located_lanes t g l k) qs)) (sym gives-by-number))

pub repeats_stand : RepeatsStand
repeats_stand s g b c i x p d o z at known are other own is =
    subst (ChangeStands s g b c i p) (sym change)
    (subst (λ y. PlaceStands s (y ∷ []) (item_of s.target g c new ∷ []) p) (sym first-item)
    (subst (λ y. PlaceStands s (Silent [] copies ∷ []) (y ∷ []) p) (sym second-item)
    (copy-place s i.id (is_early_clobber (roles_of s.target x)) ls (own_lanes s None) p (subst (λ y. IsSite s i.id y p) first-item at.site)
    (λ a m. (other-beside s d.loc d.index other (class-d s g z b c i p at d o known are) a m).other) (λ a m. unslotted s s.func d.loc d.index a m)
    (source_at (own_lanes s None) (gives s g z r x is))
    (λ j a beside m e kept. inr (is-repeated s g z r x is j m (Silent [] copies ∷ p)
    (λ n brought. reading-repeated s z.facts i (Silent [] copies) p (at.site.from ∙ ap (λ y. y ∷ p) first-item) j (inr (a, inl (write-of copies a (written-away s copies a j beside e)), inl e, kept)) r first (subst (λ y. Member j (own_lanes s y)) (sym index) m) x is n brought))))))
  where
    r : Reading
    r = copy_reading s i d o

    ls : List Lane
    ls = located_lanes s.target s.func d.loc d.index

    copies : Writes
    copies = moved false (located_lanes s.target s.func d.loc d.index) (map (range_source s) (own_lanes s None))

    new : Instr
    new = repeated x (plain_definition d.loc d.index)

    index : o.index ≡ None
    index = wholly s g z (copy_reading s i d o) x is o.index (copy_wish d.loc) refl

    first-item : item_of s.target s.func b i ≡ Silent [] (moved false (located_lanes s.target s.func d.loc d.index) (map (range_source s) (own_lanes s None)))
    first-item = from-item s g z b c i p at d o known are own ∙ ap (λ y. Silent [] (moved false (located_lanes s.target s.func d.loc d.index) (map (range_source s) (own_lanes s y)))) index

    wide-new : located_widths s.target g d.loc d.index ≡ map (width s) (own_lanes s None)
    wide-new = widths s.target s.func g z.keeps d.loc d.index (class-d s g z b c i p at d o known are) ∙ (wide s g z b c i p at d o known are ∙ (own-widths-are s o own ∙ ap (λ y. map (width s) (own_lanes s y)) index))

    second-item : item_of s.target g c (repeated x (plain_definition d.loc d.index)) ≡ Silent [] (moved (is_early_clobber (roles_of s.target x)) (located_lanes s.target s.func d.loc d.index) (map (source_at (own_lanes s None) (gives s g z (copy_reading s i d o) x is)) (own_lanes s None)))
    second-item = repeating-item s g z (copy_reading s i d o) x is c d.loc d.index wide-new ∙ ap (λ l. Silent [] (moved (is_early_clobber (roles_of s.target x)) l (map (source_at (own_lanes s None) (gives s g z (copy_reading s i d o) x is)) (own_lanes s None)))) (lanes s.target s.func g z.keeps d.loc d.index (class-d s g z b c i p at d o known are))

    change : copied_out s i d o ≡ record { tinies = []; before = repeated x (plain_definition d.loc d.index) ∷ []; own = []; behind = [] }
    change = ap (λ q. elim q as (λ q. Change) [
      | None ↦ becomes (in_place_of i (reload s.target (class_beside s d d.loc) (plain_definition d.loc d.index) (in_own_slot s o.index)) ∷ [])
      | Some x ↦ record (becomes []) { before = repeated x (plain_definition d.loc d.index) ∷ [] }
    ]) is
