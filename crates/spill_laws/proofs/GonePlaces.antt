-- IMPLICIT_DEFs of the range, and constants that aren't needed any more.
use Rattle.std.proofs.Common.{◌≡◌, ◌∷◌, ◌++◌, ◌∙◌, ◌&&◌, ◌≤◌, ◌<◌, inl, not, ℕ, Bool, true, false, cond, List, Option, Some, None, filter, length, map, refl, sym, ap, subst, append-nil, arith, eq-eqb, []}
use Rattle.std.proofs.lemmas.List.{length-map}
use Rattle.std.proofs.lemmas.Bool.{ltb-true}
use Rattle.std.specs.Prelude.{is_some, nat_eq, nat_lt, option_and_then, slice_index, sum}
use Rattle.std.specs.List.{list_all, list_any}
use Rattle.target_base.specs.declared.types.ClassId.{ClassId}
use Rattle.target_base.specs.declared.types.Effect.{Effect}
use Rattle.target_base.specs.declared.types.Effect.TheVariants as effects
use Rattle.target_base.specs.declared.types.IndexId.{IndexId}
use Rattle.target_base.specs.declared.types.Target.{Target}
use Rattle.target_base.specs.Registers.{IsClass, fits, lanes_of, part_of, widths_of_some}
use Rattle.target_base.proofs.Tests.{first_of_both, second_of_both}
use Rattle.meaning.specs.Code.{Code, Item, Silent}
use Rattle.meaning.specs.Lanes.{Writes, filled, settled}
use Rattle.meaning.specs.Live.{Among as Member, here as first, LiveAfter, Writing, after_next}
use Rattle.meaning.specs.declared.types.Fill.TheVariants.{Moved}
use Rattle.meaning.specs.declared.types.Lane.{Lane}
use Rattle.meaning.specs.declared.types.Lane.TheVariants.{VirtualLane}
use Rattle.meaning.specs.declared.types.Source.{Source}
use Rattle.meaning.specs.declared.types.Source.TheVariants.{FromLane, Undef}
use Rattle.meaning.specs.declared.types.Write.{Write}
use Rattle.laws.proofs.Flow.{flow, kept_next}
use Rattle.mir_func.specs.declared.func.Loc.{Loc}
use Rattle.mir_func.specs.declared.func.Loc.TheVariants.{Fixed, Virtual}
use Rattle.mir_func.specs.declared.func.RegOp.{RegOp}
use Rattle.mir_func.specs.declared.func.Operand.{Operand}
use Rattle.mir_func.specs.declared.func.Operand.TheVariants as operands
use Rattle.mir_func.specs.declared.func.Instr.{Instr}
use Rattle.mir_func.specs.declared.func.Block.{Block}
use Rattle.mir_func.specs.Value.{Function}
use Rattle.mir_func.specs.Binding.{class_of, does, effect_of, is_early_clobber, passes, registers, roles_of}
use Rattle.mir_meaning.specs.Codes.{item_of}
use Rattle.mir_meaning.specs.Items.{constant_lanes, constant_of, defined_undef, given_constant, moved, undefined}
use Rattle.mir_meaning.specs.Places.{domain}
use Rattle.mir_meaning.specs.Points.{AtFirst, from_instr, is_range}
use Rattle.spiller.specs.Reaching.{Brings}
use Rattle.mir_meaning.specs.Registers.{is_reserved, located_lanes, operand_widths, range_widths, undefined_lanes, use_sources, whole_lanes}
use Rattle.mir_meaning.specs.Rules.{has_class, implicit_def_fits, index_fits}
use Rattle.instr_effects.proofs.Members.{either-elim, filter-of, member-none}
use Rattle.live_laws.proofs.Effects.Shapes.{class-there, index-there}
use Rattle.live_laws.proofs.Touch.Cells.{any-of}
use Rattle.live_laws.proofs.Touch.Roles.{met}
use Rattle.lowering_laws.proofs.Traced.{filled-free, is_lane_of, is_written, lanes_by}
use Rattle.lowering_laws.proofs.Widths.{class-alike, lying-widths, through_index}
use Rattle.lowering_laws.specs.Form.{is_undef_definition}
use Rattle.spiller.specs.Rematerialised.{Reading, all_readings, is_constant, is_needless, is_rematerialised, reaches}
use Rattle.spiller.specs.Setting.{Spilling, first_of, in_own_slot, is_live_behind, is_own, own_class, own_lanes, part_class, store, undef_use}
use Rattle.spiller.specs.Spilled.{becomes, in_place_of, undefined_change}
use Rattle.spill_laws.specs.Standing.{ChangeStands, IsAt, IsBeside, IsGone, IsSetting, IsSite, IsStored, KeptIn, LiveIn, NeedlessStand, PlaceStands, Stands, UndefinedStand, code_before, slot_lane}
use Rattle.spill_laws.proofs.Classes.{part-class}
use Rattle.spill_laws.proofs.Copies.{unreserved-there}
use Rattle.spill_laws.proofs.CopyPlaces.{none-of}
use Rattle.spill_laws.proofs.SlotPlaces.{definition-place, own-unwritten, silent-site, unstored-place, width}
use Rattle.spill_laws.proofs.Standing.{brought-here}
use Rattle.spill_laws.proofs.SlotWrites.{moved-lane, not-written, of-one, source_at, store_writes, stored-apart, stored-beside, undefined-lane, write-of}
use Rattle.spill_laws.proofs.SpillItems.{indexed, item-known, lane-range, own-at, own-lanes-are, store-effect, store-item}
use Rattle.spill_laws.proofs.TinyApart.{none-before}

abbrev undefs : List ℕ → List Source
undefs ks = map (λ k. Undef) ks

undefined-moved : (ls : List Lane) (ks : List ℕ) (v : ℕ) → undefined false (lanes_by v ks) ≡ moved false (lanes_by v ks) (undefs ks)
undefined-moved ls [] v = refl
undefined-moved ls (k ∷ ks) v = ap (λ ws. record { lane = VirtualLane v k; fill = Moved Undef; early = false } ∷ ws) (undefined-moved ls ks v)

source-undef : (ks : List ℕ) (qs : List ℕ) (k : ℕ) → source_at ks (undefs qs) k ≡ Undef
source-undef [] qs k = refl
source-undef (j ∷ ks) [] k = refl
source-undef (j ∷ ks) (q ∷ qs) k = go (nat_eq j k) (source-undef ks qs k)
  where
    go : (y : Bool) → source_at ks (undefs qs) k ≡ Undef → cond y Undef (source_at ks (undefs qs) k) ≡ Undef
    go true e = refl
    go false e = e

-- A definition of the range that is gone, and writes nothing else, stands as nothing.
module _ (s : Spilling) (d : ℕ) (ws : Writes) (p : Code) (site : IsSite s d (Silent [] ws) p) (only : (w : Write) → Member w ws → is_lane_of s.range w.lane ≡ true) (gone : IsGone s d) where
  abbrev x : Item
  x = Silent [] ws

  pub gone-place : PlaceStands s (Silent [] ws ∷ []) [] p
  gone-place = silent-site s d [] ws p [] site beside own
    where
      beside : (a : Lane) → IsBeside s a → KeptIn s p a → Stands s (Silent [] ws ∷ p) (settled (filled ws a)) (FromLane a)
      beside a b k =
          let f : filled ws a ≡ Moved (FromLane a) = filled-free ws a (not-written ws a (λ w m e. let q = only w m in let r : is_lane_of s.range w.lane ≡ is_lane_of s.range a = ap (is_lane_of s.range) e in let u = b.other in cc)) in
          subst (λ y. Stands s (Silent [] ws ∷ p) (settled y) (FromLane a)) (sym f) (inl (b, flow (is_reserved s.target) (code_before s) (Silent [] ws) p a a (kept_next (is_reserved s.target) (code_before s) (Silent [] ws) p a refl k) f, refl))

      own : (k : ℕ) → LiveIn s p (VirtualLane s.range k) → IsStored s k p → Stands s (Silent [] ws ∷ p) (settled (filled ws (VirtualLane s.range k))) (FromLane (slot_lane s k))
      own k l o = go (is_written ws (VirtualLane s.range k)) refl
        where
          go : (y : Bool) → is_written ws (VirtualLane s.range k) ≡ y → Stands s (Silent [] ws ∷ p) (settled (filled ws (VirtualLane s.range k))) (FromLane (slot_lane s k))
          go false e = own-unwritten s d (Silent [] ws) p site k (FromLane (slot_lane s k)) e l (inl (o, refl))
          go true e = absurd (o d (brought-here s d (Silent [] ws) p k site.from (write-of ws (VirtualLane s.range k) e) refl) gone)

module _ (s : Spilling) (g : Function) (z : IsSetting s g) (b c : Block) (i : Instr) (p : Code) (at : IsAt s b i p) where
  abbrev t : Target
  t = s.target

  abbrev f : Function
  f = s.func

  and-undef : (x y : Bool) → x ≡ true → (x && y) ≡ false → y ≡ false
  and-undef true y h e = e
  and-undef false y h e = absurd (cc)

  -- a definition that isn't `undef` makes no further lane Undef
  none-undefined : (o : RegOp) → Member o (registers i.operands) → o.def ≡ true → undefined_lanes t f o ≡ []
  none-undefined o m def =
      let plain : o.undef ≡ false = and-undef o.def o.undef def (none-of is_undef_definition o (registers i.operands) (none-before t i at.lowered) m) in
      ap (λ y. cond (o.def && y) (whole_lanes t f o.loc) []) plain ∙ ap (λ y. cond (y && false) (whole_lanes t f o.loc) []) def

  -- IMPLICIT_DEF
  module _ (o : RegOp) (known : effect_of t i ≡ Some effects.ImplicitDef) (are : i.operands ≡ operands.Reg o ∷ []) (own : is_own s o ≡ true) where
    there : Member o (registers i.operands)
    there = subst (λ os. Member o (registers os)) (sym are) first

    class-o : has_class f o.loc ≡ true
    class-o = class-there t f i at.shaped o there

    index-o : index_fits t f o.loc o.index ≡ true
    index-o = index-there t f i at.shaped o there

    abbrev ks : List ℕ
    ks = own_lanes s o.index

    abbrev given : Writes
    given = moved false (lanes_by s.range ks) (undefs ks)

    def : o.def ≡ true
    def = first_of_both o.def (not o.implicit) (subst (λ os. implicit_def_fits os ≡ true) are (met t f i effects.ImplicitDef known at.shaped.operands).3)

    item-is : item_of t f b i ≡ Silent [] given
    item-is =
        item-known t f b i effects.ImplicitDef known
        ∙ (ap (λ os. Silent [] (defined_undef t f os)) are
        ∙ ((λ j. Silent [] (undefined false (own-lanes-are s o own j ++ none-undefined o there def j)))
        ∙ ((λ j. Silent [] (undefined false (append-nil (lanes_by s.range ks) j)))
        ∙ ap (λ ws. Silent [] ws) (undefined-moved [] ks s.range))))

    site : IsSite s i.id (Silent [] given) p
    site = subst (λ x. IsSite s i.id x p) item-is at.site

    long : length ks ≤ length (undefs ks)
    long = let h : length (undefs ks) ≡ length ks = length-map ks (λ k. Undef) in omega (arith, h)

    -- no lane of it is live behind
    dropped : is_live_behind s i o.index ≡ false → ChangeStands s g b c i p (becomes [])
    dropped dead =
        subst (λ x. PlaceStands s (x ∷ []) [] p) (sym item-is)
        (unstored-place s i.id false ks (undefs ks) p long site (λ k e l q.
        let a : s.facts.live_behind i.id k ≡ true = (z.facts.live (i.id, k)).1 (subst (AtFirst (λ j r. LiveAfter (is_reserved t) (code_before s) j r (VirtualLane s.range k))) (sym site.from) (after_next refl l)) in
        let h : s.facts.live_behind i.id k ≡ false = none-of (s.facts.live_behind i.id) k ks dead (of-one ks k e) in
        cc))

    -- the class of the part, whose registers have its widths
    pub record PartWide : Type 0 where
      pub class : ClassId
      pub is : part_class t o.index (own_class s) ≡ Some class
      pub is_class : IsClass t class
      pub wide : operand_widths t g (undef_use t (Some class)) ≡ map (width s) ks

    part-wide : PartWide
    part-wide = go (class_of f s.range) refl (subst (λ l. has_class f l ≡ true) (own-at s.range o.loc own) class-o) (subst (λ l. index_fits t f l o.index ≡ true) (own-at s.range o.loc own) index-o)
      where
        through-is : (k : ClassId) → class_of f s.range ≡ Some k → (x : Option IndexId) → through_index t k x ≡ map (width s) (own_lanes s x)
        through-is k d None = sym (ap (widths_of_some t) d) ∙ sym (indexed (range_widths t f s.range))
        through-is k d (Some y) = ap (λ q. map (slice_index (widths_of_some t q)) (lanes_of t y)) (sym d)

        go : (q : Option ClassId) → class_of f s.range ≡ q → is_some q ≡ true → elim q as (λ q. Bool) [ None ↦ true | Some k ↦ fits t k o.index ] ≡ true → PartWide
        go None d n e = absurd (cc)
        go (Some k) d n e =
            let m = part-class t k o.index (z.classes s.range k d) e in
            let r = first_of (domain t (Some m.class)) in
            record {
              class = m.class;
              is = ap (option_and_then (λ b. part_of t b o.index)) d ∙ m.is;
              is_class = m.known;
              wide = class-alike t m.class r (unreserved-there s g z.keeps z.classes m.class m.known) ∙ (sym (lying-widths t k m.class o.index (z.classes s.range k d) m.lies) ∙ through-is k d o.index);
            }

    saved : let k = part_class t o.index (own_class s) in ChangeStands s g b c i p (becomes (in_place_of i (store t k (undef_use t k) (in_own_slot s o.index)) ∷ []))
    saved =
        let m = part-wide in
        let k = part_class t o.index (own_class s) in
        let y = in_place_of i (store t k (undef_use t k) (in_own_slot s o.index)) in
        let known' : effect_of t y ≡ Some effects.Spill = ap (λ q. effect_of t (store t q (undef_use t q) (in_own_slot s o.index))) m.is ∙ store-effect t m.class m.is_class (undef_use t (Some m.class)) (in_own_slot s o.index) in
        let wide' : operand_widths t g (undef_use t k) ≡ map (width s) ks = ap (λ q. operand_widths t g (undef_use t q)) m.is ∙ m.wide in
        let vs = store_writes s.slot (width s) t ks (use_sources t g (undef_use t k)) in
        subst (λ x. PlaceStands s (x ∷ []) (item_of t g c y ∷ []) p) (sym item-is)
        (subst (λ x. PlaceStands s (Silent [] given ∷ []) (x ∷ []) p) (sym (store-item s g c y (undef_use t k) o.index refl wide' known'))
        (definition-place s i.id false ks (undefs ks) p long site (vs ∷ []) (record {
          others = λ a e n. ap settled (filled-free vs a (stored-apart s.slot (width s) t ks (use_sources t g (undef_use t k)) a n));
          free = λ j e. ap settled (filled-free vs (slot_lane s j) (stored-beside s.slot (width s) t ks (use_sources t g (undef_use t k)) j (width s j) e));
          given = λ j e l q. subst (λ y. Stands s (Silent [] given ∷ p) y (settled (filled vs (slot_lane s j)))) (sym (source-undef ks ks j)) tt;
        })))

    pub undefined-stands : ChangeStands s g b c i p (undefined_change s i o)
    undefined-stands = go (is_own s o) (is_live_behind s i o.index) own refl
      where
        go : (x y : Bool) → x ≡ true → is_live_behind s i o.index ≡ y → let k = part_class t o.index (own_class s) in ChangeStands s g b c i p (cond (not x) (becomes (i ∷ [])) (cond y (becomes (in_place_of i (store t k (undef_use t k) (in_own_slot s o.index)) ∷ [])) (becomes [])))
        go true true h e = saved
        go true false h e = dropped e
        go false y h e = absurd (cc)

pub undefined_stand : UndefinedStand
undefined_stand s g b c i p o z at known are own = undefined-stands s g z b c i p at o known are own

module _ (s : Spilling) where
  -- what a constant writes are lanes of its definition
  pub constant-lane : (early : Bool) (os : List Operand) (w : Write) → Member w (given_constant s.target s.func early os) → (d : RegOp) × (o : Operand) × (rest : List Operand) × (os ≡ operands.Reg d ∷ o ∷ rest) × (is_lane_of s.range w.lane ≡ is_range s.range d.loc)
  constant-lane early [] w m = absurd (member-none w m)
  constant-lane early (operands.Reg d ∷ []) w m = absurd (member-none w m)
  constant-lane early (operands.Reg d ∷ o ∷ rest) w m = (
    d,
    o,
    rest,
    refl,
    either-elim w (moved early (located_lanes s.target s.func d.loc d.index) (constant_lanes s.target s.func d (constant_of (sum (operand_widths s.target s.func d)) o))) (undefined early (undefined_lanes s.target s.func d))
        (λ k. lane-range s s.func d.loc d.index w.lane (moved-lane early (located_lanes s.target s.func d.loc d.index) (constant_lanes s.target s.func d (constant_of (sum (operand_widths s.target s.func d)) o)) w k))
        (λ k. whole d.loc (d.def && d.undef) (undefined-lane early (undefined_lanes s.target s.func d) w k).0)
        m,
  )
    where
      whole : (l : Loc) (y : Bool) → Member w.lane (cond y (whole_lanes s.target s.func l) []) → is_lane_of s.range w.lane ≡ is_range s.range l
      whole (Virtual v) true h = lane-range s s.func (Virtual v) None w.lane h
      whole (Fixed r) true h = absurd (member-none w.lane h)
      whole l false h = absurd (member-none w.lane h)
  constant-lane early (x ∷ os) w m = absurd (member-none w m)

-- constants that aren't needed any more

module _ (s : Spilling) (g : Function) (z : IsSetting s g) (b c : Block) (i : Instr) (p : Code) (at : IsAt s b i p) (needless : is_needless s i ≡ true) (inside : Member i b.instrs) where
  -- a definition of the range reaches a reading, and the instruction is one
  defines-range : (k : ℕ) × Writing (item_of s.target s.func b i) (VirtualLane s.range k)
  defines-range =
      let rs = filter (reaches s i) (all_readings s) in
      let some = ltb-true 0 (length rs) (second_of_both (does is_constant s.target i) (nat_lt 0 (length rs)) (first_of_both (does is_constant s.target i && nat_lt 0 (length rs)) (list_all (is_rematerialised s) rs) needless)) in
      of rs some (λ r m. (filter-of (reaches s i) r (all_readings s) m).1)
    where
      of : (rs : List Reading) → 0 < length rs → ((r : Reading) → Member r rs → reaches s i r ≡ true) → (k : ℕ) × Writing (item_of s.target s.func b i) (VirtualLane s.range k)
      of [] h t = absurd (omega (arith, h))
      of (r ∷ rs) h t =
          let x = any-of (λ j. list_any (λ k. s.facts.reaches i.id k j.id) r.lanes) r.by (t r first) in
          let y = any-of (λ k. s.facts.reaches i.id k x.0.id) r.lanes x.2 in
          let w = (z.facts.reach (i.id, y.0, x.0.id)).0 y.2 in
          (y.0, (subst (AtFirst (λ j q. Brings (code_before s) (VirtualLane s.range y.0) j q (from_instr s.target s.func x.0.id s.func.blocks))) at.site.from w.0).0)

  gone-item : (early : Bool) → item_of s.target s.func b i ≡ Silent [] (given_constant s.target s.func early i.operands) → ChangeStands s g b c i p (becomes [])
  gone-item early item =
      let ws = given_constant s.target s.func early i.operands in
      let d = defines-range in
      let v = subst (λ x. Writing x (VirtualLane s.range d.0)) item d.1 in
      let a = constant-lane s early i.operands v.0 v.1 in
      let own : is_range s.range a.0.loc ≡ true = sym a.4 ∙ (ap (is_lane_of s.range) v.2 ∙ eq-eqb s.range s.range refl) in
      subst (λ x. PlaceStands s (x ∷ []) [] p) (sym item)
      (gone-place s i.id ws p (subst (λ x. IsSite s i.id x p) item at.site)
      (λ w m. let e = constant-lane s early i.operands w m in e.4 ∙ (ap (λ (o : RegOp). is_range s.range o.loc) (first-same e.0 a.0 e.1 a.1 e.2 a.2 (sym e.3 ∙ a.3)) ∙ own))
      (record { block = b; instr = i; there = at.block; inside = inside; named = refl; needless = needless }))
    where
      first-same : (d e : RegOp) (x y : Operand) (xs ys : List Operand) → operands.Reg d ∷ x ∷ xs ≡ operands.Reg e ∷ y ∷ ys → d ≡ e
      first-same d e x y xs ys q = cc

  pub needless-stands : ChangeStands s g b c i p (becomes [])
  needless-stands = go (effect_of s.target i) refl (first_of_both (does is_constant s.target i) (nat_lt 0 (length (filter (reaches s i) (all_readings s)))) (first_of_both (does is_constant s.target i && nat_lt 0 (length (filter (reaches s i) (all_readings s)))) (list_all (is_rematerialised s) (filter (reaches s i) (all_readings s))) needless))
    where
      go : (q : Option Effect) → effect_of s.target i ≡ q → passes is_constant q ≡ true → ChangeStands s g b c i p (becomes [])
      go None e h = absurd (cc)
      go (Some effects.Const) e h = gone-item (is_early_clobber (roles_of s.target i)) (item-known s.target s.func b i effects.Const e)
      go (Some effects.Addr) e h = gone-item (is_early_clobber (roles_of s.target i)) (item-known s.target s.func b i effects.Addr e)
      go (Some x) e h = absurd (cc)

pub needless_stand : NeedlessStand
needless_stand s g b c i p z at inside needless = needless-stands s g z b c i p at needless inside
