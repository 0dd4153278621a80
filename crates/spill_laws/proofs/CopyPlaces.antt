-- A copy that names the range stands as a store or a reload, as both or as nothing.
use Rattle.std.proofs.Common.{◌≡◌, ◌∷◌, ◌++◌, ◌∙◌, ◌&&◌, ◌||◌, ◌≤◌, inl, inr, not, ℕ, Bool, true, false, cond, List, Option, Some, None, flat_map, length, map, refl, sym, ap, subst, append-nil, arith, eq-eqb, []}
use Rattle.std.proofs.lemmas.List.{length-map}
use Rattle.std.specs.List.{list_any}
use Rattle.target_base.specs.declared.types.Effect.TheVariants as effects
use Rattle.target_base.specs.declared.types.IndexId.{IndexId}
use Rattle.target_base.specs.declared.types.Target.{Target}
use Rattle.target_base.specs.Registers.{widths_of_some}
use Rattle.target_base.specs.Rules.{is_copy}
use Rattle.target_base.specs.Storage.{same_numbers}
use Rattle.target_base.proofs.Tests.{first_of_both, second_of_both}
use Rattle.meaning.specs.Code.{Code, Silent}
use Rattle.meaning.specs.Lanes.{Writes, filled}
use Rattle.meaning.specs.Live.{Among as Member, here as first, there as later, KeptAfter, Writing}
use Rattle.meaning.specs.declared.types.Fill.TheVariants.{Moved}
use Rattle.meaning.specs.declared.types.Lane.{Lane}
use Rattle.meaning.specs.declared.types.Lane.TheVariants.{VirtualLane}
use Rattle.meaning.specs.declared.types.Source.{Source}
use Rattle.meaning.specs.declared.types.Source.TheVariants.{FromLane, Undef}
use Rattle.laws.proofs.Flow.{flow, kept_next, lane-inj}
use Rattle.mir_func.specs.declared.func.Loc.TheVariants.{Virtual}
use Rattle.mir_func.specs.declared.func.RegOp.{RegOp}
use Rattle.mir_func.specs.declared.func.Operand.TheVariants as operands
use Rattle.mir_func.specs.declared.func.Instr.{Instr}
use Rattle.mir_func.specs.declared.func.Block.{Block}
use Rattle.mir_func.specs.Value.{Function}
use Rattle.mir_func.specs.Binding.{class_of, does, effect_of, is_definition, is_early_clobber, is_use, is_virtual, passes, registers, roles_of}
use Rattle.mir_meaning.specs.Codes.{item_of}
use Rattle.mir_meaning.specs.Items.{copied, moved, undefined}
use Rattle.mir_meaning.specs.Registers.{is_reserved, located_lanes, located_widths, numbers, operand_widths, undefined_lanes, use_sources, whole_lanes}
use Rattle.mir_meaning.specs.Rules.{copy_fits, has_class, has_home, has_lanes, same_widths, widths_fit}
use Rattle.instr_effects.proofs.Members.{flat-in, map-of}
use Rattle.live_laws.proofs.Effects.Lists.{any-in}
use Rattle.live_laws.proofs.Effects.Shapes.{class-there, index-there, lanes-there, widths-of}
use Rattle.live_laws.proofs.Touch.Roles.{met}
use Rattle.lowering_laws.proofs.RulesStay.{lanes, widths}
use Rattle.lowering_laws.proofs.Silently.{lanes-count}
use Rattle.lowering_laws.proofs.Traced.{filled-free, is_lane_of, is_one, is_written, lanes_by}
use Rattle.lowering_laws.specs.Form.{is_undef_definition, is_undef_use}
use Rattle.spiller.specs.Reaching.{Reads}
use Rattle.spiller.specs.Rematerialised.{Never, all_readings, copy_reading, copy_wish, effect_readings, if_serves, if_whole, place_readings, places_of, reaching, repeatable_class, repeated, repeated_for, serves}
use Rattle.spiller.specs.Setting.{Spilling, class_beside, in_own_slot, is_own, moving_class, own_lanes, plain_definition, plain_use, reload, store}
use Rattle.spiller.specs.Spilled.{Change, becomes, copied_in, copied_out, copied_within, in_place_of, through_tiny}
use Rattle.spill_laws.specs.Standing.{ChangeStands, CopiesStand, IsAt, IsBeside, IsSetting, IsSite, IsStored, KeptIn, LiveIn, PlaceStands, Stands, code_before}
use Rattle.spill_laws.proofs.Chains.{pair-at, self-source, tiny_lanes}
use Rattle.spill_laws.proofs.Copies.{beside}
use Rattle.spill_laws.proofs.Reached.{reading-stored}
use Rattle.spill_laws.proofs.SlotPlaces.{copy-place, held-place, home, pass-place, range_source, stores-place, width}
use Rattle.spill_laws.proofs.SlotWrites.{of-one, range-given, range-written, source_at, store_writes, write-of}
use Rattle.spill_laws.proofs.SpillItems.{OwnMove, item-known, own-move, other-beside, own-at, own-lanes-are, own-widths-are, reload-effect, reload-item, same-list, store-effect, store-item, unslotted}
use Rattle.spill_laws.proofs.TinyApart.{none-before}
use Rattle.spill_laws.proofs.Touched.{low-copies}

pub none-of : {X : Type 0} (p : X → Bool) (x : X) (xs : List X) → list_any p xs ≡ false → Member x xs → p x ≡ false
none-of p x xs e m = go (p x) refl
  where
    go : (b : Bool) → p x ≡ b → p x ≡ false
    go false g = g
    go true g = absurd (let y = any-in p x xs m g in cc)

pub map-map : (v : ℕ) (ks : List ℕ) → map FromLane (lanes_by v ks) ≡ map (λ k. FromLane (VirtualLane v k)) ks
map-map v [] = refl
map-map v (k ∷ ks) = ap (λ qs. FromLane (VirtualLane v k) ∷ qs) (map-map v ks)

pub lanes-numbered : (v : ℕ) (ks : List ℕ) → length (lanes_by v ks) ≡ length ks
lanes-numbered v ks = length-map ks (VirtualLane v)

-- a lane beside the range that holds one of the range's is written
pub written-away : (s : Spilling) (ws : Writes) (a : Lane) (j : ℕ) → IsBeside s a → filled ws a ≡ Moved (range_source s j) → is_written ws a ≡ true
written-away s ws a j b e = go (is_written ws a) refl
  where
    go : (y : Bool) → is_written ws a ≡ y → is_written ws a ≡ true
    go true g = g
    go false g = absurd (let same : a ≡ VirtualLane s.range j = lane-inj a (VirtualLane s.range j) (sym (filled-free ws a g) ∙ e) in let q : is_lane_of s.range a ≡ is_lane_of s.range (VirtualLane s.range j) = ap (is_lane_of s.range) same in let r = b.other in let u : is_lane_of s.range (VirtualLane s.range j) ≡ true = own-lane in cc)
      where
        own-lane : is_lane_of s.range (VirtualLane s.range j) ≡ true
        own-lane = eq-eqb s.range s.range refl

module _ (s : Spilling) (g : Function) (z : IsSetting s g) (b c : Block) (i : Instr) (p : Code) (here : IsAt s b i p) (d o : RegOp) (known : effect_of s.target i ≡ Some effects.Copy) (are : i.operands ≡ operands.Reg d ∷ operands.Reg o ∷ []) where
  abbrev t : Target
  t = s.target

  abbrev f : Function
  f = s.func

  named : (x : RegOp) → Member x (d ∷ o ∷ []) → Member x (registers i.operands)
  named x m = subst (λ os. Member x (registers os)) (sym are) m

  pub class-d : has_class f d.loc ≡ true
  class-d = class-there t f i here.shaped d (named d first)

  class-o : has_class f o.loc ≡ true
  class-o = class-there t f i here.shaped o (named o (later first))

  rule : (same_widths t f d o && has_home t d.loc o.loc && has_home t o.loc d.loc) ≡ true
  rule = subst (λ os. widths_fit t f effects.Copy os ≡ true) are (widths-of t f i effects.Copy known here.shaped.widths)

  -- both have the same lane widths
  pub wide : operand_widths t f d ≡ operand_widths t f o
  wide = same-list (operand_widths t f d) (operand_widths t f o) (by (has_lanes t f d) (has_lanes t f o) (same_numbers (operand_widths t f d) (operand_widths t f o)) (lanes-there t f i here.shaped d (named d first)) (lanes-there t f i here.shaped o (named o (later first))) (first_of_both (same_widths t f d o) (has_home t d.loc o.loc) (first_of_both (same_widths t f d o && has_home t d.loc o.loc) (has_home t o.loc d.loc) rule)))
    where
      by : (x y w : Bool) → x ≡ true → y ≡ true → (not (x && y) || w) ≡ true → w ≡ true
      by true true w h k e = e
      by true false w h k e = absurd (cc)
      by false y w h k e = absurd (cc)

  fits : (is_definition d && is_use o) ≡ true
  fits = subst (λ os. copy_fits os ≡ true) are (met t f i effects.Copy known here.shaped.operands).3

  not-true : (y : Bool) → not y ≡ true → y ≡ false
  not-true false e = refl
  not-true true e = absurd (cc)

  plain-d : d.undef ≡ false
  plain-d = by d.def d.undef (first_of_both d.def (not d.implicit) (first_of_both (is_definition d) (is_use o) fits)) (none-of is_undef_definition d (registers i.operands) (none-before t i here.lowered) (named d first))
    where
      by : (x y : Bool) → x ≡ true → (x && y) ≡ false → y ≡ false
      by true y h e = e
      by false y h e = absurd (cc)

  plain-o : o.undef ≡ false
  plain-o = by o.def o.undef (not-true o.def (first_of_both (not o.def) (not o.implicit) (second_of_both (is_definition d) (is_use o) fits))) (none-of is_undef_use o (registers i.operands) (past (does is_copy t i) (list_any is_undef_use (registers i.operands)) (ap (passes is_copy) known) (low-copies t i here.lowered)) (named o (later first)))
    where
      by : (x y : Bool) → x ≡ false → (not x && y) ≡ false → y ≡ false
      by false y h e = e
      by true y h e = absurd (cc)

      past : (x y : Bool) → x ≡ true → (x && y) ≡ false → y ≡ false
      past true y h e = e
      past false y h e = absurd (cc)

  sources : (h : Function) (x : RegOp) → x.undef ≡ false → use_sources t h x ≡ map FromLane (located_lanes t h x.loc x.index)
  sources h x e = ap (λ y. map (cond y (λ l. Undef) FromLane) (located_lanes t h x.loc x.index)) e

  -- the copy as an item
  item-is : item_of t f b i ≡ Silent [] (moved false (located_lanes t f d.loc d.index) (map FromLane (located_lanes t f o.loc o.index)))
  item-is =
      item-known t f b i effects.Copy known
      ∙ (ap (λ os. Silent [] (copied t f os)) are
      ∙ ((λ j. Silent [] (moved false (located_lanes t f d.loc d.index) (sources f o plain-o j) ++ undefined false (none-undefined j)))
      ∙ ap (λ ws. Silent [] ws) (append-nil (moved false (located_lanes t f d.loc d.index) (map FromLane (located_lanes t f o.loc o.index))))))
    where
      and-false : (y : Bool) → (y && false) ≡ false
      and-false true = refl
      and-false false = refl

      none-undefined : undefined_lanes t f d ≡ []
      none-undefined = ap (λ y. cond (d.def && y) (whole_lanes t f d.loc) []) plain-d ∙ ap (λ y. cond y (whole_lanes t f d.loc) []) (and-false d.def)

  -- as many lanes
  many : length (located_lanes t f d.loc d.index) ≡ length (located_lanes t f o.loc o.index)
  many = lanes-count t f d.loc d.index ∙ (ap length wide ∙ sym (lanes-count t f o.loc o.index))

  -- a copy to the range

  module _ (own : is_own s d ≡ true) (other : is_own s o ≡ false) where
    abbrev ks : List ℕ
    ks = own_lanes s d.index

    abbrev ss : List Source
    ss = map FromLane (located_lanes t f o.loc o.index)

    in-item : item_of t f b i ≡ Silent [] (moved false (lanes_by s.range ks) ss)
    in-item = item-is ∙ ap (λ ls. Silent [] (moved false ls ss)) (own-lanes-are s d own)

    long : length ks ≤ length ss
    long =
        let a : length (lanes_by s.range ks) ≡ length ks = lanes-numbered s.range ks in
        let e : length (located_lanes t f d.loc d.index) ≡ length (lanes_by s.range ks) = ap length (own-lanes-are s d own) in
        let h : length ss ≡ length (located_lanes t f o.loc o.index) = length-map (located_lanes t f o.loc o.index) FromLane in
        omega (arith, a, e, h, many)

    are-others : (a : Lane) → Member (FromLane a) ss → IsBeside s a
    are-others a m =
        let y = map-of FromLane (FromLane a) (located_lanes t f o.loc o.index) m in
        other-beside s o.loc o.index other class-o a (subst (λ l. Member l (located_lanes t f o.loc o.index)) (sym (lane-of a y.0 y.2)) y.1)
      where
        lane-of : (x y : Lane) → FromLane x ≡ FromLane y → x ≡ y
        lane-of x y e = cc

    wide-stored : operand_widths t g (plain_use o.loc o.index) ≡ map (width s) ks
    wide-stored = widths t f g z.keeps o.loc o.index class-o ∙ (sym wide ∙ own-widths-are s d own)

    pub in-stands : ChangeStands s g b c i p (copied_in s i d o)
    in-stands =
        let k = beside s g z.keeps z.classes o o.loc class-o (index-there t f i here.shaped o (named o (later first))) d.loc (ap is_virtual (own-at s.range d.loc own)) (second_of_both (same_widths t f d o && has_home t d.loc o.loc) (has_home t o.loc d.loc) rule) in
        let y = in_place_of i (store t (class_beside s o o.loc) (plain_use o.loc o.index) (in_own_slot s d.index)) in
        let known' : effect_of t y ≡ Some effects.Spill = ap (λ q. effect_of t (store t q (plain_use o.loc o.index) (in_own_slot s d.index))) k.is ∙ store-effect t k.class k.lies.known (plain_use o.loc o.index) (in_own_slot s d.index) in
        let second : item_of t g c y ≡ Silent [] (store_writes s.slot (width s) t ks ss) = store-item s g c y (plain_use o.loc o.index) d.index refl wide-stored known' ∙ ap (λ ls. Silent [] (store_writes s.slot (width s) t ks (map FromLane ls))) (lanes t f g z.keeps o.loc o.index class-o) in
        subst (λ x. PlaceStands s (x ∷ []) (item_of t g c y ∷ []) p) (sym in-item)
        (subst (λ x. PlaceStands s (Silent [] (moved false (lanes_by s.range ks) ss) ∷ []) (x ∷ []) p) (sym second)
        (stores-place s i.id false ks ss p long (subst (λ x. IsSite s i.id x p) in-item here.site) are-others))

  -- readings by the copy
  module _ (own : is_own s o ≡ true) where
    abbrev os : List ℕ
    os = own_lanes s o.index

    pub from-item : item_of t f b i ≡ Silent [] (moved false (located_lanes t f d.loc d.index) (map (range_source s) os))
    from-item = item-is ∙ ap (λ qs. Silent [] (moved false (located_lanes t f d.loc d.index) qs)) (ap (map FromLane) (own-lanes-are s o own) ∙ map-map s.range os)

    pub known-reading : Member (copy_reading s i d o) (all_readings s)
    known-reading = flat-in (λ (b : Block). flat_map (place_readings s) (places_of t b)) (copy_reading s i d o) b f.blocks here.block (flat-in (place_readings s) (copy_reading s i d o) (i ∷ []) (places_of t b) here.place (subst (Member (copy_reading s i d o)) (sym is) first))
      where
        is : place_readings s (i ∷ []) ≡ copy_reading s i d o ∷ []
        is = (λ j. effect_readings s i (known j) (are j)) ∙ ap (λ y. cond y (copy_reading s i d o ∷ []) []) own

    stored-by : (ws : Writes) → item_of t f b i ≡ Silent [] ws → repeated_for s (copy_reading s i d o) ≡ None → (j : ℕ) (a : Lane) → Member j os → is_written ws a ≡ true → filled ws a ≡ Moved (range_source s j) → KeptAfter (is_reserved t) (code_before s) (Silent [] ws) p a → IsStored s j (Silent [] ws ∷ p)
    stored-by ws e plain j a m w h k =
        reading-stored s z.facts i (Silent [] ws) p (here.site.from ∙ ap (λ x. x ∷ p) e) j
        (Reads-by a (write-of ws a w) h k)
        (copy_reading s i d o) first m known-reading plain
      where
        Reads-by : (a : Lane) → Writing (Silent [] ws) a → filled ws a ≡ Moved (range_source s j) → KeptAfter (is_reserved t) (code_before s) (Silent [] ws) p a → Reads (is_reserved t) (code_before s) (VirtualLane s.range j) (Silent [] ws) p
        Reads-by a w h k = inr (a, inl w, inl h, k)

  -- a copy from the range to another register, by a reload

  module _ (other : is_own s d ≡ false) (own : is_own s o ≡ true) (plain : repeated_for s (copy_reading s i d o) ≡ None) where
    abbrev ls : List Lane
    ls = located_lanes t f d.loc d.index

    out-item : item_of t f b i ≡ Silent [] (moved false ls (map (range_source s) (os own)))
    out-item = from-item own

    wide-loaded : operand_widths t g (plain_definition d.loc d.index) ≡ map (width s) (os own)
    wide-loaded = widths t f g z.keeps d.loc d.index class-d ∙ (wide ∙ own-widths-are s o own)

    loaded-out : ChangeStands s g b c i p (record { tinies = []; before = []; own = in_place_of i (reload t (class_beside s d d.loc) (plain_definition d.loc d.index) (in_own_slot s o.index)) ∷ []; behind = [] })
    loaded-out =
        let k = beside s g z.keeps z.classes d d.loc class-d (index-there t f i here.shaped d (named d first)) o.loc (ap is_virtual (own-at s.range o.loc own)) (second_of_both (same_widths t f d o) (has_home t d.loc o.loc) (first_of_both (same_widths t f d o && has_home t d.loc o.loc) (has_home t o.loc d.loc) rule)) in
        let y = in_place_of i (reload t (class_beside s d d.loc) (plain_definition d.loc d.index) (in_own_slot s o.index)) in
        let known' : effect_of t y ≡ Some effects.Reload = ap (λ q. effect_of t (reload t q (plain_definition d.loc d.index) (in_own_slot s o.index))) k.is ∙ reload-effect t k.class k.lies.known (plain_definition d.loc d.index) (in_own_slot s o.index) in
        let soon = is_early_clobber (roles_of t y) in
        let second : item_of t g c y ≡ Silent [] (moved soon ls (map (home s) (os own))) = reload-item s g c y (plain_definition d.loc d.index) o.index refl wide-loaded known' refl ∙ ap (λ l. Silent [] (moved soon l (map (home s) (os own)))) (lanes t f g z.keeps d.loc d.index class-d) in
        subst (λ x. PlaceStands s (x ∷ []) (item_of t g c y ∷ []) p) (sym out-item)
        (subst (λ x. PlaceStands s (Silent [] (moved false ls (map (range_source s) (os own))) ∷ []) (x ∷ []) p) (sym second)
        (copy-place s i.id soon ls (os own) p (subst (λ x. IsSite s i.id x p) out-item here.site)
        (λ a m. (other-beside s d.loc d.index other class-d a m).other) (λ a m. unslotted s f d.loc d.index a m) (home s)
        (λ j a beside m e k. inl (stored-by own (moved false ls (map (range_source s) (os own))) out-item plain j a m (written-away s (moved false ls (map (range_source s) (os own))) a j beside e) e k, refl))))

    pub out-stands : ChangeStands s g b c i p (copied_out s i d o)
    out-stands = subst (ChangeStands s g b c i p) (sym is) loaded-out
      where
        is : copied_out s i d o ≡ record { tinies = []; before = []; own = in_place_of i (reload t (class_beside s d d.loc) (plain_definition d.loc d.index) (in_own_slot s o.index)) ∷ []; behind = [] }
        is = ap (λ q. elim q as (λ q. Change) [
          | None ↦ becomes (in_place_of i (reload t (class_beside s d d.loc) (plain_definition d.loc d.index) (in_own_slot s o.index)) ∷ [])
          | Some x ↦ record (becomes []) { before = repeated x (plain_definition d.loc d.index) ∷ [] }
        ]) plain

  -- a copy between lanes of the range

  module _ (own : is_own s d ≡ true) (from : is_own s o ≡ true) where
    abbrev ds : List ℕ
    ds = own_lanes s d.index

    abbrev given : Writes
    given = moved false (lanes_by s.range ds) (map (range_source s) (os from))

    within-item : item_of t f b i ≡ Silent [] given
    within-item = item-is ∙ (λ j. Silent [] (moved false (own-lanes-are s d own j) ((ap (map FromLane) (own-lanes-are s o from) ∙ map-map s.range (os from)) j)))

    site : IsSite s i.id (Silent [] given) p
    site = subst (λ x. IsSite s i.id x p) within-item here.site

    numbers-same : length ds ≡ length (os from)
    numbers-same =
        let a : length (lanes_by s.range ds) ≡ length ds = lanes-numbered s.range ds in
        let e : length (lanes_by s.range (os from)) ≡ length (os from) = lanes-numbered s.range (os from) in
        let h : length (located_lanes t f d.loc d.index) ≡ length (lanes_by s.range ds) = ap length (own-lanes-are s d own) in
        let k : length (located_lanes t f o.loc o.index) ≡ length (lanes_by s.range (os from)) = ap length (own-lanes-are s o from) in
        omega (arith, a, e, h, k, many)

    full : length ds ≤ length (map (range_source s) (os from))
    full = let a : length (map (range_source s) (os from)) ≡ length (os from) = length-map (os from) (range_source s) in let e = numbers-same in omega (arith, a, e)

    -- nothing is repeated for it
    unrepeated : repeated_for s (copy_reading s i d o) ≡ None
    unrepeated = never (reaching s (copy_reading s i d o)) (wish-is o.index ∙ refl)
      where
        wish-is : (x : Option IndexId) → if_whole x (copy_wish d.loc) ≡ Never
        wish-is None = ap copy_wish (own-at s.range d.loc own)
        wish-is (Some y) = refl

        never : (es : List Instr) → if_whole o.index (copy_wish d.loc) ≡ Never → if_serves t (if_whole o.index (copy_wish d.loc)) es ≡ None
        never [] w = refl
        never (e ∷ []) w = ap (λ q. cond (serves t q (repeatable_class t e)) (Some e) None) w
        never (e ∷ u ∷ es) w = refl

    -- what a lane of the range is given is found in its slot before
    found-before : (k : ℕ) → is_one ds k ≡ true → LiveIn s p (VirtualLane s.range k) → (j : ℕ) → Member j (os from) → source_at ds (map (range_source s) (os from)) k ≡ range_source s j → Stands s (Silent [] given ∷ p) (range_source s j) (home s j)
    found-before k e l j m h =
        let fill : filled given (VirtualLane s.range k) ≡ Moved (range_source s j) = range-given s.range false ds (map (range_source s) (os from)) k full e ∙ ap Moved h in
        let after = kept_next (is_reserved t) (code_before s) (Silent [] given) p (VirtualLane s.range k) refl (inl l) in
        inr (
          j,
          refl,
          live (flow (is_reserved t) (code_before s) (Silent [] given) p (VirtualLane s.range k) (VirtualLane s.range j) after fill),
          inl (stored-by from given within-item unrepeated j (VirtualLane s.range k) m (range-written s.range false ds (map (range_source s) (os from)) k full e) fill after, refl),
        )
      where
        live : KeptIn s (Silent [] given ∷ p) (VirtualLane s.range j) → LiveIn s (Silent [] given ∷ p) (VirtualLane s.range j)
        live (inl q) = q
        live (inr q) = absurd (cc)

    vanished : ds ≡ os from → ChangeStands s g b c i p (becomes [])
    vanished same =
        subst (λ x. PlaceStands s (x ∷ []) [] p) (sym within-item)
        (held-place s i.id false ds (map (range_source s) (os from)) p full site (λ k e l q.
        let h : source_at ds (map (range_source s) (os from)) k ≡ range_source s k = ap (λ ks. source_at ds (map (range_source s) ks) k) (sym same) ∙ self-source (range_source s) ds k e in
        subst (λ y. Stands s (Silent [] given ∷ p) y (home s k)) (sym h) (found-before k e l k (subst (Member k) same (of-one ds k e)) h)))

    module _ (n r : ℕ) (further : length f.classes ≤ r) (class : class_of g r ≡ moving_class s d.index) where
      m : OwnMove s d.index
      m = own-move s z.classes d.loc d.index own class-d (index-there t f i here.shaped d (named d first))

      wide-tiny : located_widths t g (Virtual r) None ≡ map (width s) ds
      wide-tiny = ap (widths_of_some t) (class ∙ m.is) ∙ m.wide

      wide-from : located_widths t g (Virtual r) None ≡ map (width s) (os from)
      wide-from = wide-tiny ∙ (sym (own-widths-are s d own) ∙ (wide ∙ own-widths-are s o from))

      tiny-are : located_lanes t g (Virtual r) None ≡ tiny_lanes r 0 (length ds)
      tiny-are = ap (λ k. lanes_by r (numbers 0 k)) (ap length wide-tiny ∙ length-map ds (width s))

      passed-on : ChangeStands s g b c i p (through_tiny s n r i (moving_class s d.index) (in_own_slot s o.index) (in_own_slot s d.index))
      passed-on =
          let k = moving_class s d.index in
          let y = in_place_of i (reload t k (plain_definition (Virtual r) None) (in_own_slot s o.index)) in
          let w = store t k (plain_use (Virtual r) None) (in_own_slot s d.index) in
          let known-y : effect_of t y ≡ Some effects.Reload = ap (λ q. effect_of t (reload t q (plain_definition (Virtual r) None) (in_own_slot s o.index))) m.is ∙ reload-effect t m.class m.known (plain_definition (Virtual r) None) (in_own_slot s o.index) in
          let known-w : effect_of t w ≡ Some effects.Spill = ap (λ q. effect_of t (store t q (plain_use (Virtual r) None) (in_own_slot s d.index))) m.is ∙ store-effect t m.class m.known (plain_use (Virtual r) None) (in_own_slot s d.index) in
          let soon = is_early_clobber (roles_of t y) in
          let first-is : item_of t g c y ≡ Silent [] (moved soon (tiny_lanes r 0 (length ds)) (map (home s) (os from))) = reload-item s g c y (plain_definition (Virtual r) None) o.index refl wide-from known-y refl ∙ ap (λ l. Silent [] (moved soon l (map (home s) (os from)))) tiny-are in
          let second-is : item_of t g c w ≡ Silent [] (store_writes s.slot (width s) t ds (map FromLane (tiny_lanes r 0 (length ds)))) = store-item s g c w (plain_use (Virtual r) None) d.index refl wide-tiny known-w ∙ ap (λ l. Silent [] (store_writes s.slot (width s) t ds (map FromLane l))) tiny-are in
          subst (λ x. PlaceStands s (x ∷ []) (item_of t g c y ∷ item_of t g c w ∷ []) p) (sym within-item)
          (subst (λ x. PlaceStands s (Silent [] given ∷ []) (x ∷ item_of t g c w ∷ []) p) (sym first-is)
          (subst (λ x. PlaceStands s (Silent [] given ∷ []) (Silent [] (moved soon (tiny_lanes r 0 (length ds)) (map (home s) (os from))) ∷ x ∷ []) p) (sym second-is)
          (pass-place s i.id false ds (map (range_source s) (os from)) p full site r further (map (home s) (os from)) (let a : length (map (home s) (os from)) ≡ length (os from) = length-map (os from) (home s) in let e = numbers-same in omega (arith, a, e)) soon (λ k e l q.
          let h = pair-at (range_source s) (home s) ds (os from) k (let e = numbers-same in omega (arith, e)) e in
          subst (λ y. Stands s (Silent [] given ∷ p) y (source_at ds (map (home s) (os from)) k)) (sym h.first)
          (subst (Stands s (Silent [] given ∷ p) (range_source s h.number)) (sym h.second) (found-before k e l h.number h.among h.first))))))

      pub within-stands : ChangeStands s g b c i p (copied_within s n r i d o)
      within-stands = go (same_numbers (own_lanes s d.index) (own_lanes s o.index)) refl
        where
          go : (y : Bool) → same_numbers (own_lanes s d.index) (own_lanes s o.index) ≡ y → ChangeStands s g b c i p (cond y (becomes []) (through_tiny s n r i (moving_class s d.index) (in_own_slot s o.index) (in_own_slot s d.index)))
          go true e = vanished (same-list ds (os from) e)
          go false e = passed-on

pub copies_stand : CopiesStand
copies_stand s g b c i p d o n r z here known are = (
  (λ own other. in-stands s g z b c i p here d o known are own other),
  (λ other own plain. out-stands s g z b c i p here d o known are other own plain),
  (λ own from further class. within-stands s g z b c i p here d o known are own from n r further class),
)
