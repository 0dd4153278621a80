-- Stores of the range to slots, and reloads of it.
use Rattle.std.proofs.Common.{◌≡◌, ◌∷◌, ◌++◌, ◌∙◌, ◌&&◌, ◌||◌, ◌≤◌, inl, inr, not, ℕ, Bool, true, false, cond, List, Option, Some, None, flat_map, length, map, refl, sym, ap, subst, append-nil, arith, eqb-true, []}
use Rattle.std.proofs.lemmas.List.{length-map}
use Rattle.std.specs.Prelude.{◌==◌, nat_eq}
use Rattle.target_base.specs.declared.types.Effect.TheVariants as effects
use Rattle.target_base.specs.declared.types.IndexId.{IndexId}
use Rattle.target_base.specs.declared.types.Target.{Target}
use Rattle.target_base.specs.Registers.{lanes_of, widths_of_some}
use Rattle.target_base.specs.Storage.{same_numbers}
use Rattle.target_base.proofs.Tests.{first_of_both, second_of_both}
use Rattle.meaning.specs.Code.{Code, Silent}
use Rattle.meaning.specs.Lanes.{Writes, filled}
use Rattle.meaning.specs.Live.{Among as Member, here as first, KeptAfter, is_slot}
use Rattle.meaning.specs.declared.types.Fill.TheVariants.{Moved}
use Rattle.meaning.specs.declared.types.Lane.{Lane}
use Rattle.meaning.specs.declared.types.Lane.TheVariants.{SlotLane, UnitLane, VirtualLane}
use Rattle.meaning.specs.declared.types.Source.{Source}
use Rattle.meaning.specs.declared.types.Source.TheVariants.{FromLane, Undef}
use Rattle.mir_func.specs.declared.func.Loc.TheVariants.{Virtual}
use Rattle.mir_func.specs.declared.func.RegOp.{RegOp}
use Rattle.mir_func.specs.declared.func.Operand.{Operand}
use Rattle.mir_func.specs.declared.func.Operand.TheVariants as operands
use Rattle.mir_func.specs.declared.func.Instr.{Instr}
use Rattle.mir_func.specs.declared.func.Block.{Block}
use Rattle.mir_func.specs.Value.{Function}
use Rattle.mir_func.specs.Binding.{class_of, effect_of, is_early_clobber, registers, roles_of}
use Rattle.mir_meaning.specs.Codes.{item_of}
use Rattle.mir_meaning.specs.Items.{at_all_widths, moved, reloaded, spilled as store_given, undefined, widths_once}
use Rattle.mir_meaning.specs.Registers.{is_reserved, located_lanes, located_widths, numbers, operand_widths, slot_lane_numbers, slot_lanes, undefined_lanes, whole_lanes}
use Rattle.mir_meaning.specs.Rules.{has_lanes, lanes_fit}
use Rattle.instr_effects.proofs.Members.{either-elim, flat-in, flat-of, map-of, member-elim, member-none}
use Rattle.live_laws.proofs.Effects.Shapes.{class-there, index-there, lanes-there}
use Rattle.live_laws.proofs.Touch.Roles.{met}
use Rattle.lowering_laws.proofs.Traced.{lanes_by}
use Rattle.lowering_laws.specs.Form.{is_undef_definition}
use Rattle.spiller.specs.Rematerialised.{Never, all_readings, effect_readings, if_serves, place_readings, places_of, reaching, reading_of, repeated_for}
use Rattle.spiller.specs.Setting.{Spilling, in_own_slot, is_own, moving_class, own_lanes, plain_definition, plain_use, reload, store}
use Rattle.spiller.specs.Spilled.{becomes, in_place_of, is_own_part, slot_change, through_tiny}
use Rattle.spill_laws.specs.Standing.{ChangeStands, IsAt, IsBeside, IsSetting, IsSite, IsStored, PlaceStands, SlotMovesStand, Stands, code_before}
use Rattle.spill_laws.proofs.Chains.{self-source, tiny_lanes}
use Rattle.spill_laws.proofs.CopyPlaces.{map-map, none-of, written-away}
use Rattle.spill_laws.proofs.Opcodes.{IsSlot, reload-slot, spill-slot}
use Rattle.spill_laws.proofs.Reached.{reading-stored}
use Rattle.spill_laws.proofs.SlotPlaces.{held-place, home, keep-place, pass-place, range_source, save-place, source-stays, width}
use Rattle.spill_laws.proofs.SlotWrites.{source_at, store_writes, write-of}
use Rattle.spill_laws.proofs.SpillItems.{OwnMove, homes-are, item-known, numbers-long, own-lanes-are, own-move, own-widths-are, reload-effect, reload-item, same-list, store-effect, store-item}
use Rattle.spill_laws.proofs.TinyApart.{none-before}

-- lanes of a slot

slots-long : (m : ℕ) (js ws : List ℕ) → length (slot_lanes m js ws) ≤ length ws
slots-long m [] ws = omega arith
slots-long m (j ∷ js) [] = omega arith
slots-long m (j ∷ js) (w ∷ ws) = let h = slots-long m js ws in omega (arith, h)

slots-all : (m : ℕ) (js ws : List ℕ) → length ws ≤ length js → length ws ≤ length (slot_lanes m js ws)
slots-all m js [] h = omega arith
slots-all m [] (w ∷ ws) h = absurd (omega (arith, h))
slots-all m (j ∷ js) (w ∷ ws) h = let k = slots-all m js ws (omega (arith, h)) in omega (arith, k)

slots-are : (m : ℕ) (js ws : List ℕ) (a : Lane) → Member a (slot_lanes m js ws) → is_slot a ≡ true
slots-are m [] ws a h = absurd (member-none a h)
slots-are m (j ∷ js) [] a h = absurd (member-none a h)
slots-are m (j ∷ js) (w ∷ ws) a h = member-elim a (SlotLane m j w) (slot_lanes m js ws) (λ e. ap is_slot e) (λ k. slots-are m js ws a k) h

module _ (s : Spilling) (g : Function) (z : IsSetting s g) (b c : Block) (i : Instr) (p : Code) (at : IsAt s b i p) (o : RegOp) (slot : List Operand) (n r : ℕ) (are : i.operands ≡ operands.Reg o ∷ slot) (own : is_own s o ≡ true) (further : length s.func.classes ≤ r) (class : class_of g r ≡ moving_class s o.index) where
  abbrev t : Target
  t = s.target

  abbrev f : Function
  f = s.func

  there : Member o (registers i.operands)
  there = subst (λ os. Member o (registers os)) (sym are) first

  abbrev ks : List ℕ
  ks = own_lanes s o.index

  m : OwnMove s o.index
  m = own-move s z.classes o.loc o.index own (class-there t f i at.shaped o there) (index-there t f i at.shaped o there)

  wide : operand_widths t f o ≡ map (width s) ks
  wide = own-widths-are s o own

  wide-tiny : located_widths t g (Virtual r) None ≡ map (width s) ks
  wide-tiny = ap (widths_of_some t) (class ∙ m.is) ∙ m.wide

  tiny-are : located_lanes t g (Virtual r) None ≡ tiny_lanes r 0 (length ks)
  tiny-are = ap (λ k. lanes_by r (numbers 0 k)) (ap length wide-tiny ∙ length-map ks (width s))

  -- what it names of the slot, in the widths of the range
  abbrev numbers-named : Operand → List ℕ
  numbers-named x = slot_lane_numbers t (map (width s) ks) x

  abbrev slots-named : ℕ → Operand → List Lane
  slots-named k x = slot_lanes k (numbers-named x) (map (width s) ks)

  abbrev rest-named : ℕ → Operand → List Lane
  rest-named k x = at_all_widths t k (numbers-named x)

  all-slots : (k : ℕ) (x : Operand) (a : Lane) → Member a (slots-named k x ++ rest-named k x) → is_slot a ≡ true
  all-slots k x a h =
      either-elim a (slots-named k x) (rest-named k x) (λ q. slots-are k (numbers-named x) (map (width s) ks) a q)
      (λ q. let y = flat-of (λ j. map (λ w. SlotLane k j w) (widths_once [] t.units)) a (numbers-named x) q in let w = map-of (λ w. SlotLane k y.0 w) a (widths_once [] t.units) y.2 in ap is_slot w.2)
      h

  -- nothing serves a wish for nothing
  never : (x : Option IndexId) → repeated_for s (reading_of s (i ∷ []) x Never) ≡ None
  never x = go (reaching s (reading_of s (i ∷ []) x Never))
    where
      go : (es : List Instr) → if_serves t Never es ≡ None
      go [] = refl
      go (e ∷ []) = refl
      go (e ∷ u ∷ es) = refl

  -- a store

  module _ (known : effect_of t i ≡ Some effects.Spill) (plain : o.undef ≡ false) where
    store-of : (k : ℕ) (x : Operand) → slot ≡ operands.Stack k ∷ x ∷ [] → item_of t f b i ≡ Silent [] (moved false (slots-named k x) (map (range_source s) ks) ++ undefined false (rest-named k x))
    store-of k x is =
        item-known t f b i effects.Spill known
        ∙ (ap (λ os. Silent [] (store_given t f os)) (are ∙ ap (λ os. operands.Reg o ∷ os) is)
        ∙ ((λ j. Silent [] (moved false (slot_lanes k (slot_lane_numbers t (wide j) x) (wide j)) (map (cond (plain j) (λ l. Undef) FromLane) (own-lanes-are s o own j)) ++ undefined false (at_all_widths t k (slot_lane_numbers t (wide j) x))))
        ∙ ap (λ qs. Silent [] (moved false (slots-named k x) qs ++ undefined false (rest-named k x))) (map-map s.range ks)))

    known-reading : Member (reading_of s (i ∷ []) o.index Never) (all_readings s)
    known-reading = flat-in (λ (b : Block). flat_map (place_readings s) (places_of t b)) (reading_of s (i ∷ []) o.index Never) b f.blocks at.block (flat-in (place_readings s) (reading_of s (i ∷ []) o.index Never) (i ∷ []) (places_of t b) at.place (subst (Member (reading_of s (i ∷ []) o.index Never)) (sym is) first))
      where
        is : place_readings s (i ∷ []) ≡ reading_of s (i ∷ []) o.index Never ∷ []
        is = (λ j. effect_readings s i (known j) (are j)) ∙ ap (λ y. cond y (reading_of s (i ∷ []) o.index Never ∷ []) []) own

    stored-by : (ws : Writes) → item_of t f b i ≡ Silent [] ws → (j : ℕ) (a : Lane) → IsBeside s a → Member j ks → filled ws a ≡ Moved (range_source s j) → KeptAfter (is_reserved t) (code_before s) (Silent [] ws) p a → IsStored s j (Silent [] ws ∷ p)
    stored-by ws e j a beside q h k =
        reading-stored s z.facts i (Silent [] ws) p (at.site.from ∙ ap (λ x. x ∷ p) e) j (inr (a, inl (write-of ws a (written-away s ws a j beside h)), inl h, k))
        (reading_of s (i ∷ []) o.index Never) first q known-reading (never o.index)

    store-through : (k : ℕ) (x : Operand) → slot ≡ operands.Stack k ∷ x ∷ [] → ChangeStands s g b c i p (through_tiny s n r i (moving_class s o.index) (in_own_slot s o.index) slot)
    store-through k x is =
        let q = moving_class s o.index in
        let y = in_place_of i (reload t q (plain_definition (Virtual r) None) (in_own_slot s o.index)) in
        let w = store t q (plain_use (Virtual r) None) slot in
        let known-y : effect_of t y ≡ Some effects.Reload = ap (λ u. effect_of t (reload t u (plain_definition (Virtual r) None) (in_own_slot s o.index))) m.is ∙ reload-effect t m.class m.known (plain_definition (Virtual r) None) (in_own_slot s o.index) in
        let known-w : effect_of t w ≡ Some effects.Spill = ap (λ u. effect_of t (store t u (plain_use (Virtual r) None) slot)) m.is ∙ store-effect t m.class m.known (plain_use (Virtual r) None) slot in
        let soon = is_early_clobber (roles_of t y) in
        let out = moved soon (tiny_lanes r 0 (length ks)) (map (home s) ks) in
        let on = moved false (slots-named k x) (map FromLane (tiny_lanes r 0 (length ks))) ++ undefined false (rest-named k x) in
        let saved = moved false (slots-named k x) (map (range_source s) ks) ++ undefined false (rest-named k x) in
        let first-is : item_of t g c y ≡ Silent [] out = reload-item s g c y (plain_definition (Virtual r) None) o.index refl wide-tiny known-y refl ∙ ap (λ l. Silent [] (moved soon l (map (home s) ks))) tiny-are in
        let second-is : item_of t g c w ≡ Silent [] on =
        item-known t g c w effects.Spill known-w
        ∙ (ap (λ os. Silent [] (store_given t g (operands.Reg (plain_use (Virtual r) None) ∷ os))) is
        ∙ (λ j. Silent [] (moved false (slot_lanes k (slot_lane_numbers t (wide-tiny j) x) (wide-tiny j)) (map FromLane (tiny-are j)) ++ undefined false (at_all_widths t k (slot_lane_numbers t (wide-tiny j) x))))) in
        subst (λ u. PlaceStands s (u ∷ []) (item_of t g c y ∷ item_of t g c w ∷ []) p) (sym (store-of k x is))
        (subst (λ u. PlaceStands s (Silent [] saved ∷ []) (u ∷ item_of t g c w ∷ []) p) (sym first-is)
        (subst (λ u. PlaceStands s (Silent [] saved ∷ []) (Silent [] out ∷ u ∷ []) p) (sym second-is)
        (save-place s i.id (slots-named k x) (rest-named k x) ks p (subst (λ u. IsSite s i.id u p) (store-of k x is) at.site) (all-slots k x) r further soon
        (let a = slots-long k (numbers-named x) (map (width s) ks) in let e = length-map ks (width s) in let h = length-map ks (range_source s) in omega (arith, a, e, h))
        (λ j a beside q h kept. stored-by saved (store-of k x is) j a beside q h kept))))

    store-kept : (k : ℕ) (x : Operand) → slot ≡ operands.Stack k ∷ x ∷ [] → (nat_eq k s.slot && same_numbers (slot_lane_numbers t (operand_widths t f o) x) ks) ≡ true → ChangeStands s g b c i p (becomes [])
    store-kept k x is e =
        let js : numbers-named x ≡ ks = ap (λ ws. slot_lane_numbers t ws x) (sym wide) ∙ same-list (slot_lane_numbers t (operand_widths t f o) x) ks (second_of_both (nat_eq k s.slot) (same_numbers (slot_lane_numbers t (operand_widths t f o) x) ks) e) in
        let same : k ≡ s.slot = eqb-true k s.slot (first_of_both (nat_eq k s.slot) (same_numbers (slot_lane_numbers t (operand_widths t f o) x) ks) e) in
        let item : item_of t f b i ≡ Silent [] (store_writes s.slot (width s) t ks (map (range_source s) ks)) = store-of k x is ∙ (λ j. Silent [] (moved false (slot_lanes (same j) (js j) (map (width s) ks)) (map (range_source s) ks) ++ undefined false (at_all_widths t (same j) (js j)))) in
        subst (λ u. PlaceStands s (u ∷ []) [] p) (sym item)
        (keep-place s i.id ks p (subst (λ u. IsSite s i.id u p) item at.site) (λ j a beside q h kept. stored-by (store_writes s.slot (width s) t ks (map (range_source s) ks)) item j a beside q h kept))

    pub store-stands : ChangeStands s g b c i p (slot_change s n r i o slot (λ own other. through_tiny s n r i (moving_class s o.index) own other))
    store-stands = subst (λ y. ChangeStands s g b c i p (cond y (cond (is_own_part s o slot) (becomes []) (through_tiny s n r i (moving_class s o.index) (in_own_slot s o.index) slot)) (becomes (i ∷ [])))) (sym own) (go (spill-slot t f i o slot at.shaped.operands known are))
      where
        by : (y : Bool) (k : ℕ) (x : Operand) → slot ≡ operands.Stack k ∷ x ∷ [] → (nat_eq k s.slot && same_numbers (slot_lane_numbers t (operand_widths t f o) x) ks) ≡ y → ChangeStands s g b c i p (cond y (becomes []) (through_tiny s n r i (moving_class s o.index) (in_own_slot s o.index) slot))
        by true k x is e = store-kept k x is e
        by false k x is e = store-through k x is

        go : IsSlot slot → ChangeStands s g b c i p (cond (is_own_part s o slot) (becomes []) (through_tiny s n r i (moving_class s o.index) (in_own_slot s o.index) slot))
        go u = subst (λ q. ChangeStands s g b c i p (cond (is_own_part s o q) (becomes []) (through_tiny s n r i (moving_class s o.index) (in_own_slot s o.index) slot))) (sym u.is) (by (nat_eq u.number s.slot && same_numbers (slot_lane_numbers t (operand_widths t f o) u.lanes) ks) u.number u.lanes u.is refl)

  -- a reload

  slot-beside : (a : Lane) → is_slot a ≡ true → IsBeside s a
  slot-beside (SlotLane k j w) e = record { other = refl; old = refl }
  slot-beside (VirtualLane w k) e = absurd (cc)
  slot-beside (UnitLane u) e = absurd (cc)

  module _ (known : effect_of t i ≡ Some effects.Reload) where
    abbrev early : Bool
    early = is_early_clobber (roles_of t i)

    abbrev sources-of : ℕ → Operand → List Source
    sources-of k x = map FromLane (slots-named k x)

    abbrev given-of : ℕ → Operand → Writes
    given-of k x = moved early (lanes_by s.range ks) (sources-of k x)

    none-undefined : undefined_lanes t f o ≡ []
    none-undefined = ap (λ y. cond y (whole_lanes t f o.loc) []) (none-of is_undef_definition o (registers i.operands) (none-before t i at.lowered) there)

    reload-of : (k : ℕ) (x : Operand) → slot ≡ operands.Stack k ∷ x ∷ [] → item_of t f b i ≡ Silent [] (given-of k x)
    reload-of k x is =
        item-known t f b i effects.Reload known
        ∙ (ap (λ os. Silent [] (reloaded t f early os)) (are ∙ ap (λ os. operands.Reg o ∷ os) is)
        ∙ ((λ j. Silent [] (moved early (own-lanes-are s o own j) (map FromLane (slot_lanes k (slot_lane_numbers t (wide j) x) (wide j))) ++ undefined early (none-undefined j)))
        ∙ ap (λ ws. Silent [] ws) (append-nil (given-of k x))))

    -- as many lanes of the slot are named as the range has
    lanes-named-all : (k : ℕ) (x : Operand) → slot ≡ operands.Stack k ∷ x ∷ [] → length (map (width s) ks) ≤ length (numbers-named x)
    lanes-named-all k x is = go x (subst (λ os. lanes_fit t f os ≡ true) (are ∙ ap (λ os. operands.Reg o ∷ os) is) (second_of_both _ (lanes_fit t f i.operands) (met t f i effects.Reload known at.shaped.operands).3))
      where
        all : (ws : List ℕ) → length ws ≤ length (numbers 0 (length ws))
        all ws = let h = numbers-long 0 (length ws) in omega (arith, h)

        by-test : (y w : Bool) → y ≡ true → (not y || w) ≡ true → w ≡ true
        by-test true w e h = h
        by-test false w e h = absurd (cc)

        go : (x : Operand) → lanes_fit t f (operands.Reg o ∷ operands.Stack k ∷ x ∷ []) ≡ true → length (map (width s) ks) ≤ length (numbers-named x)
        go (operands.Index y) e =
            let h : length (lanes_of t y) ≡ length (operand_widths t f o) = eqb-true (length (lanes_of t y)) (length (operand_widths t f o)) (by-test (has_lanes t f o) (length (lanes_of t y) == length (operand_widths t f o)) (lanes-there t f i at.shaped o there) e) in
            let q = ap length wide in
            omega (arith, h, q)
        go (operands.Imm y) e = all (map (width s) ks)
        go x e = all (map (width s) ks)

    full-of : (k : ℕ) (x : Operand) → slot ≡ operands.Stack k ∷ x ∷ [] → length ks ≤ length (sources-of k x)
    full-of k x is =
        let a = slots-all k (numbers-named x) (map (width s) ks) (lanes-named-all k x is) in
        let e = length-map ks (width s) in
        let h = length-map (slots-named k x) FromLane in
        omega (arith, a, e, h)

    sources-beside : (k : ℕ) (x : Operand) (a : Lane) → Member (FromLane a) (sources-of k x) → IsBeside s a
    sources-beside k x a q =
        let y = map-of FromLane (FromLane a) (slots-named k x) q in
        slot-beside a (slots-are k (numbers-named x) (map (width s) ks) a (subst (λ l. Member l (slots-named k x)) (sym (lane-of a y.0 y.2)) y.1))
      where
        lane-of : (x y : Lane) → FromLane x ≡ FromLane y → x ≡ y
        lane-of x y e = cc

    reload-through : (k : ℕ) (x : Operand) → slot ≡ operands.Stack k ∷ x ∷ [] → ChangeStands s g b c i p (through_tiny s n r i (moving_class s o.index) slot (in_own_slot s o.index))
    reload-through k x is =
        let q = moving_class s o.index in
        let y = in_place_of i (reload t q (plain_definition (Virtual r) None) slot) in
        let w = store t q (plain_use (Virtual r) None) (in_own_slot s o.index) in
        let known-y : effect_of t y ≡ Some effects.Reload = ap (λ u. effect_of t (reload t u (plain_definition (Virtual r) None) slot)) m.is ∙ reload-effect t m.class m.known (plain_definition (Virtual r) None) slot in
        let known-w : effect_of t w ≡ Some effects.Spill = ap (λ u. effect_of t (store t u (plain_use (Virtual r) None) (in_own_slot s o.index))) m.is ∙ store-effect t m.class m.known (plain_use (Virtual r) None) (in_own_slot s o.index) in
        let soon = is_early_clobber (roles_of t y) in
        let loads = moved soon (tiny_lanes r 0 (length ks)) (sources-of k x) in
        let saves = store_writes s.slot (width s) t ks (map FromLane (tiny_lanes r 0 (length ks))) in
        let first-is : item_of t g c y ≡ Silent [] loads =
        item-known t g c y effects.Reload known-y
        ∙ (ap (λ os. Silent [] (reloaded t g soon (operands.Reg (plain_definition (Virtual r) None) ∷ os))) is
        ∙ ((λ j. Silent [] (moved soon (tiny-are j) (map FromLane (slot_lanes k (slot_lane_numbers t (wide-tiny j) x) (wide-tiny j))) ++ []))
        ∙ ap (λ ws. Silent [] ws) (append-nil loads))) in
        let second-is : item_of t g c w ≡ Silent [] saves = store-item s g c w (plain_use (Virtual r) None) o.index refl wide-tiny known-w ∙ ap (λ l. Silent [] (store_writes s.slot (width s) t ks (map FromLane l))) tiny-are in
        let site : IsSite s i.id (Silent [] (given-of k x)) p = subst (λ u. IsSite s i.id u p) (reload-of k x is) at.site in
        subst (λ u. PlaceStands s (u ∷ []) (item_of t g c y ∷ item_of t g c w ∷ []) p) (sym (reload-of k x is))
        (subst (λ u. PlaceStands s (Silent [] (given-of k x) ∷ []) (u ∷ item_of t g c w ∷ []) p) (sym first-is)
        (subst (λ u. PlaceStands s (Silent [] (given-of k x) ∷ []) (Silent [] loads ∷ u ∷ []) p) (sym second-is)
        (pass-place s i.id early ks (sources-of k x) p (full-of k x is) site r further (sources-of k x) (full-of k x is) soon (λ j e l q. source-stays s i.id early ks (sources-of k x) p (full-of k x is) site j e l (sources-beside k x)))))

    reload-kept : (k : ℕ) (x : Operand) → slot ≡ operands.Stack k ∷ x ∷ [] → (nat_eq k s.slot && same_numbers (slot_lane_numbers t (operand_widths t f o) x) ks) ≡ true → ChangeStands s g b c i p (becomes [])
    reload-kept k x is e =
        let js : numbers-named x ≡ ks = ap (λ ws. slot_lane_numbers t ws x) (sym wide) ∙ same-list (slot_lane_numbers t (operand_widths t f o) x) ks (second_of_both (nat_eq k s.slot) (same_numbers (slot_lane_numbers t (operand_widths t f o) x) ks) e) in
        let same : k ≡ s.slot = eqb-true k s.slot (first_of_both (nat_eq k s.slot) (same_numbers (slot_lane_numbers t (operand_widths t f o) x) ks) e) in
        let site : IsSite s i.id (Silent [] (given-of k x)) p = subst (λ u. IsSite s i.id u p) (reload-of k x is) at.site in
        subst (λ u. PlaceStands s (u ∷ []) [] p) (sym (reload-of k x is))
        (held-place s i.id early ks (sources-of k x) p (full-of k x is) site (λ j e l q.
        let h : source_at ks (sources-of k x) j ≡ home s j = (λ u. source_at ks (map FromLane (slot_lanes (same u) (js u) (map (width s) ks))) j) ∙ (ap (λ qs. source_at ks qs j) (homes-are s ks) ∙ self-source (home s) ks j e) in
        subst (Stands s (Silent [] (given-of k x) ∷ p) (source_at ks (sources-of k x) j)) h (source-stays s i.id early ks (sources-of k x) p (full-of k x is) site j e l (sources-beside k x))))

    pub reload-stands : ChangeStands s g b c i p (slot_change s n r i o slot (λ own other. through_tiny s n r i (moving_class s o.index) other own))
    reload-stands = subst (λ y. ChangeStands s g b c i p (cond y (cond (is_own_part s o slot) (becomes []) (through_tiny s n r i (moving_class s o.index) slot (in_own_slot s o.index))) (becomes (i ∷ [])))) (sym own) (go (reload-slot t f i o slot at.shaped.operands known are))
      where
        by : (y : Bool) (k : ℕ) (x : Operand) → slot ≡ operands.Stack k ∷ x ∷ [] → (nat_eq k s.slot && same_numbers (slot_lane_numbers t (operand_widths t f o) x) ks) ≡ y → ChangeStands s g b c i p (cond y (becomes []) (through_tiny s n r i (moving_class s o.index) slot (in_own_slot s o.index)))
        by true k x is e = reload-kept k x is e
        by false k x is e = reload-through k x is

        go : IsSlot slot → ChangeStands s g b c i p (cond (is_own_part s o slot) (becomes []) (through_tiny s n r i (moving_class s o.index) slot (in_own_slot s o.index)))
        go u = subst (λ q. ChangeStands s g b c i p (cond (is_own_part s o q) (becomes []) (through_tiny s n r i (moving_class s o.index) slot (in_own_slot s o.index)))) (sym u.is) (by (nat_eq u.number s.slot && same_numbers (slot_lane_numbers t (operand_widths t f o) u.lanes) ks) u.number u.lanes u.is refl)

pub slot_moves_stand : SlotMovesStand
slot_moves_stand s g b c i p o slot n r z at are own further class = (
  (λ known plain. store-stands s g z b c i p at o slot n r are own further class known plain),
  (λ known. reload-stands s g z b c i p at o slot n r are own further class known),
)
