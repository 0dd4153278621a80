-- Stores of the range to a slot, and reloads of it: lanes go from slot to slot through a further register, or nothing stands there.
use Rattle.std.proofs.Common.{◌≡◌, ◌≤◌, ◌⊎◌, inl, inr, ◌∷◌, ◌++◌, ◌∙◌, ◌||◌, not, ℕ, Bool, true, false, cond, List, Some, None, flat_map, length, map, refl, sym, ap, subst, arith, append-nil, eqb-true, []}
use Rattle.std.proofs.lemmas.List.{length-map}
use Rattle.std.specs.Prelude.{◌==◌}
use Rattle.target_base.specs.declared.types.Effect.TheVariants as effects
use Rattle.target_base.specs.declared.types.Target.{Target}
use Rattle.target_base.specs.Registers.{lanes_of, widths_of_some}
use Rattle.target_base.specs.Rules.{is_phi}
use Rattle.target_base.proofs.Tests.{second_of_both}
use Rattle.meaning.specs.Code.{Code, Silent}
use Rattle.meaning.specs.Lanes.{Writes, filled}
use Rattle.meaning.specs.Live.{Among as Member, here as first, there as later, Writing, after_next, is_slot, next, store as live-stored}
use Rattle.meaning.specs.declared.types.Fill.TheVariants.{Moved}
use Rattle.meaning.specs.declared.types.Lane.{Lane}
use Rattle.meaning.specs.declared.types.Lane.TheVariants.{SlotLane, VirtualLane}
use Rattle.meaning.specs.declared.types.Source.{Source}
use Rattle.meaning.specs.declared.types.Source.TheVariants.{FromLane, Undef}
use Rattle.mir_func.specs.declared.func.Loc.TheVariants.{Virtual}
use Rattle.mir_func.specs.declared.func.RegOp.{RegOp}
use Rattle.mir_func.specs.declared.func.Operand.{Operand}
use Rattle.mir_func.specs.declared.func.Operand.TheVariants as operands
use Rattle.mir_func.specs.declared.func.Instr.{Instr}
use Rattle.mir_func.specs.declared.func.Block.{Block}
use Rattle.mir_func.specs.Value.{Function}
use Rattle.mir_func.specs.Binding.{class_of, effect_of, is_early_clobber, passes, registers, roles_of}
use Rattle.mir_meaning.specs.Codes.{item_of}
use Rattle.mir_meaning.specs.Items.{at_all_widths, moved, reloaded, spilled as store_given, undefined}
use Rattle.mir_meaning.specs.Registers.{is_reserved, located_lanes, located_widths, numbers, operand_widths, slot_lane_numbers, slot_lanes, undefined_lanes, whole_lanes}
use Rattle.mir_meaning.specs.Rules.{has_lanes, lanes_fit}
use Rattle.instr_effects.proofs.Members.{either-elim, flat-in, map-of, member-elim, member-none}
use Rattle.live_laws.proofs.Effects.Shapes.{class-there, index-there, lanes-there}
use Rattle.live_laws.proofs.Touch.Roles.{met}
use Rattle.lowering_laws.proofs.Traced.{is_one, lanes_by}
use Rattle.lowering_laws.specs.Form.{is_undef_definition}
use Rattle.spiller.specs.Reaching.{Reads}
use Rattle.spiller.specs.Rematerialised.{Never, all_readings, effect_readings, if_serves, place_readings, places_of, reaching, reading_of, repeated_for}
use Rattle.spiller.specs.Setting.{Spilling, in_own_slot, is_own, moving_class, own_lanes, plain_definition, plain_use, reload, store}
use Rattle.spiller.specs.Spilled.{in_place_of, spilled}
use Rattle.split_laws.proofs.Splitting.{as-item}
use Rattle.spill_laws.specs.Seats.{source_at}
use Rattle.spill_laws.specs.Standing.{IsAt, IsSetting, IsSite, IsStored, code_before}
use Rattle.spill_laws.proofs.Chains.{self-source, tiny_lanes}
use Rattle.spill_laws.proofs.CopyPlaces.{map-map, none-of}
use Rattle.spill_laws.proofs.Reached.{reading-stored}
use Rattle.spill_laws.proofs.SlotPlaces.{home, width}
use Rattle.spill_laws.proofs.SlotWrites.{moved-lane, one-of, range-given, slot-lane-of, slot_by, source-among, store_writes, stored-filled, undefined-lane, undefined-written, write-of, written-right}
use Rattle.spill_laws.proofs.SpillItems.{OwnMove, homes-are, item-known, numbers-long, own-lanes-are, own-move, own-widths-are, reload-effect, reload-item, store-effect, store-item}
use Rattle.spill_laws.proofs.TinyApart.{none-before}
use Rattle.clear_laws.proofs.PlaceBounds.{unwritten, wrote-or-not}
use Rattle.clear_laws.proofs.Passed.{passed-kept}
use Rattle.clear_laws.proofs.PassForms.{definition-passing, storing-passing}
use Rattle.clear_laws.proofs.MovePlaces.{goes-kept}
use Rattle.clear_laws.proofs.SilentForms.{IsFine, KeptHere, LiveHere, MayHere, from-own, gone-may, not-fine, range-number}
use Rattle.clear_laws.proofs.SilentLists.{all-widths-in, all-widths-of}
use Rattle.clear_laws.proofs.SilentPlaces.{KeptAs, own-wide, same-id}
use Rattle.clear_laws.proofs.SpillPoints.{is-stored, is-wide}

source-lane : (a b : Lane) → FromLane a ≡ FromLane b → a ≡ b
source-lane a b e = cc

-- lanes of a slot by their numbers
pub slots-of : (m : ℕ) (js ws : List ℕ) (a : Lane) → Member a (slot_lanes m js ws) → (k : ℕ) × (w : ℕ) × Member k js × (a ≡ SlotLane m k w)
slots-of m [] ws a h = absurd (member-none a h)
slots-of m (j ∷ js) [] a h = absurd (member-none a h)
slots-of m (j ∷ js) (w ∷ ws) a h = member-elim a (SlotLane m j w) (slot_lanes m js ws) (λ e. (j, w, first, e)) (λ k. let z = slots-of m js ws a k in (z.0, z.1, later z.2, z.3)) h

slots-few : (m : ℕ) (js ws : List ℕ) → length (slot_lanes m js ws) ≤ length ws
slots-few m [] ws = omega arith
slots-few m (j ∷ js) [] = omega arith
slots-few m (j ∷ js) (w ∷ ws) = let h = slots-few m js ws in omega (arith, h)

slots-all : (m : ℕ) (js ws : List ℕ) → length ws ≤ length js → length ws ≤ length (slot_lanes m js ws)
slots-all m [] [] h = omega arith
slots-all m [] (w ∷ ws) h = absurd (omega (arith, h))
slots-all m (j ∷ js) [] h = omega arith
slots-all m (j ∷ js) (w ∷ ws) h = let g = slots-all m js ws (omega (arith, h)) in omega (arith, g)

module _ (s : Spilling) (z : IsSetting s (spilled s)) (b c : Block) (i : Instr) (p : Code) (at : IsAt s b i p) (phi : passes is_phi (effect_of s.target i) ≡ false)
    (o : RegOp) (k : ℕ) (x : Operand) (are : i.operands ≡ operands.Reg o ∷ operands.Stack k ∷ x ∷ []) (own : is_own s o ≡ true) where
  abbrev t : Target
  t = s.target

  abbrev f : Function
  f = s.func

  abbrev g : Function
  g = spilled s

  there : Member o (registers i.operands)
  there = subst (λ os. Member o (registers os)) (sym are) first

  abbrev ks : List ℕ
  ks = own_lanes s o.index

  m : OwnMove s o.index
  m = own-move s z.classes o.loc o.index own (class-there t f i at.shaped o there) (index-there t f i at.shaped o there)

  wide : operand_widths t f o ≡ map (width s) ks
  wide = own-widths-are s o own

  -- what it names of the slot, in the widths of the range
  abbrev js : List ℕ
  js = slot_lane_numbers t (map (width s) ks) x

  abbrev sl : List Lane
  sl = slot_lanes k js (map (width s) ks)

  abbrev rest : List Lane
  rest = at_all_widths t k js

  -- nothing serves a wish for nothing
  never : repeated_for s (reading_of s (i ∷ []) o.index Never) ≡ None
  never = go (reaching s (reading_of s (i ∷ []) o.index Never))
    where
      go : (es : List Instr) → if_serves t Never es ≡ None
      go [] = refl
      go (e ∷ []) = refl
      go (e ∷ u ∷ es) = refl

  -- the tiny
  module _ (r : ℕ) (class : class_of g r ≡ moving_class s o.index) where
    wide-tiny : located_widths t g (Virtual r) None ≡ map (width s) ks
    wide-tiny = ap (widths_of_some t) (class ∙ m.is) ∙ m.wide

    tiny-are : located_lanes t g (Virtual r) None ≡ tiny_lanes r 0 (length ks)
    tiny-are = ap (λ n. lanes_by r (numbers 0 n)) (ap length wide-tiny ∙ length-map ks (width s))

  -- a store

  module _ (known : effect_of t i ≡ Some effects.Spill) (plain : o.undef ≡ false) where
    abbrev out : Writes
    out = moved false sl (map (from-own s) ks) ++ undefined false rest

    store-item-is : item_of t f b i ≡ Silent [] out
    store-item-is =
        item-known t f b i effects.Spill known
        ∙ (ap (λ os. Silent [] (store_given t f os)) are
        ∙ ((λ j. Silent [] (moved false (slot_lanes k (slot_lane_numbers t (wide j) x) (wide j)) (map (cond (plain j) (λ l. Undef) FromLane) (own-lanes-are s o own j)) ++ undefined false (at_all_widths t k (slot_lane_numbers t (wide j) x))))
        ∙ ap (λ qs. Silent [] (moved false sl qs ++ undefined false rest)) (map-map s.range ks)))

    known-reading : Member (reading_of s (i ∷ []) o.index Never) (all_readings s)
    known-reading = flat-in (λ (b : Block). flat_map (place_readings s) (places_of t b)) (reading_of s (i ∷ []) o.index Never) b f.blocks at.block (flat-in (place_readings s) (reading_of s (i ∷ []) o.index Never) (i ∷ []) (places_of t b) at.place (subst (Member (reading_of s (i ∷ []) o.index Never)) (sym is) first))
      where
        is : place_readings s (i ∷ []) ≡ reading_of s (i ∷ []) o.index Never ∷ []
        is = (λ j. effect_readings s i (known j) (are j)) ∙ ap (λ y. cond y (reading_of s (i ∷ []) o.index Never ∷ []) []) own

    site : IsSite s i.id (Silent [] out) p
    site = subst (λ u. IsSite s i.id u p) store-item-is at.site

    -- lanes of the range are read where a lane that they are stored to is live behind
    read-stored : (j : ℕ) (a : Lane) → Member j ks → is_slot a ≡ true → Writing (Silent [] out) a → (n q w y : ℕ) → a ≡ SlotLane n q y → filled out (SlotLane n q w) ≡ Moved (from-own s j) → LiveHere s p a → IsStored s j (Silent [] out ∷ p)
    read-stored j a mj sa wr n q w y e fed live =
        reading-stored s z.facts i (Silent [] out) p (at.site.from ∙ ap (λ u. u ∷ p) store-item-is) j reads (reading_of s (i ∷ []) o.index Never) first mj known-reading never
      where
        reads : Reads (is_reserved t) (code_before s) (VirtualLane s.range j) (Silent [] out) p
        reads = inr (a, inl wr, inr (n, q, w, y, e, fed, refl, refl), inl (after_next refl live))

    pub stored-on-kept : (r n : ℕ) → length f.classes ≤ r → class_of g r ≡ moving_class s o.index → ((n q u : ℕ) → LiveHere s p (SlotLane n q u) → is-wide s u)
        → KeptAs s z b c i p at phi (in_place_of i (reload t (moving_class s o.index) (plain_definition (Virtual r) None) (in_own_slot s o.index)) ∷ record (store t (moving_class s o.index) (plain_use (Virtual r) None) (operands.Stack k ∷ x ∷ [])) { id = n } ∷ [])
    stored-on-kept r n further class live-wide =
        let q = moving_class s o.index in
        let slot = operands.Stack k ∷ x ∷ [] in
        let y = in_place_of i (reload t q (plain_definition (Virtual r) None) (in_own_slot s o.index)) in
        let w = store t q (plain_use (Virtual r) None) slot in
        let known-y : effect_of t y ≡ Some effects.Reload = ap (λ u. effect_of t (reload t u (plain_definition (Virtual r) None) (in_own_slot s o.index))) m.is ∙ reload-effect t m.class m.known (plain_definition (Virtual r) None) (in_own_slot s o.index) in
        let known-w : effect_of t w ≡ Some effects.Spill = ap (λ u. effect_of t (store t u (plain_use (Virtual r) None) slot)) m.is ∙ store-effect t m.class m.known (plain_use (Virtual r) None) slot in
        let soon = is_early_clobber (roles_of t y) in
        let rs = moved soon (tiny_lanes r 0 (length ks)) (map (home s) ks) in
        let on = moved false sl (map FromLane (tiny_lanes r 0 (length ks))) ++ undefined false rest in
        let first-is : item_of t g c y ≡ Silent [] rs = reload-item s g c y (plain_definition (Virtual r) None) o.index refl (wide-tiny r class) known-y refl ∙ ap (λ l. Silent [] (moved soon l (map (home s) ks))) (tiny-are r class) in
        let second-is : item_of t g c w ≡ Silent [] on =
        item-known t g c w effects.Spill known-w
        ∙ (λ j. Silent [] (moved false (slot_lanes k (slot_lane_numbers t (wide-tiny r class j) x) (wide-tiny r class j)) (map FromLane (tiny-are r class j)) ++ undefined false (at_all_widths t k (slot_lane_numbers t (wide-tiny r class j) x)))) in
        passed-kept t f g s.range s.slot (is-wide s) (is-stored s) out rs on p
        (storing-passing s i.id soon r k sl js ks p further (let a = slots-few k js (map (width s) ks) in let e = length-map ks (width s) in omega (arith, a, e)) site (slots-of k js (map (width s) ks)) (own-wide s o.index m) live-wide read-stored)
        b c i y (record w { id = n }) (as-item t f b i phi ∙ store-item-is) (as-item t g c y (ap (passes is_phi) known-y) ∙ first-is) (as-item t g c (record w { id = n }) (ap (passes is_phi) known-w) ∙ (same-id t g c n w ∙ second-is)) site.from

    -- a store to its own slot goes
    module _ (same : k ≡ s.slot) (numbers-same : js ≡ ks) (live-wide : (n q u : ℕ) → LiveHere s p (SlotLane n q u) → is-wide s u) where
      abbrev keeping : Writes
      keeping = store_writes s.slot (width s) t ks (map (from-own s) ks)

      keeping-item : item_of t f b i ≡ Silent [] keeping
      keeping-item = store-item-is ∙ (λ j. Silent [] (moved false (slot_lanes (same j) (numbers-same j) (map (width s) ks)) (map (from-own s) ks) ++ undefined false (at_all_widths t (same j) (numbers-same j))))

      lane-kept : (a : Lane) → Writing (Silent [] keeping) a → (q : ℕ) × (u : ℕ) × Member q ks × is-wide s u × (a ≡ SlotLane s.slot q u)
      lane-kept a w =
          either-elim w.0 (moved false (slot_by s.slot (width s) ks) (map (from-own s) ks)) (undefined false (at_all_widths t s.slot ks))
          (λ n. let y = slot-lane-of s.slot (width s) ks w.0.lane (moved-lane false (slot_by s.slot (width s) ks) (map (from-own s) ks) w.0 n) in (y.0, width s y.0, y.1, own-wide s o.index m y.0 y.1, sym w.2 ∙ y.2))
          (λ n. let y = all-widths-of t s.slot ks w.0.lane (undefined-lane false (at_all_widths t s.slot ks) w.0 n).0 in (y.0, y.1, y.2, y.3, sym w.2 ∙ y.4)) w.1

      full : length ks ≤ length (map (from-own s) ks)
      full = let a = length-map ks (from-own s) in omega (arith, a)

      keeping-fill : (q : ℕ) → is_one ks q ≡ true → filled keeping (SlotLane s.slot q (width s q)) ≡ Moved (from-own s q)
      keeping-fill q e = stored-filled s.slot (width s) t ks (map (from-own s) ks) q full e ∙ ap Moved (self-source (from-own s) ks q e)

      pub stored-own-kept : KeptAs s z b c i p at phi []
      stored-own-kept =
          goes-kept s z b c i p at phi (Silent [] keeping) keeping-item
          (gone-may s keeping p (λ a fine n. unwritten keeping a (λ w. let y = lane-kept a w in n y.0 y.1 y.4)) (λ q. inl (λ w. let y = lane-kept (VirtualLane s.range q) w in let e : VirtualLane s.range q ≡ SlotLane s.slot y.0 y.1 = y.4 in cc)) (λ q w. by q w (wrote-or-not keeping (SlotLane s.slot q w))))
        where
          number : (n q j u w : ℕ) → SlotLane n q u ≡ SlotLane n j w → (q ≡ j) × (u ≡ w)
          number n q j u w e = (cc, cc)

          by : (q w : ℕ) → Writing (Silent [] keeping) (SlotLane s.slot q w) ⊎ (Writing (Silent [] keeping) (SlotLane s.slot q w) → ⊥)
              → (filled keeping (SlotLane s.slot q w) ≡ Moved (FromLane (SlotLane s.slot q w))) ⊎ (is-wide s w × ((u : ℕ) → LiveHere s p (SlotLane s.slot q u) → KeptHere s (Silent [] keeping ∷ p) q))
          by q w (inr n) = inl (unwritten keeping (SlotLane s.slot q w) n)
          by q w (inl wr) =
              let y = lane-kept (SlotLane s.slot q w) wr in
              let n = number s.slot q y.0 w y.1 y.4 in
              let inside : Member q ks = subst (λ j. Member j ks) (sym n.0) y.2 in
              inr (
                subst (is-wide s) (sym n.1) y.3,
                (λ u live. inr (
                  live-stored (width s q) refl live (keeping-fill q (one-of ks q inside)) refl refl,
                  reading-stored s z.facts i (Silent [] keeping) p (at.site.from ∙ ap (λ v. v ∷ p) keeping-item) q
                      (inr (SlotLane s.slot q u, inl (again q u inside (live-wide s.slot q u live)), inr (s.slot, q, width s q, u, refl, keeping-fill q (one-of ks q inside), refl, refl), inl (after_next refl live)))
                      (reading_of s (i ∷ []) o.index Never) first inside known-reading never,
                )),
              )
            where
              again : (q u : ℕ) → Member q ks → is-wide s u → Writing (Silent [] keeping) (SlotLane s.slot q u)
              again q u m wd = write-of keeping (SlotLane s.slot q u) (written-right (moved false (slot_by s.slot (width s) ks) (map (from-own s) ks)) (undefined false (at_all_widths t s.slot ks)) (SlotLane s.slot q u) (undefined-written false (at_all_widths t s.slot ks) (SlotLane s.slot q u) (all-widths-in t s.slot ks q u m wd)))

  -- a reload

  module _ (known : effect_of t i ≡ Some effects.Reload) where
    abbrev early : Bool
    early = is_early_clobber (roles_of s.target i)

    abbrev us : List Source
    us = map FromLane sl

    abbrev loads : Writes
    loads = moved early (lanes_by s.range ks) us

    none-undefined : undefined_lanes t f o ≡ []
    none-undefined = ap (λ y. cond y (whole_lanes t f o.loc) []) (none-of is_undef_definition o (registers i.operands) (none-before t i at.lowered) there)

    reload-item-is : item_of t f b i ≡ Silent [] loads
    reload-item-is =
        item-known t f b i effects.Reload known
        ∙ (ap (λ os. Silent [] (reloaded t f early os)) are
        ∙ ((λ j. Silent [] (moved early (own-lanes-are s o own j) (map FromLane (slot_lanes k (slot_lane_numbers t (wide j) x) (wide j))) ++ undefined early (none-undefined j)))
        ∙ ap (λ ws. Silent [] ws) (append-nil loads)))

    -- as many lanes of the slot are named as the range has
    named-all : length (map (width s) ks) ≤ length js
    named-all = go x (subst (λ os. lanes_fit t f os ≡ true) are (second_of_both _ (lanes_fit t f i.operands) (met t f i effects.Reload known at.shaped.operands).3))
      where
        all : (ws : List ℕ) → length ws ≤ length (numbers 0 (length ws))
        all ws = let h = numbers-long 0 (length ws) in omega (arith, h)

        by-test : (y w : Bool) → y ≡ true → (not y || w) ≡ true → w ≡ true
        by-test true w e h = h
        by-test false w e h = absurd (cc)

        go : (x : Operand) → lanes_fit t f (operands.Reg o ∷ operands.Stack k ∷ x ∷ []) ≡ true → length (map (width s) ks) ≤ length (slot_lane_numbers t (map (width s) ks) x)
        go (operands.Index y) e =
            let h : length (lanes_of t y) ≡ length (operand_widths t f o) = eqb-true (length (lanes_of t y)) (length (operand_widths t f o)) (by-test (has_lanes t f o) (length (lanes_of t y) == length (operand_widths t f o)) (lanes-there t f i at.shaped o there) e) in
            let q = ap length wide in
            omega (arith, h, q)
        go (operands.Imm y) e = all (map (width s) ks)
        go x e = all (map (width s) ks)

    full-us : length ks ≤ length us
    full-us =
        let a = slots-all k js (map (width s) ks) named-all in
        let e = length-map ks (width s) in
        let h = length-map sl FromLane in
        omega (arith, a, e, h)

    from-slots : (l : Lane) → Member (FromLane l) us → (q : ℕ) × (w : ℕ) × (l ≡ SlotLane k q w)
    from-slots l n =
        let y = map-of FromLane (FromLane l) sl n in
        let w = slots-of k js (map (width s) ks) y.0 y.1 in
        (w.0, w.1, source-lane l y.0 y.2 ∙ w.3)

    load-site : IsSite s i.id (Silent [] loads) p
    load-site = subst (λ u. IsSite s i.id u p) reload-item-is at.site

    pub reloaded-on-kept : (r n : ℕ) → length f.classes ≤ r → class_of g r ≡ moving_class s o.index
        → KeptAs s z b c i p at phi (in_place_of i (reload t (moving_class s o.index) (plain_definition (Virtual r) None) (operands.Stack k ∷ x ∷ [])) ∷ record (store t (moving_class s o.index) (plain_use (Virtual r) None) (in_own_slot s o.index)) { id = n } ∷ [])
    reloaded-on-kept r n further class =
        let q = moving_class s o.index in
        let slot = operands.Stack k ∷ x ∷ [] in
        let y = in_place_of i (reload t q (plain_definition (Virtual r) None) slot) in
        let w = store t q (plain_use (Virtual r) None) (in_own_slot s o.index) in
        let known-y : effect_of t y ≡ Some effects.Reload = ap (λ u. effect_of t (reload t u (plain_definition (Virtual r) None) slot)) m.is ∙ reload-effect t m.class m.known (plain_definition (Virtual r) None) slot in
        let known-w : effect_of t w ≡ Some effects.Spill = ap (λ u. effect_of t (store t u (plain_use (Virtual r) None) (in_own_slot s o.index))) m.is ∙ store-effect t m.class m.known (plain_use (Virtual r) None) (in_own_slot s o.index) in
        let soon = is_early_clobber (roles_of t y) in
        let rs = moved soon (tiny_lanes r 0 (length ks)) us in
        let gs = store_writes s.slot (width s) t ks (map FromLane (tiny_lanes r 0 (length ks))) in
        let first-is : item_of t g c y ≡ Silent [] rs =
        item-known t g c y effects.Reload known-y
        ∙ ((λ j. Silent [] (moved soon (tiny-are r class j) (map FromLane (slot_lanes k (slot_lane_numbers t (wide-tiny r class j) x) (wide-tiny r class j))) ++ []))
        ∙ ap (λ ws. Silent [] ws) (append-nil rs)) in
        let second-is : item_of t g c w ≡ Silent [] gs = store-item s g c w (plain_use (Virtual r) None) o.index refl (wide-tiny r class) known-w ∙ ap (λ l. Silent [] (store_writes s.slot (width s) t ks (map FromLane l))) (tiny-are r class) in
        passed-kept t f g s.range s.slot (is-wide s) (is-stored s) loads rs gs p
        (definition-passing s i.id early soon r ks us us p further full-us full-us load-site (λ l n. let v = from-slots l n in ap is_slot v.2) gives)
        b c i y (record w { id = n }) (as-item t f b i phi ∙ reload-item-is) (as-item t g c y (ap (passes is_phi) known-y) ∙ first-is) (as-item t g c (record w { id = n }) (ap (passes is_phi) known-w) ∙ (same-id t g c n w ∙ second-is)) load-site.from
      where
        gives : (q : ℕ) (l : Lane) → is_one ks q ≡ true → source_at ks us q ≡ FromLane l → LiveHere s p (VirtualLane s.range q) → IsStored s q p → MayHere s (Silent [] loads ∷ p) l
        gives q l e h live st =
            let v = from-slots l (subst (λ y. Member y us) h (source-among ks us q full-us e)) in
            inl (subst (IsFine s) (sym v.2) tt, next refl live (range-given s.range early ks us q full-us e ∙ ap Moved h) (subst (λ y. is_reserved t y ≡ false) (sym v.2) refl))

    -- a reload from its own slot goes
    module _ (same : k ≡ s.slot) (numbers-same : js ≡ ks) where
      abbrev homes : Writes
      homes = moved early (lanes_by s.range ks) (map (home s) ks)

      homes-item : item_of t f b i ≡ Silent [] homes
      homes-item = reload-item-is ∙ ((λ j. Silent [] (moved early (lanes_by s.range ks) (map FromLane (slot_lanes (same j) (numbers-same j) (map (width s) ks))))) ∙ ap (λ qs. Silent [] (moved early (lanes_by s.range ks) qs)) (homes-are s ks))

      home-number : (q : ℕ) → Writing (Silent [] homes) (VirtualLane s.range q) → Member q ks
      home-number q w =
          let y = map-of (VirtualLane s.range) w.0.lane ks (moved-lane early (lanes_by s.range ks) (map (home s) ks) w.0 w.1) in
          subst (λ j. Member j ks) (range-number s.range y.0 q (sym y.2 ∙ w.2)) y.1

      home-else : (a : Lane) → ((q : ℕ) → a ≡ VirtualLane s.range q → ⊥) → filled homes a ≡ Moved (FromLane a)
      home-else a h = unwritten homes a (λ w. let y = map-of (VirtualLane s.range) w.0.lane ks (moved-lane early (lanes_by s.range ks) (map (home s) ks) w.0 w.1) in h y.0 (sym w.2 ∙ y.2))

      home-long : length ks ≤ length (map (home s) ks)
      home-long = let a = length-map ks (home s) in omega (arith, a)

      pub reloaded-own-kept : KeptAs s z b c i p at phi []
      reloaded-own-kept =
          goes-kept s z b c i p at phi (Silent [] homes) homes-item
          (gone-may s homes p (λ a fine n. home-else a (λ q e. not-fine s a q e fine)) (λ q. by q (wrote-or-not homes (VirtualLane s.range q))) (λ q w. inl (home-else (SlotLane s.slot q w) (λ j e. (cc)))))
        where
          by : (q : ℕ) → Writing (Silent [] homes) (VirtualLane s.range q) ⊎ (Writing (Silent [] homes) (VirtualLane s.range q) → ⊥) → (Writing (Silent [] homes) (VirtualLane s.range q) → ⊥) ⊎ (LiveHere s p (VirtualLane s.range q) → IsStored s q p → KeptHere s (Silent [] homes ∷ p) q)
          by q (inr n) = inl n
          by q (inl w) =
              let e = one-of ks q (home-number q w) in
              inr (λ live st. inl (width s q, own-wide s o.index m q (home-number q w), next refl live (range-given s.range early ks (map (home s) ks) q home-long e ∙ ap Moved (self-source (home s) ks q e)) refl))
