-- Copies, stores, reloads and IMPLICIT_DEFs that name the range: what becomes of them keeps what is live and occupied.
use Rattle.std.proofs.Common.{◌≡◌, ◌≤◌, ◌⊎◌, inl, inr, ◌∷◌, ◌++◌, ◌∙◌, ◌&&◌, not, ℕ, Bool, true, false, cond, List, Option, Some, None, length, map, refl, sym, ap, subst, arith, append-nil, []}
use Rattle.std.proofs.lemmas.List.{length-map}
use Rattle.std.specs.List.{list_any}
use Rattle.target_base.specs.declared.types.Effect.TheVariants as effects
use Rattle.target_base.specs.declared.types.IndexId.{IndexId}
use Rattle.target_base.specs.declared.types.Target.{Target}
use Rattle.target_base.specs.Registers.{widths_of}
use Rattle.target_base.specs.Rules.{is_copy, is_phi}
use Rattle.target_base.proofs.Tests.{first_of_both, second_of_both}
use Rattle.meaning.specs.Code.{Code, Item, Silent}
use Rattle.meaning.specs.Lanes.{Writes, filled}
use Rattle.meaning.specs.Live.{Among as Member, here as first, there as later, KeptAfter, Writing, is_slot}
use Rattle.meaning.specs.declared.types.Fill.TheVariants.{Moved}
use Rattle.meaning.specs.declared.types.Lane.{Lane}
use Rattle.meaning.specs.declared.types.Lane.TheVariants.{VirtualLane}
use Rattle.meaning.specs.declared.types.Source.{Source}
use Rattle.meaning.specs.declared.types.Source.TheVariants.{FromLane, Undef}
use Rattle.mir_func.specs.declared.func.RegOp.{RegOp}
use Rattle.mir_func.specs.declared.func.Operand.TheVariants as operands
use Rattle.mir_func.specs.declared.func.Instr.{Instr}
use Rattle.mir_func.specs.declared.func.Block.{Block}
use Rattle.mir_func.specs.Value.{Function}
use Rattle.mir_func.specs.Binding.{effect_of, is_early_clobber, is_definition, is_use, is_virtual, passes, registers, roles_of}
use Rattle.mir_meaning.specs.Codes.{item_of}
use Rattle.mir_meaning.specs.Items.{copied, moved, undefined}
use Rattle.mir_meaning.specs.Registers.{is_reserved, located_lanes, located_widths, operand_widths, undefined_lanes, whole_lanes}
use Rattle.mir_meaning.specs.Rules.{copy_fits, has_class, has_home, same_widths, widths_fit}
use Rattle.instr_effects.proofs.Members.{map-of, member-elim, member-none}
use Rattle.live_laws.proofs.Effects.Shapes.{class-there, index-there, widths-of}
use Rattle.live_laws.proofs.Touch.Roles.{met}
use Rattle.lowering_laws.proofs.RulesStay.{lanes, widths}
use Rattle.lowering_laws.proofs.Silently.{lanes-count}
use Rattle.lowering_laws.proofs.Traced.{lanes_by}
use Rattle.lowering_laws.specs.Form.{is_undef_definition, is_undef_use}
use Rattle.spiller.specs.Reaching.{Reads}
use Rattle.spiller.specs.Rematerialised.{copy_reading, copy_wish, repeated, repeated_for}
use Rattle.spiller.specs.Setting.{Spilling, class_beside, in_own_slot, is_own, own_lanes, plain_definition, plain_use, reload, store}
use Rattle.spiller.specs.Spilled.{in_place_of, spilled}
use Rattle.split_laws.proofs.Splitting.{as-item}
use Rattle.spill_laws.specs.Seats.{source_at}
use Rattle.spill_laws.specs.Standing.{IsAt, IsBeside, IsConstant, IsSetting, IsSite, IsStored, code_before, slot_lane}
use Rattle.spill_laws.proofs.CopyPlaces.{class-d, from-item, known-reading, none-of, wide}
use Rattle.spill_laws.proofs.Copies.{beside}
use Rattle.spill_laws.proofs.Joined.{ids_change_nothing}
use Rattle.spill_laws.proofs.Reached.{reading-stored}
use Rattle.spill_laws.proofs.RepeatPlaces.{gives, gives-constant, gives-long, repeating-item, wholly}
use Rattle.spill_laws.proofs.SlotPlaces.{home, width}
use Rattle.spill_laws.proofs.SlotWrites.{source-among, one-of, store_writes}
use Rattle.spill_laws.proofs.SpillItems.{OwnMove, item-known, other-beside, own-at, own-lanes-are, own-move, own-widths-are, reload-effect, reload-item, store-effect, store-item, unslotted}
use Rattle.spill_laws.proofs.TinyApart.{none-before}
use Rattle.spill_laws.proofs.Touched.{low-copies}
use Rattle.clear_laws.specs.Spills.{HasEarlyReload}
use Rattle.clear_laws.proofs.PlaceBounds.{wrote-or-not, unwritten}
use Rattle.clear_laws.proofs.PlacesKept.{PlaceKept}
use Rattle.clear_laws.proofs.Replaced.{Replaces, replaced-kept}
use Rattle.clear_laws.proofs.SilentForms.{from-own, not-fine, beside-fine, reloading-replaces, storing-replaces}
use Rattle.clear_laws.proofs.SilentLists.{class-wide}
use Rattle.clear_laws.proofs.SpillPoints.{is-stored, is-wide}

source-lane : (a b : Lane) → FromLane a ≡ FromLane b → a ≡ b
source-lane a b e = cc

-- lanes of the range that a move of an index moves have widths at which stores write
map-member : (h : ℕ → ℕ) (ks ws : List ℕ) (k : ℕ) → ws ≡ map h ks → Member k ks → Member (h k) ws
map-member h [] ws k e m = absurd (member-none k m)
map-member h (j ∷ ks) ws k e m = subst (Member (h k)) (sym e) (member-elim k j ks (λ q. subst (λ x. Member (h x) (map h (j ∷ ks))) (sym q) first) (λ q. later (map-member h ks (map h ks) k refl q)) m)

pub own-wide : (s : Spilling) (x : Option IndexId) → OwnMove s x → (k : ℕ) → Member k (own_lanes s x) → is-wide s (width s k)
own-wide s x m k q = class-wide s.target m.class (width s k) (map-member (width s) (own_lanes s x) (widths_of s.target m.class) k m.wide q)

-- another id changes no item
pub same-id : (t : Target) (g : Function) (c : Block) (n : ℕ) (i : Instr) → item_of t g c (record i { id = n }) ≡ item_of t g c i
same-id t g c n i = one (item_of t g c (record i { id = n })) (item_of t g c i) (ids_change_nothing t g c n (i ∷ []))
  where
    one : (x y : Item) → x ∷ [] ≡ y ∷ [] → x ≡ y
    one x y e = cc

module _ (s : Spilling) (z : IsSetting s (spilled s)) (b c : Block) (i : Instr) (p : Code) (at : IsAt s b i p) (phi : passes is_phi (effect_of s.target i) ≡ false) where
  abbrev t : Target
  t = s.target

  abbrev f : Function
  f = s.func

  abbrev g : Function
  g = spilled s

  abbrev pub KeptAs : List Instr → Type 0
  KeptAs js = PlaceKept t f g s.range s.slot (is-wide s) (is-stored s) b c (i ∷ []) js p

  abbrev pub For : Item → Item → Type 0
  For x y = Replaces t f g s.range s.slot (is-wide s) (is-stored s) x y p

  pub as-one : (j : Instr) (x y : Item) → passes is_phi (effect_of t j) ≡ false → item_of t f b i ≡ x → item_of t g c j ≡ y → For x y → KeptAs (j ∷ [])
  as-one j x y n is now r =
      replaced-kept t f g s.range s.slot (is-wide s) (is-stored s) b c i j p x y (as-item t f b i phi ∙ is) (as-item t g c j n ∙ now)
      (at.site.from ∙ ap (λ q. q ∷ p) is) r

  -- copies

  module _ (d o : RegOp) (known : effect_of t i ≡ Some effects.Copy) (are : i.operands ≡ operands.Reg d ∷ operands.Reg o ∷ []) where
    named : (x : RegOp) → Member x (d ∷ o ∷ []) → Member x (registers i.operands)
    named x m = subst (λ os. Member x (registers os)) (sym are) m

    class-o : has_class f o.loc ≡ true
    class-o = class-there t f i at.shaped o (named o (later first))

    has-class-d : has_class f d.loc ≡ true
    has-class-d = class-d s g z b c i p at d o known are

    same-wide : operand_widths t f d ≡ operand_widths t f o
    same-wide = wide s g z b c i p at d o known are

    rule : (same_widths t f d o && has_home t d.loc o.loc && has_home t o.loc d.loc) ≡ true
    rule = subst (λ os. widths_fit t f effects.Copy os ≡ true) are (widths-of t f i effects.Copy known at.shaped.widths)

    fits : (is_definition d && is_use o) ≡ true
    fits = subst (λ os. copy_fits os ≡ true) are (met t f i effects.Copy known at.shaped.operands).3

    not-true : (y : Bool) → not y ≡ true → y ≡ false
    not-true false e = refl
    not-true true e = absurd (cc)

    plain-d : d.undef ≡ false
    plain-d = by d.def d.undef (first_of_both d.def (not d.implicit) (first_of_both (is_definition d) (is_use o) fits)) (none-of is_undef_definition d (registers i.operands) (none-before t i at.lowered) (named d first))
      where
        by : (x y : Bool) → x ≡ true → (x && y) ≡ false → y ≡ false
        by true y h e = e
        by false y h e = absurd (cc)

    plain-o : o.undef ≡ false
    plain-o = by o.def o.undef (not-true o.def (first_of_both (not o.def) (not o.implicit) (second_of_both (is_definition d) (is_use o) fits))) (none-of is_undef_use o (registers i.operands) (past (passes is_copy (effect_of t i)) (list_any is_undef_use (registers i.operands)) (ap (passes is_copy) known) (low-copies t i at.lowered)) (named o (later first)))
      where
        by : (x y : Bool) → x ≡ false → (not x && y) ≡ false → y ≡ false
        by false y h e = e
        by true y h e = absurd (cc)

        past : (x y : Bool) → x ≡ true → (x && y) ≡ false → y ≡ false
        past true y h e = e
        past false y h e = absurd (cc)

    -- a copy to the range is a store
    module _ (own : is_own s d ≡ true) (other : is_own s o ≡ false) where
      abbrev ks : List ℕ
      ks = own_lanes s d.index

      abbrev ss : List Source
      ss = map FromLane (located_lanes t f o.loc o.index)

      in-item : item_of t f b i ≡ Silent [] (moved false (lanes_by s.range ks) ss)
      in-item =
          item-known t f b i effects.Copy known
          ∙ (ap (λ os. Silent [] (copied t f os)) are
          ∙ ((λ j. Silent [] (moved false (own-lanes-are s d own j) (map (cond (plain-o j) (λ l. Undef) FromLane) (located_lanes t f o.loc o.index)) ++ undefined false (none-undefined j)))
          ∙ ap (λ ws. Silent [] ws) (append-nil (moved false (lanes_by s.range ks) ss))))
        where
          and-false : (y : Bool) → (y && false) ≡ false
          and-false true = refl
          and-false false = refl

          none-undefined : undefined_lanes t f d ≡ []
          none-undefined = ap (λ y. cond (d.def && y) (whole_lanes t f d.loc) []) plain-d ∙ ap (λ y. cond y (whole_lanes t f d.loc) []) (and-false d.def)

      long : length ks ≤ length ss
      long =
          let a : length (lanes_by s.range ks) ≡ length ks = length-map ks (VirtualLane s.range) in
          let e : length (located_lanes t f d.loc d.index) ≡ length (lanes_by s.range ks) = ap length (own-lanes-are s d own) in
          let h : length ss ≡ length (located_lanes t f o.loc o.index) = length-map (located_lanes t f o.loc o.index) FromLane in
          let m = lanes-count t f d.loc d.index in
          let n = lanes-count t f o.loc o.index in
          let w = ap length same-wide in
          omega (arith, a, e, h, m, n, w)

      are-others : (a : Lane) → Member (FromLane a) ss → IsBeside s a × (is_slot a ≡ false)
      are-others a m =
          let y = map-of FromLane (FromLane a) (located_lanes t f o.loc o.index) m in
          let q = subst (λ l. Member l (located_lanes t f o.loc o.index)) (sym (source-lane a y.0 y.2)) y.1 in
          (other-beside s o.loc o.index other class-o a q, unslotted s f o.loc o.index a q)

      wide-stored : operand_widths t g (plain_use o.loc o.index) ≡ map (width s) ks
      wide-stored = widths t f g z.keeps o.loc o.index class-o ∙ (sym same-wide ∙ own-widths-are s d own)

      pub copied-in-kept : KeptAs (in_place_of i (store t (class_beside s o o.loc) (plain_use o.loc o.index) (in_own_slot s d.index)) ∷ [])
      copied-in-kept =
          let k = beside s g z.keeps z.classes o o.loc class-o (index-there t f i at.shaped o (named o (later first))) d.loc (ap is_virtual (own-at s.range d.loc own)) (second_of_both (same_widths t f d o && has_home t d.loc o.loc) (has_home t o.loc d.loc) rule) in
          let y = in_place_of i (store t (class_beside s o o.loc) (plain_use o.loc o.index) (in_own_slot s d.index)) in
          let known' : effect_of t y ≡ Some effects.Spill = ap (λ q. effect_of t (store t q (plain_use o.loc o.index) (in_own_slot s d.index))) k.is ∙ store-effect t k.class k.lies.known (plain_use o.loc o.index) (in_own_slot s d.index) in
          let second : item_of t g c y ≡ Silent [] (store_writes s.slot (width s) t ks ss) = store-item s g c y (plain_use o.loc o.index) d.index refl wide-stored known' ∙ ap (λ ls. Silent [] (store_writes s.slot (width s) t ks (map FromLane ls))) (lanes t f g z.keeps o.loc o.index class-o) in
          as-one y (Silent [] (moved false (lanes_by s.range ks) ss)) (Silent [] (store_writes s.slot (width s) t ks ss)) (ap (passes is_phi) known') in-item second
          (storing-replaces s i.id false ks ss ss p long long (subst (λ x. IsSite s i.id x p) in-item at.site) are-others (λ k l e h. h))

    -- copies of the range
    module _ (own : is_own s o ≡ true) where
      abbrev os : List ℕ
      os = own_lanes s o.index

      abbrev ls : List Lane
      ls = located_lanes t f d.loc d.index

      abbrev copies : Writes
      copies = moved false ls (map (from-own s) os)

      out-item : item_of t f b i ≡ Silent [] copies
      out-item = from-item s g z b c i p at d o known are own

      as-many : length ls ≡ length os
      as-many = lanes-count t f d.loc d.index ∙ (ap length (same-wide ∙ own-widths-are s o own) ∙ length-map os (width s))

      own-class : OwnMove s o.index
      own-class = own-move s z.classes o.loc o.index own class-o (index-there t f i at.shaped o (named o (later first)))

      -- what it reads is in the slot, where nothing is repeated for it
      read-stored : repeated_for s (copy_reading s i d o) ≡ None → (j : ℕ) (a : Lane) → Member j os → Writing (Silent [] copies) a → filled copies a ≡ Moved (from-own s j) → KeptAfter (is_reserved t) (code_before s) (Silent [] copies) p a → IsStored s j (Silent [] copies ∷ p)
      read-stored plain j a m w h k =
          reading-stored s z.facts i (Silent [] copies) p (at.site.from ∙ ap (λ x. x ∷ p) out-item) j (by a w h k) (copy_reading s i d o) first m (known-reading s g z b c i p at d o known are own) plain
        where
          by : (a : Lane) → Writing (Silent [] copies) a → filled copies a ≡ Moved (from-own s j) → KeptAfter (is_reserved t) (code_before s) (Silent [] copies) p a → Reads (is_reserved t) (code_before s) (VirtualLane s.range j) (Silent [] copies) p
          by a w h k = inr (a, inl w, inl h, k)

      module _ (other : is_own s d ≡ false) where
        others : (a : Lane) → Member a ls → IsBeside s a
        others a m = other-beside s d.loc d.index other has-class-d a m

        wrote-fine : (a : Lane) → Member a ls → (j : ℕ) → filled copies a ≡ Moved (from-own s j) → Writing (Silent [] copies) a
        wrote-fine a m j h = go (wrote-or-not copies a)
          where
            inner : (p q : Lane) → Moved (FromLane p) ≡ Moved (FromLane q) → p ≡ q
            inner p q e = cc

            go : Writing (Silent [] copies) a ⊎ (Writing (Silent [] copies) a → ⊥) → Writing (Silent [] copies) a
            go (inl w) = w
            go (inr n) = absurd (not-fine s a j (inner a (VirtualLane s.range j) (sym (unwritten copies a n) ∙ h)) (beside-fine s a (others a m)))

        -- by a reload
        pub copied-out-kept : repeated_for s (copy_reading s i d o) ≡ None → KeptAs (in_place_of i (reload t (class_beside s d d.loc) (plain_definition d.loc d.index) (in_own_slot s o.index)) ∷ [])
        copied-out-kept plain =
            let k = beside s g z.keeps z.classes d d.loc has-class-d (index-there t f i at.shaped d (named d first)) o.loc (ap is_virtual (own-at s.range o.loc own)) (second_of_both (same_widths t f d o) (has_home t d.loc o.loc) (first_of_both (same_widths t f d o && has_home t d.loc o.loc) (has_home t o.loc d.loc) rule)) in
            let y = in_place_of i (reload t (class_beside s d d.loc) (plain_definition d.loc d.index) (in_own_slot s o.index)) in
            let known' : effect_of t y ≡ Some effects.Reload = ap (λ q. effect_of t (reload t q (plain_definition d.loc d.index) (in_own_slot s o.index))) k.is ∙ reload-effect t k.class k.lies.known (plain_definition d.loc d.index) (in_own_slot s o.index) in
            let wide-loaded : operand_widths t g (plain_definition d.loc d.index) ≡ map (width s) os = widths t f g z.keeps d.loc d.index has-class-d ∙ (same-wide ∙ own-widths-are s o own) in
            let soon = is_early_clobber (roles_of t y) in
            let second : item_of t g c y ≡ Silent [] (moved soon ls (map (home s) os)) = reload-item s g c y (plain_definition d.loc d.index) o.index refl wide-loaded known' refl ∙ ap (λ l. Silent [] (moved soon l (map (home s) os))) (lanes t f g z.keeps d.loc d.index has-class-d) in
            as-one y (Silent [] copies) (Silent [] (moved soon ls (map (home s) os))) (ap (passes is_phi) known') out-item second
            (reloading-replaces s soon ls os (home s) p (let e = as-many in omega (arith, e)) others (λ a m. unslotted s f d.loc d.index a m)
            (λ a l j ma m e h. (sym (source-lane (slot_lane s j) l e), own-wide s o.index own-class j m, λ k. read-stored plain j a m (wrote-fine a ma j h) h k))
            (early-or soon y known' refl))
          where
            early-or : (x : Bool) (w : Instr) → effect_of t w ≡ Some effects.Reload → is_early_clobber (roles_of t w) ≡ x → (is_early_clobber (roles_of t w) ≡ false) ⊎ ((j : ℕ) (l : Lane) → Member j os → home s j ≡ FromLane l → HasEarlyReload t)
            early-or true w k e = inr (λ j l m h. (w, k, e))
            early-or false w k e = inl e

        -- the constant that is repeated for a lane
        abbrev constant-for : (x : Instr) → repeated_for s (copy_reading s i d o) ≡ Some x → ℕ → Source
        constant-for x some j = source_at (own_lanes s None) (gives s g z (copy_reading s i d o) x some) j

        -- by a constant that is repeated
        pub copied-constant-kept : (x : Instr) → repeated_for s (copy_reading s i d o) ≡ Some x → (n : ℕ) → passes is_phi (effect_of t x) ≡ false → KeptAs (record (repeated x (plain_definition d.loc d.index)) { id = n } ∷ [])
        copied-constant-kept x some n phi' =
            as-one (record (repeated x (plain_definition d.loc d.index)) { id = n }) (Silent [] copies) (Silent [] (moved (is_early_clobber (roles_of t x)) ls (map (constant-for x some) os))) phi' out-item second
            (reloading-replaces s (is_early_clobber (roles_of t x)) ls os (constant-for x some) p (let e = as-many in omega (arith, e)) others (λ a m. unslotted s f d.loc d.index a m)
            (λ a l j ma m e h. absurd (never j l m e)) (inr (λ j l m e. absurd (never j l m e))))
          where
            index : o.index ≡ None
            index = wholly s g z (copy_reading s i d o) x some o.index (copy_wish d.loc) refl

            never : (j : ℕ) (l : Lane) → Member j os → constant-for x some j ≡ FromLane l → ⊥
            never j l m e =
                let k = gives-long s g z (copy_reading s i d o) x some in
                subst IsConstant e (gives-constant s g z (copy_reading s i d o) x some (constant-for x some j) (source-among (own_lanes s None) (gives s g z (copy_reading s i d o) x some) j (omega (arith, k)) (one-of (own_lanes s None) j (subst (λ y. Member j (own_lanes s y)) index m))))

            wide-all : located_widths t g d.loc d.index ≡ map (width s) (own_lanes s None)
            wide-all = widths t f g z.keeps d.loc d.index has-class-d ∙ (same-wide ∙ (own-widths-are s o own ∙ ap (λ y. map (width s) (own_lanes s y)) index))

            second : item_of t g c (record (repeated x (plain_definition d.loc d.index)) { id = n }) ≡ Silent [] (moved (is_early_clobber (roles_of t x)) ls (map (constant-for x some) os))
            second =
                same-id t g c n (repeated x (plain_definition d.loc d.index))
                ∙ (repeating-item s g z (copy_reading s i d o) x some c d.loc d.index wide-all
                ∙ ((λ j. Silent [] (moved (is_early_clobber (roles_of t x)) (lanes t f g z.keeps d.loc d.index has-class-d j) (map (constant-for x some) (own_lanes s (sym index j)))))))
