-- Stores and reloads of a range's slot as items, and the lanes of operands that are the range.
use Rattle.std.proofs.Common.{◌≡◌, ◌∷◌, ◌++◌, ◌∙◌, ◌&&◌, ℕ, suc, zero, Bool, true, false, cond, List, Option, Some, None, length, map, refl, sym, ap, subst, append-nil, arith, eqb-true, eq-eqb, []}
use Rattle.std.proofs.lemmas.List.{length-map}
use Rattle.std.specs.Prelude.{is_some, nat_eq, nat_lt, option_and_then, option_map, slice_get, slice_index}
use Rattle.target_base.specs.declared.types.ClassId.{ClassId}
use Rattle.target_base.specs.declared.types.Effect.{Effect}
use Rattle.target_base.specs.declared.types.Effect.TheVariants as effects
use Rattle.target_base.specs.declared.types.IndexId.{IndexId}
use Rattle.target_base.specs.declared.types.OpcodeDesc.{OpcodeDesc}
use Rattle.target_base.specs.declared.types.Target.{Target}
use Rattle.target_base.specs.declared.types.Unit.{Unit as UnitNumber}
use Rattle.target_base.specs.Registers.{IsClass, class_of_widths, fits, lanes_of, move_class, reload_place, spill_place, units_of, widths_of, widths_of_some}
use Rattle.target_base.specs.Storage.{same_numbers}
use Rattle.target_base.proofs.Tests.{first_of_both, second_of_both}
use Rattle.meaning.specs.Code.{Item, Silent}
use Rattle.meaning.specs.Live.{Among as Member, is_slot}
use Rattle.meaning.specs.declared.types.Lane.{Lane}
use Rattle.meaning.specs.declared.types.Lane.TheVariants.{UnitLane, VirtualLane}
use Rattle.meaning.specs.declared.types.Source.TheVariants.{FromLane}
use Rattle.mir_func.specs.declared.func.Loc.{Loc}
use Rattle.mir_func.specs.declared.func.Loc.TheVariants.{Fixed, Virtual}
use Rattle.mir_func.specs.declared.func.RegOp.{RegOp}
use Rattle.mir_func.specs.declared.func.Operand.{Operand}
use Rattle.mir_func.specs.declared.func.Operand.TheVariants as operands
use Rattle.mir_func.specs.declared.func.Instr.{Instr}
use Rattle.mir_func.specs.declared.func.Block.{Block}
use Rattle.mir_func.specs.Value.{Function}
use Rattle.mir_func.specs.Edits.{made}
use Rattle.mir_func.specs.Binding.{class_of, effect_of, is_early_clobber, roles_of, same_loc}
use Rattle.mir_meaning.specs.Codes.{effect_item, item_of}
use Rattle.mir_meaning.specs.Items.{at_all_widths, moved, reloaded, spilled as store_given, undefined}
use Rattle.mir_meaning.specs.Points.{is_range}
use Rattle.mir_meaning.specs.Registers.{located_lanes, located_widths, numbers, operand_widths, range_widths, slot_lane_numbers, slot_lanes, undefined_lanes, use_sources, whole_lanes}
use Rattle.mir_meaning.specs.Rules.{has_class, index_fits}
use Rattle.live_laws.specs.Effects.Shaped.{AreClasses}
use Rattle.lowering_laws.proofs.Widths.{class-of-widths, lying-widths, through_index}
use Rattle.instr_effects.proofs.Members.{map-of}
use Rattle.lowering_laws.proofs.Olds.{class-old, is_old}
use Rattle.lowering_laws.proofs.Silently.{lanes-apart}
use Rattle.lowering_laws.proofs.Traced.{is_lane_of, lanes_by}
use Rattle.spiller.specs.Setting.{Spilling, in_own_slot, is_own, lanes_named, moving_class, opcode, own_lanes, reload, store}
use Rattle.spill_laws.specs.Standing.{IsBeside}
use Rattle.spill_laws.proofs.Classes.{move-of, part-class}
use Rattle.spill_laws.proofs.Opcodes.{load-moves, store-moves}
use Rattle.spill_laws.proofs.SlotPlaces.{home, width}
use Rattle.spill_laws.proofs.SlotWrites.{slot_by, store_writes}

pub same-list : (ms ns : List ℕ) → same_numbers ms ns ≡ true → ms ≡ ns
same-list [] [] e = refl
same-list [] (n ∷ ns) e = absurd (cc)
same-list (m ∷ ms) [] e = absurd (cc)
same-list (m ∷ ms) (n ∷ ns) e = λ k. eqb-true m n (first_of_both (nat_eq m n) (same_numbers ms ns) e) k ∷ same-list ms ns (second_of_both (nat_eq m n) (same_numbers ms ns) e) k

-- all numbers of a list by their places

shifted : (xs : List ℕ) (x a n : ℕ) → map (slice_index (x ∷ xs)) (numbers (suc a) n) ≡ map (slice_index xs) (numbers a n)
shifted xs x a zero = refl
shifted xs x a (suc n) = ap (λ ys. slice_index xs a ∷ ys) (shifted xs x (suc a) n)

pub indexed : (xs : List ℕ) → map (slice_index xs) (numbers 0 (length xs)) ≡ xs
indexed [] = refl
indexed (x ∷ xs) = ap (λ ys. x ∷ ys) (shifted xs x 0 (length xs) ∙ indexed xs)

pub numbers-long : (a n : ℕ) → length (numbers a n) ≡ n
numbers-long a zero = refl
numbers-long a (suc n) = let h = numbers-long (suc a) n in omega (arith, h)

pub own-at : (v : ℕ) (l : Loc) → is_range v l ≡ true → l ≡ Virtual v
own-at v (Virtual w) e = ap Virtual (sym (eqb-true v w e))
own-at v (Fixed r) e = absurd (cc)

pub item-known : (t : Target) (f : Function) (b : Block) (i : Instr) (e : Effect) → effect_of t i ≡ Some e → item_of t f b i ≡ effect_item t f b i e
unfolding item_of
item-known t f b i e known = ap (λ q. elim q as (λ q. Item) [ None ↦ Silent [] [] | Some e ↦ effect_item t f b i e ]) known

module _ (t : Target) where
  effect-there : (place : Option ℕ) (n : ℕ) (d : OpcodeDesc) (e : Effect) (os : List Operand) → place ≡ Some n → slice_get t.opcodes n ≡ Some d → d.effect ≡ e → effect_of t (made 0 (opcode place) os) ≡ Some e
  effect-there place n d e os is there effect =
      ap (λ q. effect_of t (made 0 (opcode q) os)) is ∙ (ap (λ q. option_map (λ (d : OpcodeDesc). d.effect) q) there ∙ ap Some effect)

  pub store-effect : (k : ClassId) → IsClass t k → (o : RegOp) (slot : List Operand) → effect_of t (store t (Some k) o slot) ≡ Some effects.Spill
  store-effect k h o slot = let z = store-moves t k h in effect-there (spill_place t k) z.0 z.2.desc effects.Spill (operands.Reg o ∷ slot) z.1 z.2.there z.2.effect

  pub reload-effect : (k : ClassId) → IsClass t k → (o : RegOp) (slot : List Operand) → effect_of t (reload t (Some k) o slot) ≡ Some effects.Reload
  reload-effect k h o slot = let z = load-moves t k h in effect-there (reload_place t k) z.0 z.2.desc effects.Reload (operands.Reg o ∷ slot) z.1 z.2.there z.2.effect

-- lanes of registers are no slot's
pub lane-slotless : (t : Target) (g : Function) (l : Loc) (x : Option IndexId) (a : Lane) → Member a (located_lanes t g l x) → is_slot a ≡ false
lane-slotless t g (Virtual w) None a m = let z = map-of (VirtualLane w) a (numbers 0 (length (range_widths t g w))) m in ap is_slot z.2
lane-slotless t g (Virtual w) (Some y) a m = let z = map-of (VirtualLane w) a (lanes_of t y) m in ap is_slot z.2
lane-slotless t g (Fixed r) x a m = let z = map-of (λ (u : UnitNumber). UnitLane u.0) a (units_of t r) m in ap is_slot z.2

module _ (s : Spilling) where
  abbrev t : Target
  t = s.target

  abbrev f : Function
  f = s.func

  pub own-lanes-are : (o : RegOp) → is_own s o ≡ true → located_lanes t f o.loc o.index ≡ lanes_by s.range (own_lanes s o.index)
  own-lanes-are o e = ap (λ l. located_lanes t f l o.index) (own-at s.range o.loc e) ∙ go o.index
    where
      go : (x : Option IndexId) → located_lanes t f (Virtual s.range) x ≡ lanes_by s.range (own_lanes s x)
      go None = refl
      go (Some x) = refl

  pub own-widths-are : (o : RegOp) → is_own s o ≡ true → located_widths t f o.loc o.index ≡ map (width s) (own_lanes s o.index)
  own-widths-are o e = ap (λ l. located_widths t f l o.index) (own-at s.range o.loc e) ∙ go o.index
    where
      go : (x : Option IndexId) → located_widths t f (Virtual s.range) x ≡ map (width s) (own_lanes s x)
      go None = sym (indexed (range_widths t f s.range))
      go (Some x) = refl

  -- the numbers of the slot's lanes are those of the range's
  pub slot-numbers : (x : Option IndexId) → slot_lane_numbers t (map (width s) (own_lanes s x)) (lanes_named x) ≡ own_lanes s x
  slot-numbers None = ap (numbers 0) (length-map (own_lanes s None) (width s) ∙ numbers-long 0 (length (range_widths t f s.range)))
  slot-numbers (Some x) = refl

  pub homes-are : (ks : List ℕ) → map FromLane (slot_by s.slot (width s) ks) ≡ map (home s) ks
  homes-are [] = refl
  homes-are (k ∷ ks) = ap (λ qs. home s k ∷ qs) (homes-are ks)

  module _ (g : Function) (c : Block) (y : Instr) (o : RegOp) (x : Option IndexId) (are : y.operands ≡ operands.Reg o ∷ in_own_slot s x) (wide : operand_widths t g o ≡ map (width s) (own_lanes s x)) where
    -- the lanes of the slot that it names
    named-lanes : slot_lane_numbers t (operand_widths t g o) (lanes_named x) ≡ own_lanes s x
    named-lanes = ap (λ ws. slot_lane_numbers t ws (lanes_named x)) wide ∙ slot-numbers x

    -- a store to the range's slot
    pub store-item : effect_of t y ≡ Some effects.Spill → item_of t g c y ≡ Silent [] (store_writes s.slot (width s) t (own_lanes s x) (use_sources t g o))
    store-item known =
        item-known t g c y effects.Spill known
        ∙ (ap (λ os. Silent [] (store_given t g os)) are
        ∙ (λ j. Silent [] (moved false (slot_lanes s.slot (named-lanes j) (wide j)) (use_sources t g o) ++ undefined false (at_all_widths t s.slot (named-lanes j)))))

    -- a reload from it
    pub reload-item : effect_of t y ≡ Some effects.Reload → o.undef ≡ false → item_of t g c y ≡ Silent [] (moved (is_early_clobber (roles_of t y)) (located_lanes t g o.loc o.index) (map (home s) (own_lanes s x)))
    reload-item known plain =
        item-known t g c y effects.Reload known
        ∙ (ap (λ os. Silent [] (reloaded t g (is_early_clobber (roles_of t y)) os)) are
        ∙ ((λ j. Silent [] (moved (is_early_clobber (roles_of t y)) (located_lanes t g o.loc o.index) (map FromLane (slot_lanes s.slot (named-lanes j) (wide j))) ++ undefined (is_early_clobber (roles_of t y)) (none-undefined o plain j)))
        ∙ ((λ j. Silent [] (append-nil (moved (is_early_clobber (roles_of t y)) (located_lanes t g o.loc o.index) (map FromLane (slot_by s.slot (width s) (own_lanes s x)))) j))
        ∙ ap (λ qs. Silent [] (moved (is_early_clobber (roles_of t y)) (located_lanes t g o.loc o.index) qs)) (homes-are (own_lanes s x)))))
      where
        and-false : (b : Bool) → (b && false) ≡ false
        and-false true = refl
        and-false false = refl

        none-undefined : (o : RegOp) → o.undef ≡ false → undefined_lanes t g o ≡ []
        none-undefined o e = ap (λ b. cond (o.def && b) (whole_lanes t g o.loc) []) e ∙ ap (λ b. cond b (whole_lanes t g o.loc) []) (and-false o.def)

  -- lanes of another register of the function are beside the range, and no slot's

  pub other-beside : (l : Loc) (x : Option IndexId) → is_range s.range l ≡ false → has_class f l ≡ true → (a : Lane) → Member a (located_lanes t f l x) → IsBeside s a
  other-beside l x e h a m = record { other = lanes-apart t f s.range l x (apart l e) a m; old = old l x h m }
    where
      apart : (l : Loc) → is_range s.range l ≡ false → same_loc l (Virtual s.range) ≡ false
      apart (Virtual w) e = go (nat_eq w s.range) refl
        where
          go : (b : Bool) → nat_eq w s.range ≡ b → nat_eq w s.range ≡ false
          go false g = g
          go true g = absurd (let q : nat_eq s.range w ≡ true = eq-eqb s.range w (sym (eqb-true w s.range g)) in cc)
      apart (Fixed r) e = refl

      ranged : (w : ℕ) (ks : List ℕ) → nat_lt w (length f.classes) ≡ true → Member a (map (VirtualLane w) ks) → is_old (length f.classes) a ≡ true
      ranged w ks h m = let z = map-of (VirtualLane w) a ks m in ap (is_old (length f.classes)) z.2 ∙ h

      old : (l : Loc) (x : Option IndexId) → has_class f l ≡ true → Member a (located_lanes t f l x) → is_old (length f.classes) a ≡ true
      old (Virtual w) None h m = ranged w (numbers 0 (length (range_widths t f w))) (class-old f w h) m
      old (Virtual w) (Some y) h m = ranged w (lanes_of t y) (class-old f w h) m
      old (Fixed r) x h m = let z = map-of (λ (u : UnitNumber). UnitLane u.0) a (units_of t r) m in ap (is_old (length f.classes)) z.2

  pub unslotted : (g : Function) (l : Loc) (x : Option IndexId) (a : Lane) → Member a (located_lanes t g l x) → is_slot a ≡ false
  unslotted g l x a m = lane-slotless t g l x a m

  -- a register's lanes are the range's where it is the range
  pub lane-range : (h : Function) (l : Loc) (x : Option IndexId) (a : Lane) → Member a (located_lanes t h l x) → is_lane_of s.range a ≡ is_range s.range l
  lane-range h (Virtual w) None a m = let z = map-of (VirtualLane w) a (numbers 0 (length (range_widths t h w))) m in ap (is_lane_of s.range) z.2
  lane-range h (Virtual w) (Some y) a m = let z = map-of (VirtualLane w) a (lanes_of t y) m in ap (is_lane_of s.range) z.2
  lane-range h (Fixed r) x a m = let z = map-of (λ (u : UnitNumber). UnitLane u.0) a (units_of t r) m in ap (is_lane_of s.range) z.2

  -- the class of a move of lanes of the range has their widths
  pub record OwnMove (x : Option IndexId) : Type 0 where
    pub class : ClassId
    pub is : moving_class s x ≡ Some class
    pub known : IsClass t class
    pub wide : widths_of t class ≡ map (width s) (own_lanes s x)

  pub own-move : AreClasses t f → (l : Loc) (x : Option IndexId) → is_range s.range l ≡ true → has_class f l ≡ true → index_fits t f l x ≡ true → OwnMove x
  own-move classes l x own h e = go (class_of f s.range) refl (subst (λ q. has_class f q ≡ true) (own-at s.range l own) h) (subst (λ q. index_fits t f q x ≡ true) (own-at s.range l own) e)
    where
      through : (b : ClassId) → class_of f s.range ≡ Some b → (x : Option IndexId) → through_index t b x ≡ map (width s) (own_lanes s x)
      through b d None = sym (ap (widths_of_some t) d) ∙ sym (indexed (range_widths t f s.range))
      through b d (Some y) = ap (λ q. map (slice_index (widths_of_some t q)) (lanes_of t y)) (sym d)

      go : (q : Option ClassId) → class_of f s.range ≡ q → is_some q ≡ true → elim q as (λ q. Bool) [ None ↦ true | Some k ↦ fits t k x ] ≡ true → OwnMove x
      go None d c f = absurd (cc)
      go (Some b) d c f =
          let m = move-of t b x (classes s.range b d) f in
          let n = part-class t b x (classes s.range b d) f in
          record {
            class = m.class;
            is = ap (option_and_then (λ k. move_class t k x)) d ∙ m.is;
            known = m.known;
            wide = (class-of-widths t (widths_of t n.class) m.class (ap (λ q. class_of_widths t (widths_of_some t q)) (sym n.is) ∙ m.is)).1 ∙ (sym (lying-widths t b n.class x (classes s.range b d) n.lies) ∙ through b d x);
          }
