-- Silent instructions that move lanes.
use Rattle.std.proofs.Common.{◌≡◌, ◌⊎◌, ◌≤◌, ℕ, suc, Bool, true, false, cond, ◌&&◌, ◌||◌, List, [], ◌∷◌, ◌++◌, Option, Some, None, map, length, refl, sym, ap, ◌∙◌, subst, inl, inr, append-nil, eqb-true, arith}
use Rattle.std.specs.Prelude.{nat_eq}
use Rattle.std.specs.List.{list_any}
use Rattle.target_base.specs.declared.types.IndexId.{IndexId}
use Rattle.target_base.specs.declared.types.UnitDesc.{UnitDesc}
use Rattle.target_base.specs.declared.types.Target.{Target}
use Rattle.target_base.specs.Registers.{units_of, lanes_of}
use Rattle.meaning.specs.declared.types.Lane.{Lane}
use Rattle.meaning.specs.declared.types.Lane.TheVariants.{VirtualLane, UnitLane, SlotLane}
use Rattle.meaning.specs.declared.types.Source.{Source}
use Rattle.meaning.specs.declared.types.Source.TheVariants.{FromLane, Undef}
use Rattle.meaning.specs.declared.types.Fill.TheVariants.{Moved}
use Rattle.meaning.specs.declared.types.Write.{Write}
use Rattle.meaning.specs.Lanes.{Writes}
use Rattle.meaning.specs.Code.{Item}
use Rattle.meaning.specs.Live.{Among as Member, here as first, there as later, is_slot}
use Rattle.mir_func.specs.declared.func.Loc.{Loc}
use Rattle.mir_func.specs.declared.func.Loc.TheVariants.{Virtual, Fixed}
use Rattle.mir_func.specs.declared.func.RegOp.{RegOp}
use Rattle.mir_func.specs.declared.func.Operand.{Operand}
use Rattle.mir_func.specs.declared.func.Operand.TheVariants as operands
use Rattle.mir_func.specs.Value.{Function}
use Rattle.mir_func.specs.Binding.{registers}
use Rattle.mir_meaning.specs.Registers.{numbers, operand_lanes, operand_widths, located_lanes, whole_lanes, undefined_lanes, use_sources, range_widths, is_reserved, slot_lanes, slot_lane_numbers, has_number}
use Rattle.mir_meaning.specs.Items.{write, moved, undefined, lanes_beside, widths_once, at_all_widths}
use Rattle.mir_meaning.specs.Stands.{Tags}
use Rattle.instr_effects.specs.declared.owner.Owner.TheVariants as owners
use Rattle.instr_effects.specs.Owners.{owner_of, owners_read}
use Rattle.instr_effects.proofs.Members.{member-none, member-elim, left-in, right-in, in-either, flat-of, flat-in, map-of, map-in}
use Rattle.instr_effects.proofs.Writes.{located-long}
use Rattle.live_laws.specs.Effects.Shaped.{is_proper}
use Rattle.live_laws.proofs.Effects.Blocks.{number-there}
use Rattle.live_laws.proofs.Effects.Moving.{owners-same}
use Rattle.live_laws.proofs.Effects.Moved.{Apart, IsGiven, moved-of, undefined-lane}
use Rattle.live_laws.proofs.Effects.Lists.{use-apart, located-apart, lanes-apart, numbers-apart, lanes-read-apart, slots-apart}

pub map-long : {X Y : Type 0} (g : X → Y) (xs : List X) → length (map g xs) ≡ length xs
map-long g [] = refl
map-long g (x ∷ xs) = ap (λ k. suc k) (map-long g xs)

module _ (t : Target) (f : Function) where
  pub located-still : (x : Loc) (q : Option IndexId) (l : Lane) → Member l (located_lanes t f x q) → is_slot l ≡ false
  located-still (Virtual v) None l m = let z = map-of (VirtualLane v) l (numbers 0 (length (range_widths t f v))) m in ap is_slot z.2
  located-still (Virtual v) (Some x) l m = let z = map-of (VirtualLane v) l (lanes_of t x) m in ap is_slot z.2
  located-still (Fixed r) q l m = let z = map-of (λ u. UnitLane u.0) l (units_of t r) m in ap is_slot z.2

  pub others-still : (o : RegOp) (l : Lane) → Member l (undefined_lanes t f o) → is_slot l ≡ false
  others-still o l m = go (o.def && o.undef) o.loc m
    where
      whole : (x : Loc) → Member l (whole_lanes t f x) → is_slot l ≡ false
      whole (Virtual v) k = located-still (Virtual v) None l k
      whole (Fixed r) k = absurd (member-none l k)

      go : (b : Bool) (x : Loc) → Member l (cond b (whole_lanes t f x) []) → is_slot l ≡ false
      go true x k = whole x k
      go false x k = absurd (member-none l k)

  pub use-lane : (o : RegOp) (l : Lane) → Member (FromLane l) (use_sources t f o) → Member l (operand_lanes t f o)
  use-lane o l m = go o.undef (operand_lanes t f o) m
    where
      from-same : (a c : Lane) → FromLane a ≡ FromLane c → a ≡ c
      from-same a c e = cc

      go : (b : Bool) (ls : List Lane) → Member (FromLane l) (map (cond b (λ k. Undef) FromLane) ls) → Member l ls
      go true ls k = let z = map-of (λ k. Undef) (FromLane l) ls k in absurd (let e = z.2 in cc)
      go false ls k = let z = map-of FromLane (FromLane l) ls k in subst (λ x. Member x ls) (sym (from-same l z.0 z.2)) z.1

  pub uses-long : (o : RegOp) → length (operand_widths t f o) ≡ length (use_sources t f o)
  uses-long o = located-long t f o.loc o.index ∙ sym (map-long (cond o.undef (λ l. Undef) FromLane) (operand_lanes t f o))

-- lanes that are no slots' have owners of their own
pub one-lane : (l a : Lane) → owner_of l ≡ owner_of a → is_slot l ≡ false → l ≡ a
one-lane l a e n = go (owners-same l a e)
  where
    go : (l ≡ a) ⊎ ((s : ℕ) × (k : ℕ) × (w : ℕ) × (x : ℕ) × (l ≡ SlotLane s k w) × (a ≡ SlotLane s k x)) → l ≡ a
    go (inl g) = g
    go (inr z) = absurd (let g = ap is_slot z.4 in cc)

-- all lanes of these registers have numbers
abbrev pub Named : Target → Function → Tags → List Operand → Type 0
Named t f tag os = (o : RegOp) (l : Lane) → Member o (registers os) → Member l (operand_lanes t f o) ⊎ Member l (undefined_lanes t f o) → is_reserved t l ≡ false → (n : ℕ) × (tag l ≡ Some n)

module _ (t : Target) (f : Function) (tag : Tags) where
  -- a write of a definition that is given sources is of one of its lanes
  defined-lane : (early : Bool) (d : RegOp) (ss : List Source) (w : Write) → Member w (moved early (operand_lanes t f d) ss ++ undefined early (undefined_lanes t f d)) → Member w.lane (operand_lanes t f d) ⊎ Member w.lane (undefined_lanes t f d)
  defined-lane early d ss w m = go (in-either w (moved early (operand_lanes t f d) ss) (undefined early (undefined_lanes t f d)) m)
    where
      go : Member w (moved early (operand_lanes t f d) ss) ⊎ Member w (undefined early (undefined_lanes t f d)) → Member w.lane (operand_lanes t f d) ⊎ Member w.lane (undefined_lanes t f d)
      go (inl k) = inl (moved-of early w (operand_lanes t f d) ss k).1
      go (inr k) = inr (undefined-lane early w (undefined_lanes t f d) k)

  lane-still : (d : RegOp) (l : Lane) → Member l (operand_lanes t f d) ⊎ Member l (undefined_lanes t f d) → is_slot l ≡ false
  lane-still d l (inl m) = located-still t f d.loc d.index l m
  lane-still d l (inr m) = others-still t f d l m

  -- a definition that is given the lanes of sources which are apart
  pub defined-given : (i : Item) (early : Bool) (d : RegOp) (ss : List Source) → Apart (owners_read ss) → ((l : Lane) → Member (FromLane l) ss → is_reserved t l ≡ false → (n : ℕ) × (tag l ≡ Some n)) → ((l : Lane) → Member l (operand_lanes t f d) ⊎ Member l (undefined_lanes t f d) → is_reserved t l ≡ false → (n : ℕ) × (tag l ≡ Some n))
      → IsGiven (is_reserved t) tag i early (operand_lanes t f d) ss (undefined_lanes t f d) (undefined_lanes t f d)
  defined-given i early d ss once sources names = record {
    apart = located-apart t f d.loc d.index;
    once = once;
    closed = λ a n e w m g. (w, m, one-lane w.lane a g (lane-still d w.lane (defined-lane early d ss w m)));
    covered = λ v m. (v, m, refl);
    sources = sources;
    written = λ w m r. names w.lane (defined-lane early d ss w m) r;
    unslotted = λ l a m k s. absurd (let h = located-still t f d.loc d.index a k in cc);
  }

  -- COPY
  pub copy-given : (i : Item) (d s : RegOp) (os : List Operand) → Named t f tag (operands.Reg d ∷ operands.Reg s ∷ os) → IsGiven (is_reserved t) tag i false (operand_lanes t f d) (use_sources t f s) (undefined_lanes t f d) (undefined_lanes t f d)
  copy-given i d s os names = defined-given i false d (use_sources t f s) (use-apart t f s) (λ l m r. names s l (later first) (inl (use-lane t f s l m)) r) (λ l m r. names d l first m r)

  -- the numbers of a slot's lanes are apart
  pub slot-numbers-apart : (ws : List ℕ) (k : Operand) → Apart (slot_lane_numbers t ws k)
  slot-numbers-apart ws (operands.Index x) = lanes-apart t x
  slot-numbers-apart ws (operands.Reg x) = numbers-apart 0 (length ws)
  slot-numbers-apart ws (operands.Imm x) = numbers-apart 0 (length ws)
  slot-numbers-apart ws (operands.Block x) = numbers-apart 0 (length ws)
  slot-numbers-apart ws (operands.Stack x) = numbers-apart 0 (length ws)
  slot-numbers-apart ws (operands.FixedStack x) = numbers-apart 0 (length ws)
  slot-numbers-apart ws (operands.Symbol x) = numbers-apart 0 (length ws)
  slot-numbers-apart ws (operands.Mask x) = numbers-apart 0 (length ws)

  pub beside-apart : (o : RegOp) (s : ℕ) (k : Operand) → Apart (map owner_of (lanes_beside t f o s k))
  beside-apart o s k = slots-apart s (slot_lane_numbers t (operand_widths t f o) k) (operand_widths t f o) (slot-numbers-apart (operand_widths t f o) k)

  -- RELOAD
  pub reload-given : (i : Item) (early : Bool) (o : RegOp) (s : ℕ) (k : Operand) (os : List Operand) → Named t f tag (operands.Reg o ∷ os) → ((l : Lane) → Member l (lanes_beside t f o s k) → (n : ℕ) × (tag l ≡ Some n))
      → IsGiven (is_reserved t) tag i early (operand_lanes t f o) (map FromLane (lanes_beside t f o s k)) (undefined_lanes t f o) (undefined_lanes t f o)
  reload-given i early o s k os names slots =
      defined-given i early o (map FromLane (lanes_beside t f o s k)) (lanes-read-apart t f (lanes_beside t f o s k) (beside-apart o s k)) (λ l m r. slots l (of l m)) (λ l m r. names o l first m r)
    where
      from-same : (a c : Lane) → FromLane a ≡ FromLane c → a ≡ c
      from-same a c e = cc

      of : (l : Lane) → Member (FromLane l) (map FromLane (lanes_beside t f o s k)) → Member l (lanes_beside t f o s k)
      of l m = let z = map-of FromLane (FromLane l) (lanes_beside t f o s k) m in subst (λ x. Member x (lanes_beside t f o s k)) (sym (from-same l z.0 z.2)) z.1

-- stores

slot-lane-of : (s : ℕ) (ks ws : List ℕ) (l : Lane) → Member l (slot_lanes s ks ws) → (k : ℕ) × (w : ℕ) × Member k ks × (l ≡ SlotLane s k w)
slot-lane-of s [] ws l m = absurd (member-none l m)
slot-lane-of s (j ∷ ks) [] l m = absurd (member-none l m)
slot-lane-of s (j ∷ ks) (w ∷ ws) l m = member-elim l (SlotLane s j w) (slot_lanes s ks ws) (λ e. (j, w, first, e)) (λ k. let z = slot-lane-of s ks ws l k in (z.0, z.1, later z.2, z.3)) m

-- each lane of the slot is stored
stored-in : (s k : ℕ) (ks ws : List ℕ) (ss : List Source) → length ks ≤ length ws → length ws ≡ length ss → Member k ks → (w : Write) × Member w (moved false (slot_lanes s ks ws) ss) × (owner_of w.lane ≡ owners.Slot s k)
stored-in s k [] ws ss h g m = absurd (member-none k m)
stored-in s k (j ∷ ks) [] ss h g m = absurd (omega arith)
stored-in s k (j ∷ ks) (w ∷ ws) [] h g m = absurd (omega arith)
stored-in s k (j ∷ ks) (w ∷ ws) (x ∷ ss) h g m =
    member-elim k j ks (λ e. (write false (SlotLane s j w) (Moved x), first, ap (owners.Slot s) (sym e))) (λ n. let z = stored-in s k ks ws ss (omega arith) (omega arith) n in (z.0, later z.1, z.2)) m

-- what is known stays
known-kept : (y : ℕ) (known : List ℕ) (ds : List UnitDesc) → Member y known → Member y (widths_once known ds)
known-kept y known [] m = m
known-kept y known (d ∷ ds) m = known-kept y (cond (has_number known d.width) known (known ++ (d.width ∷ []))) ds (kept (has_number known d.width))
  where
    kept : (b : Bool) → Member y (cond b known (known ++ (d.width ∷ [])))
    kept true = m
    kept false = left-in y known (d.width ∷ []) m

-- the width of a unit is among those of all units
width-once : (y : ℕ) (known : List ℕ) (ds : List UnitDesc) → list_any (λ d. nat_eq d.width y) ds ≡ true → Member y (widths_once known ds)
width-once y known [] e = absurd (cc)
width-once y known (d ∷ ds) e = go (nat_eq d.width y) refl e (width-once y (cond (has_number known d.width) known (known ++ (d.width ∷ []))) ds)
  where
    listed : d.width ≡ y → (b : Bool) → has_number known d.width ≡ b → Member y (cond b known (known ++ (d.width ∷ [])))
    listed g true f = subst (λ z. Member z known) g (number-there d.width known f)
    listed g false f = subst (λ z. Member z (known ++ (d.width ∷ []))) g (right-in d.width known (d.width ∷ []) first)

    go : (b : Bool) → nat_eq d.width y ≡ b → (b || list_any (λ x. nat_eq x.width y) ds) ≡ true → (list_any (λ x. nat_eq x.width y) ds ≡ true → Member y (widths_once known (d ∷ ds))) → Member y (widths_once known (d ∷ ds))
    go true f g ih = known-kept y (cond (has_number known d.width) known (known ++ (d.width ∷ []))) ds (listed (eqb-true d.width y f) (has_number known d.width) refl)
    go false f g ih = ih g

module _ (t : Target) (f : Function) (tag : Tags) (proper : (l : Lane) (n : ℕ) → tag l ≡ Some n → is_proper t l ≡ true) (i : Item) (o : RegOp) (s : ℕ) (k : Operand) (os : List Operand) (names : Named t f tag (operands.Reg o ∷ os)) (slots : (l : Lane) → Member l (lanes_beside t f o s k) → (n : ℕ) × (tag l ≡ Some n)) (few : length (slot_lane_numbers t (operand_widths t f o) k) ≤ length (operand_widths t f o)) where
  abbrev ks : List ℕ
  ks = slot_lane_numbers t (operand_widths t f o) k

  abbrev M : Writes
  M = moved false (lanes_beside t f o s k) (use_sources t f o)

  -- SPILL
  pub spill-given : IsGiven (is_reserved t) tag i false (lanes_beside t f o s k) (use_sources t f o) (at_all_widths t s ks) []
  spill-given = record {
    apart = beside-apart t f tag o s k;
    once = use-apart t f o;
    closed = λ a n e w m g. closed a n e w (moved-only w m) g;
    covered = λ v m. covered v (in-either v M (undefined false (at_all_widths t s ks)) m);
    sources = λ l m r. names o l first (inl (use-lane t f o l m)) r;
    written = λ w m r. slots w.lane (lane w (moved-only w m));
    unslotted = λ l a m j e. located-still t f o.loc o.index l (use-lane t f o l m);
  }
    where
      moved-only : (w : Write) → Member w (M ++ []) → Member w M
      moved-only w m = subst (Member w) (append-nil M) m

      lane : (w : Write) → Member w M → Member w.lane (lanes_beside t f o s k)
      lane w m = (moved-of false w (lanes_beside t f o s k) (use_sources t f o) m).1

      written : (j y : ℕ) → Member j ks → list_any (λ d. nat_eq d.width y) t.units ≡ true → (v : Write) × Member v (M ++ undefined false (at_all_widths t s ks)) × (v.lane ≡ SlotLane s j y)
      written j y m e =
          let h = map-in (λ x. SlotLane s j x) y (widths_once [] t.units) (width-once y [] t.units e) in
          let g = flat-in (λ q. map (λ x. SlotLane s q x) (widths_once [] t.units)) (SlotLane s j y) j ks m h in
          (write false (SlotLane s j y) (Moved Undef), right-in (write false (SlotLane s j y) (Moved Undef)) M (undefined false (at_all_widths t s ks)) (map-in (λ l. write false l (Moved Undef)) (SlotLane s j y) (at_all_widths t s ks) g), refl)

      closed : (a : Lane) (n : ℕ) → tag a ≡ Some n → (w : Write) → Member w M → owner_of w.lane ≡ owner_of a → (v : Write) × Member v (M ++ undefined false (at_all_widths t s ks)) × (v.lane ≡ a)
      closed a n e w m g =
          let z = slot-lane-of s ks (operand_widths t f o) w.lane (lane w m) in
          at (owners-same w.lane a g) z.0 z.1 z.2 z.3
        where
          at : (w.lane ≡ a) ⊎ ((r : ℕ) × (q : ℕ) × (x : ℕ) × (y : ℕ) × (w.lane ≡ SlotLane r q x) × (a ≡ SlotLane r q y)) → (j x : ℕ) → Member j ks → w.lane ≡ SlotLane s j x → (v : Write) × Member v (M ++ undefined false (at_all_widths t s ks)) × (v.lane ≡ a)
          at (inl h) j x p q = (w, left-in w M (undefined false (at_all_widths t s ks)) m, h)
          at (inr h) j x p q =
              let one : SlotLane h.0 h.1 h.2 ≡ SlotLane s j x = sym h.4 ∙ q in
              let r : h.0 ≡ s = cc in
              let c : h.1 ≡ j = cc in
              let same : a ≡ SlotLane s j h.3 = h.5 ∙ ap (λ b. SlotLane b h.1 h.3) r ∙ ap (λ b. SlotLane s b h.3) c in
              let v = written j h.3 p (ap (is_proper t) (sym same) ∙ proper a n e) in
              (v.0, v.1, v.2 ∙ sym same)

      store : (j : ℕ) → Member j ks → (l : Lane) → owner_of l ≡ owners.Slot s j → (w : Write) × Member w (M ++ []) × (owner_of w.lane ≡ owner_of l)
      store j m l e =
          let z = stored-in s j ks (operand_widths t f o) (use_sources t f o) few (uses-long t f o) m in
          (z.0, left-in z.0 M [] z.1, z.2 ∙ sym e)

      covered : (v : Write) → Member v M ⊎ Member v (undefined false (at_all_widths t s ks)) → (w : Write) × Member w (M ++ []) × (owner_of w.lane ≡ owner_of v.lane)
      covered v (inl m) = (v, left-in v M [] m, refl)
      covered v (inr m) =
          let h = undefined-lane false v (at_all_widths t s ks) m in
          let z = flat-of (λ q. map (λ x. SlotLane s q x) (widths_once [] t.units)) v.lane ks h in
          let y = map-of (λ x. SlotLane s z.0 x) v.lane (widths_once [] t.units) z.2 in
          store z.0 z.1 v.lane (ap owner_of y.2)
