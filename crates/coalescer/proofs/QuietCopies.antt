-- Which writings are copies from a lane with the same image is told by the sides of copies.
use Rattle.std.proofs.Common.{◌≡◌, ◌⊎◌, ◌∷◌, ◌++◌, ◌<◌, ◌+◌, ◌∙◌, ◌&&◌, ◌||◌, not, ℕ, zero, suc, Bool, true, false, cond, List, [], Option, Some, None, map, length, refl, sym, ap, subst, arith, eq-eqb, eqb-true}
use Rattle.std.specs.Prelude.{nat_eq, option_map, slice_get}
use Rattle.std.specs.List.{list_any}
use Rattle.std.proofs.lemmas.Option.{same_Some, slice_get_within}
use Rattle.target_base.specs.declared.types.Effect.TheVariants as effects
use Rattle.target_base.specs.declared.types.IndexId.{IndexId}
use Rattle.target_base.specs.declared.types.Unit.{Unit as UnitNumber}
use Rattle.target_base.specs.declared.types.Target.{Target}
use Rattle.target_base.specs.Registers.{lanes_of, units_of}
use Rattle.target_base.specs.Rules.{is_copy}
use Rattle.target_base.proofs.Tests.{first_of_both, second_of_both}
use Rattle.meaning.specs.declared.types.Lane.{Lane}
use Rattle.meaning.specs.declared.types.Lane.TheVariants.{SlotLane, UnitLane, VirtualLane}
use Rattle.meaning.specs.declared.types.Source.{Source}
use Rattle.meaning.specs.declared.types.Source.TheVariants.{Bits, FromLane, Undef}
use Rattle.meaning.specs.declared.types.Fill.{Fill}
use Rattle.meaning.specs.declared.types.Fill.TheVariants.{Computed, Moved}
use Rattle.meaning.specs.declared.types.Write.{Write}
use Rattle.meaning.specs.Lanes.{same_lane}
use Rattle.meaning.specs.Code.{Item, Silent}
use Rattle.meaning.specs.Fold.{copies}
use Rattle.meaning.specs.Live.{Among as Member, here as first, there as later, writes_of}
use Rattle.mir_func.specs.declared.func.Loc.{Loc}
use Rattle.mir_func.specs.declared.func.Loc.TheVariants.{Fixed, Virtual}
use Rattle.mir_func.specs.declared.func.RegOp.{RegOp}
use Rattle.mir_func.specs.declared.func.Operand.{Operand}
use Rattle.mir_func.specs.declared.func.Operand.TheVariants as operands
use Rattle.mir_func.specs.declared.func.Instr.{Instr}
use Rattle.mir_func.specs.declared.func.Block.{Block}
use Rattle.mir_func.specs.Value.{Function}
use Rattle.mir_func.specs.Binding.{does, effect_of, is_definition, is_lowered_away, is_use, passes, registers}
use Rattle.mir_meaning.specs.Codes.{effect_item, item_of}
use Rattle.mir_meaning.specs.Items.{copied, moved, undefined}
use Rattle.mir_meaning.specs.Points.{is_range}
use Rattle.mir_meaning.specs.Registers.{located_lanes, numbers, operand_lanes, range_widths, use_sources, whole_lanes}
use Rattle.mir_meaning.specs.Rules.{copy_fits}
use Rattle.instr_effects.proofs.Members.{either-elim, member-none}
use Rattle.live_lanes.specs.declared.live.LiveFunc.{LiveFunc}
use Rattle.live_laws.proofs.Effects.Blocks.{slice-map, slice-member}
use Rattle.live_laws.proofs.Effects.Lists.{lanes-apart}
use Rattle.live_laws.proofs.Exact.Quiet.{is_range_lane}
use Rattle.live_laws.proofs.Touch.Effects.{numbers-long}
use Rattle.live_laws.proofs.Touch.Roles.{met}
use Rattle.lowering_laws.specs.Form.{is_undef_definition, is_undef_use}
use Rattle.lowering_laws.proofs.Found.{same-is, same-self}
use Rattle.live_edits.specs.declared.fold.Join.{Join}
use Rattle.live_edits.specs.Folded.{image, lane_within, two_sides}
use Rattle.join_laws.proofs.Asked.{IsAsked, copy-is}
use Rattle.join_laws.proofs.Named.{known, none-is}
use Rattle.coalescer.specs.Asked.{copies_lane, partner, place_in, same_place}
use Rattle.coalescer.specs.Coalescing.{MayCoalesce, sides_in}
use Rattle.coalescer.proofs.QuietFills.{item-fresh, move-at}
use Rattle.coalescer.proofs.QuietLanes.{IsLane, operand-lane, partner-of, partner-same, position-at, position-of, written-lane}

-- the place of a lane among those of an operand

pair-same : (v k u i : ℕ) → VirtualLane v k ≡ VirtualLane u i → (v ≡ u) × (k ≡ i)
pair-same v k u i e = (cc, cc)

number-at : (n count k : ℕ) → k < count → slice_get (numbers n count) k ≡ Some (n + k)
number-at n zero k h = absurd (omega arith)
number-at n (suc count) zero h = let e : n ≡ n + 0 = omega arith in ap Some e
number-at n (suc count) (suc k) h = let e : suc n + k ≡ n + suc k = omega arith in number-at (suc n) count k (omega arith) ∙ ap Some e

number-is : (count k i : ℕ) → slice_get (numbers 0 count) k ≡ Some i → i ≡ k
number-is count k i e =
    let h : k < length (numbers 0 count) = slice_get_within (numbers 0 count) k i e in
    let zero-on : 0 + k ≡ k = omega arith in
    sym (same_Some (0 + k) i (sym (number-at 0 count k (omega (arith, h, numbers-long 0 count))) ∙ e)) ∙ zero-on

-- what a mapped list has at a place
mapped-at : {X Y : Type 0} (g : X → Y) (xs : List X) (k : ℕ) (y : Y) → slice_get (map g xs) k ≡ Some y → (x : X) × (slice_get xs k ≡ Some x) × (g x ≡ y)
mapped-at {X = X} {Y = Y} g xs k y e = go (slice_get xs k) refl (sym (slice-map g xs k) ∙ e)
  where
    go : (q : Option X) → slice_get xs k ≡ q → option_map g q ≡ Some y → (x : X) × (slice_get xs k ≡ Some x) × (g x ≡ y)
    go None h s = absurd (cc)
    go (Some x) h s = (x, h, same_Some (g x) y s)

module _ (t : Target) (f : Function) where
  -- a lane of a range that stands at a place of an operand's lanes has that place in the operand's index
  side-place : (c : Loc) (q : Option IndexId) (n v k : ℕ) → slice_get (located_lanes t f c q) n ≡ Some (VirtualLane v k) → (is_range v c ≡ true) × (place_in t q k ≡ Some n)
  side-place (Virtual u) None n v k e =
      let z = mapped-at (VirtualLane u) (numbers 0 (length (range_widths t f u))) n (VirtualLane v k) e in
      let same = pair-same u z.0 v k z.2 in
      (eq-eqb v u (sym same.0), ap Some (sym same.1 ∙ number-is (length (range_widths t f u)) n z.0 z.1))
  side-place (Virtual u) (Some y) n v k e =
      let z = mapped-at (VirtualLane u) (lanes_of t y) n (VirtualLane v k) e in
      let same = pair-same u z.0 v k z.2 in
      (eq-eqb v u (sym same.0), position-at (lanes_of t y) k n (lanes-apart t y) (z.1 ∙ ap Some same.1))
  side-place (Fixed r) q n v k e = absurd (let z = mapped-at (λ (u : UnitNumber). UnitLane u.0) (units_of t r) n (VirtualLane v k) e in let same : UnitLane z.0.0 ≡ VirtualLane v k = z.2 in cc)

  -- and back
  place-side : (c : Loc) (q : Option IndexId) (n v k : ℕ) (l : Lane) → slice_get (located_lanes t f c q) n ≡ Some l → is_range v c ≡ true → place_in t q k ≡ Some n → l ≡ VirtualLane v k
  place-side (Virtual u) None n v k l e r p =
      let z = mapped-at (VirtualLane u) (numbers 0 (length (range_widths t f u))) n l e in
      let own : z.0 ≡ k = number-is (length (range_widths t f u)) n z.0 z.1 ∙ sym (same_Some k n p) in
      sym z.2 ∙ (λ i. VirtualLane (sym (eqb-true v u r) i) (own i))
  place-side (Virtual u) (Some y) n v k l e r p =
      let z = mapped-at (VirtualLane u) (lanes_of t y) n l e in
      let own : z.0 ≡ k = same_Some z.0 k (sym z.1 ∙ position-of (lanes_of t y) k n p) in
      sym z.2 ∙ (λ i. VirtualLane (sym (eqb-true v u r) i) (own i))
  place-side (Fixed x) q n v k l e r p = absurd (cc)

same-places : (n : ℕ) (p : Option ℕ) → same_place (Some n) p ≡ true → p ≡ Some n
same-places n None e = absurd (cc)
same-places n (Some k) e = ap Some (sym (eqb-true n k e))

by-both : (u v : Bool) → (u ≡ true → v ≡ true) → (v ≡ true → u ≡ true) → u ≡ v
by-both true v h g = sym (h refl)
by-both false true h g = g refl
by-both false false h g = refl

-- a writing of a copy
module _ (t : Target) (f : Function) (d s : RegOp) (n v k : ℕ) (l : Lane) (into : slice_get (operand_lanes t f d) n ≡ Some (VirtualLane v k)) (from : slice_get (operand_lanes t f s) n ≡ Some l) where
  own : (is_range v d.loc ≡ true) × (place_in t d.index k ≡ Some n)
  own = side-place t f d.loc d.index n v k into

  -- the sides tell from which lane it copies
  told : (a : ℕ × ℕ) → copies_lane t (Some (d, s)) (v, k) a ≡ same_lane l (VirtualLane a.0 a.1)
  told a = by-both (copies_lane t (Some (d, s)) (v, k) a) (same_lane l (VirtualLane a.0 a.1)) forth back
    where
      forth : copies_lane t (Some (d, s)) (v, k) a ≡ true → same_lane l (VirtualLane a.0 a.1) ≡ true
      forth e =
          let ranges = first_of_both (is_range v d.loc && is_range a.0 s.loc) (same_place (place_in t d.index k) (place_in t s.index a.1)) e in
          let r = second_of_both (is_range v d.loc) (is_range a.0 s.loc) ranges in
          let p = second_of_both (is_range v d.loc && is_range a.0 s.loc) (same_place (place_in t d.index k) (place_in t s.index a.1)) e in
          let q = same-places n (place_in t s.index a.1) (ap (λ x. same_place x (place_in t s.index a.1)) (sym own.1) ∙ p) in
          subst (λ x. same_lane l x ≡ true) (place-side t f s.loc s.index n a.0 a.1 l from r q) (same-self l)

      back : same_lane l (VirtualLane a.0 a.1) ≡ true → copies_lane t (Some (d, s)) (v, k) a ≡ true
      back e =
          let other = side-place t f s.loc s.index n a.0 a.1 (from ∙ ap Some (same-is l (VirtualLane a.0 a.1) e)) in
          (λ i. (own.0 i && other.0 i) && same_place (own.1 i) (other.1 i)) ∙ eq-eqb n n refl

-- nothing that is moved from elsewhere has the image of a lane of a range
not-copied : (t : Target) (j : Join) (v k : ℕ) (q : Fill) → ((l : Lane) → q ≡ Moved (FromLane l) → is_range_lane l ≡ false) → copies (image t j) (VirtualLane v k) q ≡ false
not-copied t j v k (Moved Undef) h = refl
not-copied t j v k (Moved (Bits c low width)) h = refl
not-copied t j v k (Computed n) h = refl
not-copied t j v k (Moved (FromLane (VirtualLane w i))) h = absurd (let z : true ≡ false = h (VirtualLane w i) refl in cc)
not-copied t j v k (Moved (FromLane (UnitLane u))) h = go (nat_eq v j.gone)
  where
    go : (c : Bool) → same_lane (UnitLane u) (cond c (VirtualLane j.keep (lane_within t j.index k)) (VirtualLane v k)) ≡ false
    go true = refl
    go false = refl
not-copied t j v k (Moved (FromLane (SlotLane s i w))) h = go (nat_eq v j.gone)
  where
    go : (c : Bool) → same_lane (SlotLane s i w) (cond c (VirtualLane j.keep (lane_within t j.index k)) (VirtualLane v k)) ≡ false
    go true = refl
    go false = refl

copied-item : (t : Target) (f : Function) (b : Block) (i : Instr) → effect_of t i ≡ Some effects.Copy → item_of t f b i ≡ Silent [] (copied t f i.operands)
unfolding item_of
copied-item t f b i e = ap (λ q. elim q as (λ o. Item) [ None ↦ Silent [] [] | Some x ↦ effect_item t f b i x ]) e

left-true : (u v : Bool) → u ≡ true → (u || v) ≡ true
left-true u v e = ap (λ x. x || v) e

right-true : (u v : Bool) → v ≡ true → (u || v) ≡ true
right-true true v e = refl
right-true false v e = e

either-true : {P : Type 0} (u v : Bool) → (u || v) ≡ true → (u ≡ true → P) → (v ≡ true → P) → P
either-true true v e f g = f refl
either-true false v e f g = g e

module _ (t : Target) (x : LiveFunc) (may : MayCoalesce t x) (j : Join) (asked : IsAsked t x.func j) where
  abbrev m : Lane → Lane
  m = image t j

  -- the lanes of ranges with the image of lane k of range v: its partner, and itself
  image-told : (v k : ℕ) (o : ℕ × ℕ) (l : Lane) → (v ≡ j.keep) ⊎ (v ≡ j.gone) → partner t j v k ≡ Some o → IsLane t x.func (VirtualLane v k) → IsLane t x.func l
      → same_lane (m l) (m (VirtualLane v k)) ≡ (same_lane l (VirtualLane o.0 o.1) || same_lane l (VirtualLane v k))
  image-told v k o l side e hv hl = by-both (same_lane (m l) (m (VirtualLane v k))) (same_lane l (VirtualLane o.0 o.1) || same_lane l (VirtualLane v k)) forth back
    where
      forth : same_lane (m l) (m (VirtualLane v k)) ≡ true → (same_lane l (VirtualLane o.0 o.1) || same_lane l (VirtualLane v k)) ≡ true
      forth s = go (same_lane l (VirtualLane v k)) refl
        where
          go : (u : Bool) → same_lane l (VirtualLane v k) ≡ u → (same_lane l (VirtualLane o.0 o.1) || same_lane l (VirtualLane v k)) ≡ true
          go true d = right-true (same_lane l (VirtualLane o.0 o.1)) (same_lane l (VirtualLane v k)) d
          go false d =
              let z = partner-of t x.func j asked l v k hl hv (same-is (m l) (m (VirtualLane v k)) s) d in
              let one : z.1 ≡ o = same_Some z.1 o (sym z.2 ∙ e) in
              left-true (same_lane l (VirtualLane o.0 o.1)) (same_lane l (VirtualLane v k)) (subst (λ y. same_lane l y ≡ true) (z.3 ∙ ap (λ (p : ℕ × ℕ). VirtualLane p.0 p.1) one) (same-self l))

      back : (same_lane l (VirtualLane o.0 o.1) || same_lane l (VirtualLane v k)) ≡ true → same_lane (m l) (m (VirtualLane v k)) ≡ true
      back s =
          either-true (same_lane l (VirtualLane o.0 o.1)) (same_lane l (VirtualLane v k)) s
          (λ d. subst (λ y. same_lane (m l) y ≡ true) (ap m (same-is l (VirtualLane o.0 o.1) d) ∙ (partner-same t x.func j asked v k o side e).0) (same-self (m l)))
          (λ d. subst (λ y. same_lane (m l) y ≡ true) (ap m (same-is l (VirtualLane v k) d)) (same-self (m l)))

  module _ (b : Block) (i : Instr) (mb : Member b x.func.blocks) (mi : Member i b.instrs) where
    abbrev f : Function
    f = x.func

    -- a copy's sides, which aren't `undef`
    record IsPlainCopy (d s : RegOp) : Type 0 where
      pub operands : i.operands ≡ operands.Reg d ∷ operands.Reg s ∷ []
      pub copied : does is_copy t i ≡ true
      pub into : (d.def && d.undef) ≡ false
      pub from : s.undef ≡ false

    plain-copy : does is_copy t i ≡ true → (d s : RegOp) → i.operands ≡ operands.Reg d ∷ operands.Reg s ∷ [] → (is_definition d && is_use s) ≡ true → IsPlainCopy d s
    plain-copy c d s are fits = record {
      operands = are;
      copied = c;
      into = none-is is_undef_definition d (d ∷ s ∷ []) (sym (ap (λ os. list_any is_undef_definition (registers os)) are) ∙ (may.plain b i mb mi).0) first;
      from = go s.def s.implicit s.undef (second_of_both (is_definition d) (is_use s) fits) (none-is is_undef_use s (d ∷ s ∷ []) uses (later first));
    }
      where
        uses : list_any is_undef_use (d ∷ s ∷ []) ≡ false
        uses = sym (λ k. c k && list_any is_undef_use (registers (are k))) ∙ (may.plain b i mb mi).1

        go : (p q u : Bool) → (not p && not q) ≡ true → (not p && u) ≡ false → u ≡ false
        go true q u g h = absurd (cc)
        go false q u g h = h

    module _ (w : Write) (mw : Member w (writes_of (item_of t f b i))) (v k : ℕ) (o : ℕ × ℕ) (at : w.lane ≡ VirtualLane v k) (side : (v ≡ j.keep) ⊎ (v ≡ j.gone)) (e : partner t j v k ≡ Some o) where
      abbrev Told : Type 0
      Told = copies m w.lane w.fill ≡ (copies_lane t (sides_in t (Some i)) (v, k) o || copies_lane t (sides_in t (Some i)) (v, k) (v, k))

      here : IsLane t f (VirtualLane v k)
      here = subst (IsLane t f) at (written-lane t x may b i w mb mi mw)

      by-move : (d s : RegOp) → sides_in t (Some i) ≡ Some (d, s) → (n : ℕ) (l : Lane) → slice_get (operand_lanes t f d) n ≡ Some w.lane → slice_get (operand_lanes t f s) n ≡ Some l → IsLane t f l → w.fill ≡ Moved (FromLane l) → Told
      by-move d s sides n l into from lane fill =
          let own : slice_get (operand_lanes t f d) n ≡ Some (VirtualLane v k) = into ∙ ap Some at in
          let image-is : copies m w.lane w.fill ≡ same_lane (m l) (m (VirtualLane v k)) = (λ z. copies m (at z) (fill z)) in
          let other : copies_lane t (sides_in t (Some i)) (v, k) o ≡ same_lane l (VirtualLane o.0 o.1) = ap (λ q. copies_lane t q (v, k) o) sides ∙ told t f d s n v k l own from o in
          let itself : copies_lane t (sides_in t (Some i)) (v, k) (v, k) ≡ same_lane l (VirtualLane v k) = ap (λ q. copies_lane t q (v, k) (v, k)) sides ∙ told t f d s n v k l own from (v, k) in
          let lanes : same_lane (m l) (m (VirtualLane v k)) ≡ (same_lane l (VirtualLane o.0 o.1) || same_lane l (VirtualLane v k)) = image-told v k o l side e here lane in
          image-is ∙ (lanes ∙ sym (λ z. other z || itself z))

      by-copy : (d s : RegOp) → IsPlainCopy d s → Told
      by-copy d s c =
          let z = move-at false (operand_lanes t f d) (use_sources t f s) w moving in
          let y = mapped-at FromLane (operand_lanes t f s) z.place z.source (ap (λ u. slice_get (map (cond {A = Lane → Source} u (λ l. Undef) FromLane) (operand_lanes t f s)) z.place) (sym c.from) ∙ z.from) in
          let named : Member s (registers i.operands) = subst (λ os. Member s (registers os)) (sym c.operands) (later first) in
          by-move d s sides z.place y.0 z.lane y.1 (operand-lane t x may b i s y.0 mb mi named (slice-member (operand_lanes t f s) z.place y.0 y.1)) (z.fill ∙ ap Moved (sym y.2))
        where
          sides : sides_in t (Some i) ≡ Some (d, s)
          sides = (λ n. cond (c.copied n) (two_sides (c.operands n)) None)

          all : Member w (moved false (operand_lanes t f d) (use_sources t f s) ++ undefined false (cond (d.def && d.undef) (whole_lanes t f d.loc) []))
          all = subst (λ os. Member w (copied t f os)) c.operands (subst (λ y. Member w (writes_of y)) (copied-item t f b i (copy-is (effect_of t i) c.copied)) mw)

          moving : Member w (moved false (operand_lanes t f d) (use_sources t f s))
          moving = either-elim w (moved false (operand_lanes t f d) (use_sources t f s)) (undefined false (cond (d.def && d.undef) (whole_lanes t f d.loc) [])) (λ n. n) (λ n. absurd (member-none w (subst (λ u. Member w (undefined false (cond u (whole_lanes t f d.loc) []))) c.into n))) all

      pub by-sides : Told
      by-sides = go (does is_copy t i) refl
        where
          two : (os : List Operand) → i.operands ≡ os → copy_fits os ≡ true → does is_copy t i ≡ true → Told
          two (operands.Reg d ∷ operands.Reg s ∷ []) are fits c = by-copy d s (plain-copy c d s are fits)
          two os are fits c = absurd (cc)

          go : (u : Bool) → does is_copy t i ≡ u → Told
          go true c = two i.operands refl (met t f i effects.Copy (copy-is (effect_of t i) c) (may.lowered.rules.shaped b i mb mi).operands).3 c
          go false c =
              let q = known t i (may.lowered.lowered b i mb mi) in
              let fresh = item-fresh t f b i q.0.0 q.0.1 (sym (ap (passes is_copy) q.0.1) ∙ c) (sym (ap (passes is_lowered_away) q.0.1) ∙ q.1) w mw in
              let none : sides_in t (Some i) ≡ None = ap (λ u. cond u (two_sides i.operands) None) c in
              ap (λ y. copies m y w.fill) at ∙ not-copied t j v k w.fill (λ l g. fresh l g (ap is_range_lane at))
              ∙ sym (λ n. copies_lane t (none n) (v, k) o || copies_lane t (none n) (v, k) (v, k))
