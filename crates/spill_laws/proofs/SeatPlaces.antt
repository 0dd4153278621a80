-- A counted instruction with tinies in place of the range: each operand reads what it read, and gives what it gave.
use Rattle.std.proofs.Common.{◌≡◌, ◌∷◌, ◌⊎◌, inl, inr, ◌∙◌, ◌&&◌, ◌||◌, ◌≤◌, not, ℕ, suc, zero, Bool, true, false, cond, List, Some, None, length, map, refl, sym, ap, subst, arith, eq-eqb, eqb-true, []}
use Rattle.std.proofs.lemmas.Bool.{ltb-true}
use Rattle.std.proofs.lemmas.List.{length-map}
use Rattle.std.specs.List.{cons_option}
use Rattle.std.specs.Prelude.{is_some, nat_eq, nat_lt, option_map}
use Rattle.target_base.specs.declared.types.Target.{Target}
use Rattle.meaning.specs.InStep.{Known}
use Rattle.meaning.specs.Code.{Code, Item}
use Rattle.meaning.specs.Lanes.{Writes, same_lane}
use Rattle.meaning.specs.Live.{Among as Member, here as first, there as later, is_slot}
use Rattle.meaning.specs.Relations.{AlikeReads, Rel}
use Rattle.meaning.specs.declared.types.Lane.{Lane}
use Rattle.meaning.specs.declared.types.Lane.TheVariants.{SlotLane, VirtualLane}
use Rattle.meaning.specs.declared.types.Source.{Source}
use Rattle.meaning.specs.declared.types.Source.TheVariants.{FromLane, Undef}
use Rattle.mir_func.specs.declared.func.RegOp.{RegOp}
use Rattle.mir_func.specs.declared.func.Operand.{Operand}
use Rattle.mir_func.specs.Value.{Function}
use Rattle.mir_func.specs.Binding.{class_of, registers}
use Rattle.mir_meaning.specs.Registers.{is_reserved, numbers, operand_lanes, operand_widths, range_widths, use_sources}
use Rattle.mir_meaning.specs.Rules.{has_class}
use Rattle.instr_effects.proofs.Members.{map-of, member-elim, member-none}
use Rattle.target_base.proofs.Tests.{first_of_both}
use Rattle.laws.proofs.Quiet.{same-true}
use Rattle.lowering_laws.proofs.Olds.{is_old}
use Rattle.lowering_laws.proofs.Found.{place}
use Rattle.lowering_laws.proofs.Places.{InPlace, Replaces}
use Rattle.lowering_laws.proofs.RulesStay.{lanes}
use Rattle.lowering_laws.proofs.Silently.{lanes-count}
use Rattle.lowering_laws.proofs.Traced.{is_lane_of, is_one, lanes_by, traced}
use Rattle.spiller.specs.Setting.{Spilling, is_own, own_lanes}
use Rattle.spiller.specs.Spilled.{as_tiny}
use Rattle.spill_laws.specs.Standing.{IsBeside, KeptIn, LiveIn, OwnStands, Stands, code_before, slot_lane}
use Rattle.spill_laws.specs.Seats.{IsSeating, Load, Save, Seat, Seated, load_writes, save_writes}
use Rattle.spill_laws.proofs.Chains.{old-apart, tiny_lanes}
use Rattle.spill_laws.proofs.CopyPlaces.{lanes-numbered}
use Rattle.spill_laws.proofs.Loads.{loaded, loads-leave, saved, saves-leave, tiny-beside}
use Rattle.spill_laws.proofs.SlotPlaces.{width}
use Rattle.spill_laws.proofs.SlotWrites.{of-one, one-of, source_at}
use Rattle.spill_laws.proofs.SpillItems.{lane-range, other-beside, own-lanes-are, unslotted}

pub place-none : (ls : List Lane) (a : Lane) → ((l : Lane) → Member l ls → l ≡ a → ⊥) → place ls a ≡ None
place-none [] a h = refl
place-none (l ∷ ls) a h = go (same_lane l a) refl (place-none ls a (λ m k. h m (later k)))
  where
    go : (y : Bool) → same_lane l a ≡ y → place ls a ≡ None → cond y (Some 0) (option_map suc (place ls a)) ≡ None
    go true e ih = absurd (h l first (same-true l a e))
    go false e ih = ap (option_map suc) ih

module _ (s : Spilling) (h : Function) (stay : (w : ℕ) → is_some (class_of s.func w) ≡ true → class_of h w ≡ class_of s.func w) (x : Item) (p : Code) (os : List Operand) (loads : List Load) (saves : List Save) (seating : IsSeating s x os loads saves) where
  abbrev t : Target
  t = s.target

  abbrev f : Function
  f = s.func

  abbrev n : ℕ
  n = length s.func.classes

  abbrev pub pre : List Writes
  pre = map load_writes loads

  abbrev pub post : List Writes
  post = map (save_writes s) saves

  -- what is kept before the instruction, found behind the loads
  abbrev pub R : Rel
  R a u = Known (is_reserved s.target) (code_before s) (x ∷ p) a → Stands s (x ∷ p) a (traced pre u)

  -- a lane behind the instruction, and where it was before the stores
  pub data Comes (a a' : Lane) : Type 0 where
    stayed : IsBeside s a → KeptIn s p a → a' ≡ a → Comes a a'
    homed : (k : ℕ) → a ≡ VirtualLane s.range k → LiveIn s p (VirtualLane s.range k) → traced post (FromLane (slot_lane s k)) ≡ FromLane a' → Comes a a'

  pub loads-past : (a : Lane) → IsBeside s a → traced pre (FromLane a) ≡ FromLane a
  loads-past a b = loads-leave loads a (λ l m. old-apart n l.tiny a (seating.loads_further l m) b.old)

  beside-stands : (a : Lane) → IsBeside s a → R (FromLane a) (FromLane a)
  beside-stands a b k = inl (b, k, loads-past a b)

  -- where a lane of the range was: in its slot, or in a tiny that is stored
  data Was (k : ℕ) (a' : Lane) : Type 0 where
    slot : a' ≡ slot_lane s k → ((y : Save) → Member y saves → Member k y.lanes → ⊥) → Was k a'
    tiny : (y : Save) (z : ℕ) → Member y saves → is_one y.lanes k ≡ true → a' ≡ VirtualLane y.tiny z → Was k a'

  lane-of : (a b : Lane) → FromLane a ≡ FromLane b → a ≡ b
  lane-of a b e = cc

  pub some-save : (ys : List Save) (k : ℕ) → ((y : Save) × Member y ys × (is_one y.lanes k ≡ true)) ⊎ ((y : Save) → Member y ys → is_one y.lanes k ≡ false)
  some-save [] k = inr (λ y m. absurd (member-none y m))
  some-save (y ∷ ys) k = go (is_one y.lanes k) refl (some-save ys k)
    where
      go : (u : Bool) → is_one y.lanes k ≡ u → ((z : Save) × Member z ys × (is_one z.lanes k ≡ true)) ⊎ ((z : Save) → Member z ys → is_one z.lanes k ≡ false) → ((z : Save) × Member z (y ∷ ys) × (is_one z.lanes k ≡ true)) ⊎ ((z : Save) → Member z (y ∷ ys) → is_one z.lanes k ≡ false)
      go true e r = inl (y, first, e)
      go false e (inl z) = inl (z.0, later z.1, z.2)
      go false e (inr w) = inr (λ z m. member-elim z y ys (λ q. ap (λ (u : Save). is_one u.lanes k) q ∙ e) (λ q. w z q) m)

  was : (k : ℕ) (a' : Lane) → traced post (FromLane (slot_lane s k)) ≡ FromLane a' → Was k a'
  was k a' e = go (some-save saves k)
    where
      number : (j w : ℕ) → slot_lane s k ≡ SlotLane s.slot j w → j ≡ k
      number j w g = cc

      go : ((y : Save) × Member y saves × (is_one y.lanes k ≡ true)) ⊎ ((y : Save) → Member y saves → is_one y.lanes k ≡ false) → Was k a'
      go (inl z) =
          let w = tiny-beside s z.0.tiny z.0.lanes k z.2 in
          tiny z.0 w.0 z.1 z.2 (sym (lane-of (VirtualLane z.0.tiny w.0) a' (sym w.1 ∙ (sym (saved s saves k (λ u v a b c d. seating.saves_once u v k a b c d) z.0 z.1 z.2) ∙ e))))
      go (inr z) =
          slot (sym (lane-of (slot_lane s k) a' (sym (saves-leave s saves (slot_lane s k) (λ y j w m q g. let u = z y m in let r : is_one y.lanes k ≡ true = subst (λ c. is_one y.lanes c ≡ true) (number j w g) (one-of y.lanes j q) in cc)) ∙ e)))
          (λ y m q. let u = z y m in let r = one-of y.lanes k q in cc)

  -- lanes of an operand

  abbrev Named : RegOp → Type 0
  Named o = has_class f o.loc ≡ true

  old-lanes : (o : RegOp) → Named o → operand_lanes t h o ≡ operand_lanes t f o
  old-lanes o c = lanes t f h stay o.loc o.index c

  own-lanes : (o : RegOp) → Named o → is_own s o ≡ true → operand_lanes t h o ≡ lanes_by s.range (own_lanes s o.index)
  own-lanes o c e = old-lanes o c ∙ own-lanes-are s o e

  other-beside-of : (o : RegOp) → Named o → is_own s o ≡ false → (a : Lane) → Member a (operand_lanes t h o) → IsBeside s a
  other-beside-of o c e a m = other-beside s o.loc o.index e c a (subst (Member a) (old-lanes o c) m)

  -- what isn't named by an operand beside the range
  none-old : (o : RegOp) → Named o → is_own s o ≡ false → (c z : ℕ) → n ≤ c → place (operand_lanes t h o) (VirtualLane c z) ≡ None
  none-old o c e w z further = place-none (operand_lanes t h o) (VirtualLane w z) (λ l m g. let b = other-beside-of o c e l m in let q : nat_lt w n ≡ true = sym (ap (is_old n) g) ∙ b.old in let r = ltb-true w n q in omega (arith, r, further))

  none-own : (o : RegOp) → Named o → is_own s o ≡ false → (k : ℕ) → place (operand_lanes t h o) (VirtualLane s.range k) ≡ None
  none-own o c e k = place-none (operand_lanes t h o) (VirtualLane s.range k) (λ l m g. let b = other-beside-of o c e l m in let q : is_lane_of s.range l ≡ true = ap (is_lane_of s.range) g ∙ eq-eqb s.range s.range refl in let u = b.other in cc)

  none-slot : (o : RegOp) (k w j : ℕ) → place (operand_lanes t h o) (SlotLane k j w) ≡ None
  none-slot o k w j = place-none (operand_lanes t h o) (SlotLane k j w) (λ l m g. let a = unslotted s h o.loc o.index l m in let b : is_slot l ≡ true = ap is_slot g in cc)

  -- an operand that stays

  same-reads : (y : Bool) (ls : List Lane) → ((a : Lane) → Member a ls → IsBeside s a) → AlikeReads R (map (cond y (λ l. Undef) FromLane) ls) (map (cond y (λ l. Undef) FromLane) ls)
  same-reads y [] b = tt
  same-reads true (l ∷ ls) b = ((λ k. tt), same-reads true ls (λ a m. b a (later m)))
  same-reads false (l ∷ ls) b = (beside-stands l (b l first), same-reads false ls (λ a m. b a (later m)))

  undef-reads : (ls ms : List Lane) → length ls ≡ length ms → AlikeReads R (map (λ (l : Lane). Undef) ls) (map (λ (l : Lane). Undef) ms)
  undef-reads [] [] e = tt
  undef-reads [] (m ∷ ms) e = absurd (omega (arith, e))
  undef-reads (l ∷ ls) [] e = absurd (omega (arith, e))
  undef-reads (l ∷ ls) (m ∷ ms) e = ((λ k. tt), undef-reads ls ms (omega (arith, e)))

  same-lanes-at : (o : RegOp) → Named o → is_own s o ≡ false → (a a' : Lane) → Comes a a' → place (operand_lanes t h o) a ≡ place (operand_lanes t h o) a'
  same-lanes-at o c e a a' (stayed b k g) = ap (place (operand_lanes t h o)) (sym g)
  same-lanes-at o c e a a' (homed k g l w) = ap (place (operand_lanes t h o)) g ∙ (none-own o c e k ∙ sym (by (was k a' w)))
    where
      by : Was k a' → place (operand_lanes t h o) a' ≡ None
      by (slot q r) = ap (place (operand_lanes t h o)) q ∙ none-slot o s.slot (width s k) k
      by (tiny y z m u q) = ap (place (operand_lanes t h o)) q ∙ none-old o c e y.tiny z (seating.saves_further y m)

  same-place : (o : RegOp) → Named o → (o.def ≡ true → o.undef ≡ false) → is_own s o ≡ false → InPlace t h R Comes o o
  same-place o c plain e = record {
    def = refl;
    implicit = refl;
    widths = refl;
    stays = λ z. refl;
    reads = λ z. same-reads o.undef (operand_lanes t h o) (other-beside-of o c e);
    clear = λ z. plain (first_of_both o.def (not o.implicit) z);
    lanes = λ z a a' y. same-lanes-at o c e a a' y;
  }

  blank-place : (o o' : RegOp) → o.implicit ≡ false → o.def ≡ false → o.undef ≡ true → o'.def ≡ false → o'.implicit ≡ false → o'.undef ≡ true → operand_widths t h o' ≡ operand_widths t h o → InPlace t h R Comes o o'
  blank-place o o' i d u d' i' u' w = record {
    def = d' ∙ sym d;
    implicit = i' ∙ sym i;
    widths = w;
    stays = λ z. absurd (cc);
    reads = λ z.
        let a = lanes-count t h o.loc o.index in
        let b = lanes-count t h o'.loc o'.index in
        let e = ap length w in
        subst (λ y. AlikeReads R (map (cond y (λ l. Undef) FromLane) (operand_lanes t h o)) (use_sources t h o')) (sym u)
        (subst (λ y. AlikeReads R (map (λ l. Undef) (operand_lanes t h o)) (map (cond y (λ l. Undef) FromLane) (operand_lanes t h o'))) (sym u') (undef-reads (operand_lanes t h o) (operand_lanes t h o') (omega (arith, a, b, e))));
    clear = λ z. absurd (let q = first_of_both o.def (not o.implicit) z in cc);
    lanes = λ z. absurd (let q = first_of_both o.def (not o.implicit) z in cc);
  }

  -- a tiny that is read

  tiny-reads : (c b : ℕ) (found : ℕ → Source) (ks : List ℕ) → ((j : ℕ) → Member j ks → OwnStands s (x ∷ p) j (found j)) → ((z : ℕ) → is_one (numbers b (length ks)) z ≡ true → traced pre (FromLane (VirtualLane c z)) ≡ source_at (numbers b (length ks)) (map found ks) z)
      → AlikeReads R (map FromLane (lanes_by s.range ks)) (map FromLane (tiny_lanes c b (length ks)))
  tiny-reads c b found [] o g = tt
  tiny-reads c b found (k ∷ ks) o g = (
    (λ live. inr (k, refl, its live, subst (OwnStands s (x ∷ p) k) (sym (g b (ap (λ y. y || is_one (numbers (suc b) (length ks)) b) (eq-eqb b b refl)) ∙ ap (λ y. cond y (found k) (source_at (numbers (suc b) (length ks)) (map found ks) b)) (eq-eqb b b refl))) (o k first))),
    tiny-reads c (suc b) found ks (λ j m. o j (later m)) (λ z e. g z (either (nat_eq b z) e) ∙ ap (λ y. cond y (found k) (source_at (numbers (suc b) (length ks)) (map found ks) z)) (past z (of-one (numbers (suc b) (length ks)) z e))),
  )
    where
      its : KeptIn s (x ∷ p) (VirtualLane s.range k) → LiveIn s (x ∷ p) (VirtualLane s.range k)
      its (inl l) = l
      its (inr l) = absurd (cc)

      either : (y : Bool) {u : Bool} → u ≡ true → (y || u) ≡ true
      either true e = refl
      either false e = e

      low : (b n k : ℕ) → Member k (numbers b n) → b ≤ k
      low b zero k m = absurd (member-none k m)
      low b (suc n) k m = member-elim k b (numbers (suc b) n) (λ e. subst (λ z. b ≤ z) (sym e) (omega arith)) (λ j. let h = low (suc b) n k j in omega (arith, h)) m

      past : (z : ℕ) → Member z (numbers (suc b) (length ks)) → nat_eq b z ≡ false
      past z m = by (nat_eq b z) refl
        where
          by : (y : Bool) → nat_eq b z ≡ y → nat_eq b z ≡ false
          by false e = e
          by true e = let q = eqb-true b z e in let h = low (suc b) (length ks) z m in absurd (omega (arith, h, q))

  -- the lanes of a tiny that has the widths of an operand that is the range
  tiny-lanes-are : (o : RegOp) (c : ℕ) → Named o → is_own s o ≡ true → operand_widths t h (as_tiny o c) ≡ operand_widths t h o → operand_lanes t h (as_tiny o c) ≡ tiny_lanes c 0 (length (own_lanes s o.index))
  tiny-lanes-are o c named own w =
      let ks = own_lanes s o.index in
      let a : length (operand_lanes t h o) ≡ length (operand_widths t h o) = lanes-count t h o.loc o.index in
      let b : length (operand_lanes t h o) ≡ length ks = ap length (own-lanes o named own) ∙ lanes-numbered s.range ks in
      ap (λ k. lanes_by c (numbers 0 k)) (ap length w ∙ (sym a ∙ b))

  reading-place : (o : RegOp) (l : Load) (found : ℕ → Source) → Named o → is_own s o ≡ true → o.implicit ≡ false → o.def ≡ false → o.undef ≡ false → Member l loads → l.sources ≡ map found (own_lanes s o.index)
      → ((j : ℕ) → Member j (own_lanes s o.index) → OwnStands s (x ∷ p) j (found j)) → operand_widths t h (as_tiny o l.tiny) ≡ operand_widths t h o → InPlace t h R Comes o (as_tiny o l.tiny)
  reading-place o l found named own i d u m e stands w = record {
    def = refl;
    implicit = sym i;
    widths = w;
    stays = λ z. absurd (cc);
    reads = λ z. subst (λ q. AlikeReads R q (use_sources t h (as_tiny o l.tiny))) (sym first-sources) (subst (AlikeReads R (map FromLane (lanes_by s.range ks))) (sym second-sources) (tiny-reads l.tiny 0 found ks stands fact));
    clear = λ z. absurd (let q = first_of_both o.def (not o.implicit) z in cc);
    lanes = λ z. absurd (let q = first_of_both o.def (not o.implicit) z in cc);
  }
    where
      ks : List ℕ
      ks = own_lanes s o.index

      first-sources : use_sources t h o ≡ map FromLane (lanes_by s.range (own_lanes s o.index))
      first-sources = λ j. map (cond (u j) (λ l. Undef) FromLane) (own-lanes o named own j)

      second-sources : use_sources t h (as_tiny o l.tiny) ≡ map FromLane (tiny_lanes l.tiny 0 (length (own_lanes s o.index)))
      second-sources = (λ j. map (cond (not (d j) && u j) (λ l. Undef) FromLane) (tiny-lanes-are o l.tiny named own w j))

      fact : (z : ℕ) → is_one (numbers 0 (length (own_lanes s o.index))) z ≡ true → traced pre (FromLane (VirtualLane l.tiny z)) ≡ source_at (numbers 0 (length (own_lanes s o.index))) (map found (own_lanes s o.index)) z
      fact z =
          subst (λ k. is_one (numbers 0 k) z ≡ true → traced pre (FromLane (VirtualLane l.tiny z)) ≡ source_at (numbers 0 k) (map found (own_lanes s o.index)) z) (length-map (own_lanes s o.index) found)
          (subst (λ qs. is_one (numbers 0 (length qs)) z ≡ true → traced pre (FromLane (VirtualLane l.tiny z)) ≡ source_at (numbers 0 (length qs)) qs z) e
          (loaded loads seating.loads_once seating.loads_plain z l m))

  -- a tiny that is defined

  module _ (o : RegOp) (c : ℕ) (named : Named o) (own : is_own s o ≡ true) (further : n ≤ c)
      (stored : (k : ℕ) → Member k (own_lanes s o.index) → LiveIn s p (VirtualLane s.range k) → Member (record { tiny = c; lanes = own_lanes s o.index }) saves)
      (alone : (y : Save) → Member y saves → y.tiny ≡ c → y.lanes ≡ own_lanes s o.index) (w : operand_widths t h (as_tiny o c) ≡ operand_widths t h o) where
    abbrev ks : List ℕ
    ks = own_lanes s o.index

    beside-none : (a : Lane) → IsBeside s a → (place (operand_lanes t h o) a ≡ None) × (place (operand_lanes t h (as_tiny o c)) a ≡ None)
    beside-none a b = (
      place-none (operand_lanes t h o) a (λ l m g. let e = lane-range s h o.loc o.index l m in let q : is_lane_of s.range l ≡ is_lane_of s.range a = ap (is_lane_of s.range) g in let r = b.other in cc),
      place-none (operand_lanes t h (as_tiny o c)) a (λ l m g. let e = tiny-lane l (subst (Member l) (tiny-lanes-are o c named own w) m) in let q : is_lane_of c l ≡ is_lane_of c a = ap (is_lane_of c) g in let r = old-apart n c a further b.old in cc),
    )
      where
        tiny-lane : (l : Lane) → Member l (tiny_lanes c 0 (length (own_lanes s o.index))) → is_lane_of c l ≡ true
        tiny-lane l m = let y = map-of (VirtualLane c) l (numbers 0 (length (own_lanes s o.index))) m in ap (is_lane_of c) y.2 ∙ eq-eqb c c refl

    own-at-place : (k : ℕ) (a' : Lane) → LiveIn s p (VirtualLane s.range k) → traced post (FromLane (slot_lane s k)) ≡ FromLane a' → place (operand_lanes t h o) (VirtualLane s.range k) ≡ place (operand_lanes t h (as_tiny o c)) a'
    own-at-place k a' l e = go (is_one (own_lanes s o.index) k) refl
      where
        number : (a b : ℕ) → VirtualLane s.range a ≡ VirtualLane s.range b → a ≡ b
        number a b g = cc

        tiny-of : (a z : ℕ) (b u : ℕ) → VirtualLane a z ≡ VirtualLane b u → a ≡ b
        tiny-of a z b u g = cc

        unnamed : is_one (own_lanes s o.index) k ≡ false → place (operand_lanes t h o) (VirtualLane s.range k) ≡ None
        unnamed q = place-none (operand_lanes t h o) (VirtualLane s.range k) (λ l m g.
            let y = map-of (VirtualLane s.range) l (own_lanes s o.index) (subst (Member l) (own-lanes o named own) m) in
            let r : is_one (own_lanes s o.index) k ≡ true = subst (λ z. is_one (own_lanes s o.index) z ≡ true) (number y.0 k (sym y.2 ∙ g)) (one-of (own_lanes s o.index) y.0 y.1) in
            cc)

        elsewhere : is_one (own_lanes s o.index) k ≡ false → Was k a' → place (operand_lanes t h (as_tiny o c)) a' ≡ None
        elsewhere q (slot r none) = ap (place (operand_lanes t h (as_tiny o c))) r ∙ none-slot (as_tiny o c) s.slot (width s k) k
        elsewhere q (tiny y z m r g) =
            ap (place (operand_lanes t h (as_tiny o c))) g
            ∙ place-none (operand_lanes t h (as_tiny o c)) (VirtualLane y.tiny z) (λ l n w.
            let u = map-of (VirtualLane c) l (numbers 0 (length (range_widths t h c))) n in
            let same : y.tiny ≡ c = sym (tiny-of c u.0 y.tiny z (sym u.2 ∙ w)) in
            let v : is_one (own_lanes s o.index) k ≡ true = ap (λ ns. is_one ns k) (sym (alone y m same)) ∙ r in
            cc)

        go : (y : Bool) → is_one (own_lanes s o.index) k ≡ y → place (operand_lanes t h o) (VirtualLane s.range k) ≡ place (operand_lanes t h (as_tiny o c)) a'
        go true q =
            let y = tiny-beside s c (own_lanes s o.index) k q in
            let v : traced post (FromLane (slot_lane s k)) ≡ FromLane (VirtualLane c y.0) = saved s saves k (λ a b m r d f. seating.saves_once a b k m r d f) (record { tiny = c; lanes = own_lanes s o.index }) (stored k (of-one (own_lanes s o.index) k q) l) q ∙ y.1 in
            let is : a' ≡ VirtualLane c y.0 = lane-of a' (VirtualLane c y.0) (sym e ∙ v) in
            ap (λ ls. place ls (VirtualLane s.range k)) (own-lanes o named own)
            ∙ (y.3 ∙ ((λ j. place (sym (tiny-lanes-are o c named own w) j) (sym is j))))
        go false q = unnamed q ∙ sym (elsewhere q (was k a' e))

    defining-place : o.implicit ≡ false → o.def ≡ true → InPlace t h R Comes o (as_tiny o c)
    defining-place i d = record {
      def = refl;
      implicit = sym i;
      widths = w;
      stays = λ z. absurd (cc);
      reads = λ z. absurd (cc);
      clear = λ z. λ j. not (d j) && o.undef;
      lanes = λ z a a' y. by a a' y;
    }
      where
        by : (a a' : Lane) → Comes a a' → place (operand_lanes t h o) a ≡ place (operand_lanes t h (as_tiny o c)) a'
        by a a' (stayed b k g) = let z = beside-none a b in z.0 ∙ (sym z.1 ∙ ap (place (operand_lanes t h (as_tiny o c))) (sym g))
        by a a' (homed k g l e) = ap (place (operand_lanes t h o)) g ∙ own-at-place k a' l e

  -- all operands

  seat-place : (o o' : RegOp) → Named o → (o.def ≡ true → o.undef ≡ false) → Seat s h x p loads saves o o' → InPlace t h R Comes o o'
  seat-place o o' named plain (Seat.same e is) = subst (InPlace t h R Comes o) (sym is) (same-place o named plain e)
  seat-place o o' named plain (Seat.blank own i d u d' i' u' w) = blank-place o o' i d u d' i' u' w
  seat-place o o' named plain (Seat.reading l found own i d u m e stands is w) = subst (InPlace t h R Comes o) (sym is) (reading-place o l found named own i d u m e stands w)
  seat-place o o' named plain (Seat.defining c own i d further stored alone is w) = subst (InPlace t h R Comes o) (sym is) (defining-place o c named own further stored alone w i d)

  pub seats-place : {os os' : List Operand} → ((o : RegOp) → Member o (registers os) → Named o) → ((o : RegOp) → Member o (registers os) → o.def ≡ true → o.undef ≡ false) → Seated s h x p loads saves os os' → Replaces t h R Comes os os'
  seats-place named plain Seated.none = Replaces.none
  seats-place named plain (Seated.register {o = o} {o' = o'} z zs) = Replaces.register (seat-place o o' (named o first) (plain o first) z) (seats-place (λ q m. named q (later m)) (λ q m. plain q (later m)) zs)
  seats-place named plain (Seated.other {os = os} e zs) = Replaces.other e (seats-place (λ q m. named q (subst (λ u. Member q (cons_option u (registers os))) (sym e) m)) (λ q m. plain q (subst (λ u. Member q (cons_option u (registers os))) (sym e) m)) zs)
