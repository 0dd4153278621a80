-- Spills keep siblings apart.
use Rattle.std.proofs.Common.{◌≡◌, ◌≢◌, ◌<◌, ◌≤◌, ◌+◌, ◌⊎◌, inl, inr, ◌++◌, ◌∙◌, ℕ, suc, Bool, true, false, cond, List, [], ◌∷◌, Option, Some, None, map, flat_map, length, refl, sym, ap, subst, arith, eq-eqb}
use Rattle.std.specs.Prelude.{nat_eq, nat_lt, ◌||◌, ◌-◌}
use Rattle.std.specs.List.{list_any, zip}
use Rattle.std.proofs.lemmas.Bool.{ltb-false, ltb-true}
use Rattle.std.proofs.lemmas.List.{length-append, length-map}
use Rattle.target_base.specs.declared.types.Target.{Target}
use Rattle.meaning.specs.Live.{Among as Member, here as first}
use Rattle.meaning.specs.declared.types.Lane.TheVariants.{SlotLane, VirtualLane}
use Rattle.mir_func.specs.declared.func.Operand.TheVariants as operands
use Rattle.mir_func.specs.declared.func.Instr.{Instr}
use Rattle.mir_func.specs.declared.func.Block.{Block}
use Rattle.mir_func.specs.Value.{Function}
use Rattle.mir_meaning.specs.Points.{OccupiedAt, Point, RangePoint}
use Rattle.mir_meaning.specs.Registers.{has_number, numbers}
use Rattle.instr_effects.proofs.Members.{either-elim, left-in, member-elim, member-none, right-in}
use Rattle.lowering_laws.specs.Shapes.{IsLowered}
use Rattle.spiller.specs.Reaching.{Facts}
use Rattle.spiller.specs.Setting.{Spilling}
use Rattle.spiller.specs.Slots.{Slots, given_numbers, original_of, own_slot, slot_among, slot_of, with_ranges}
use Rattle.spiller.specs.Spilled.{all_changes, is_slot, names_slot, setting_of, slots_after, spilled, tinies, tinies_of}
use Rattle.spill_laws.specs.Refined.{SlotApart}
use Rattle.clear_laws.specs.Spills.{SpillPoints, WasLane}
use Rattle.sibling_laws.specs.Siblings.{AreSiblingsApart, KnowsOriginals, SlotPoint}
use Rattle.sibling_laws.specs.Spills.{SpillKeepsSiblings}
use Rattle.sibling_laws.proofs.Originals.{get-numbers, given-number, length-numbers, number-below, original-further, original-in, original-old, own-given, own-next, slot-either, slot-given, next-other}
use Rattle.sibling_laws.proofs.SlotsApart.{next-nowhere}
use Rattle.sibling_laws.proofs.SlotsNamed.{IsNamed, occupied-named}

zip-length : {X Y : Type 0} (a : ℕ) (h : X → Y) (xs : List X) → length (zip (numbers a (length xs)) (map h xs)) ≡ length xs
zip-length a h [] = refl
zip-length a h (x ∷ xs) = let e = zip-length (suc a) h xs in omega (arith, e)

any-in : {X : Type 0} (p : X → Bool) (x : X) (xs : List X) → Member x xs → p x ≡ true → list_any p xs ≡ true
any-in p x [] m e = absurd (member-none x m)
any-in p x (y ∷ xs) m e = member-elim x y xs (λ q. ap (λ b. b || list_any p xs) (ap p (sym q) ∙ e)) (λ k. ap (λ b. p y || b) (any-in p x xs k e) ∙ or-true (p y)) m
  where
    or-true : (b : Bool) → (b || true) ≡ true
    or-true true = refl
    or-true false = refl

-- a slot that is named
names-named : (t : Target) (f : Function) (n : ℕ) → IsNamed t f n → names_slot n f ≡ true
names-named t f n z =
    any-in (λ (b : Block). list_any (λ (i : Instr). list_any (is_slot n) i.operands) b.instrs) z.block f.blocks z.in_function
    (any-in (λ (i : Instr). list_any (is_slot n) i.operands) z.instr z.block.instrs z.in_block
    (any-in (is_slot n) (operands.Stack n) z.instr.operands z.names (eq-eqb n n refl)))

module _ (t : Target) (f : Function) (slots : Slots) (v : ℕ) (facts : Facts) where
  abbrev s : Spilling
  s = setting_of t f slots v facts

  abbrev g : Function
  g = spilled s

  abbrev new : Slots
  new = slots_after slots s

  abbrev n : ℕ
  n = own_slot slots v

  abbrev many : ℕ
  many = length (flat_map tinies_of (all_changes s))

  -- what is known then

  abbrev with : Option ℕ → Slots
  with q = elim q as (λ q. Slots) [ None ↦ record slots { given = slots.given ++ ((original_of slots v, own_slot slots v) ∷ []) } | Some m ↦ slots ]

  classes-are : length g.classes ≡ length f.classes + many
  unfolding spilled
  classes-are = length-append f.classes (map (λ x. x.0) (flat_map tinies_of (all_changes s))) ∙ ap (λ k. length f.classes + k) (length-map (flat_map tinies_of (all_changes s)) (λ x. x.0))

  tinies-are : length (tinies s) ≡ many
  unfolding tinies
  tinies-are = zip-length (length f.classes) (λ x. x.1) (flat_map tinies_of (all_changes s))

  originals-are : new.originals ≡ slots.originals ++ numbers (length slots.originals) (length (tinies s))
  unfolding slots_after
  originals-are = go (names_slot s.slot g)
    where
      by : (q : Option ℕ) → (with_ranges (with q) (length (tinies s))).originals ≡ slots.originals ++ numbers (length slots.originals) (length (tinies s))
      by None = refl
      by (Some m) = refl

      go : (b : Bool) → (with_ranges (cond b (with (slot_of slots v)) slots) (length (tinies s))).originals ≡ slots.originals ++ numbers (length slots.originals) (length (tinies s))
      go true = by (slot_of slots v)
      go false = refl

  abbrev Given : Slots → Type 0
  Given z = (z.given ≡ slots.given) ⊎ ((slot_of slots v ≡ None) × (z.given ≡ slots.given ++ (original_of slots v, own_slot slots v) ∷ []))

  given-are : Given new
  unfolding slots_after
  given-are = go (names_slot s.slot g)
    where
      by : (q : Option ℕ) → slot_of slots v ≡ q → Given (with q)
      by None e = inr (e, refl)
      by (Some m) e = inl refl

      go : (b : Bool) → Given (with_ranges (cond b (with (slot_of slots v)) slots) (length (tinies s)))
      go true = by (slot_of slots v) refl
      go false = inl refl

  own-is-given : names_slot n g ≡ true → has_number (given_numbers new.given) n ≡ true
  unfolding slots_after
  own-is-given named = go (names_slot n g) named
    where
      by : (q : Option ℕ) → slot_of slots v ≡ q → has_number (given_numbers (with q).given) n ≡ true
      by None e = given-number (with None) (original_of slots v, n) (right-in (original_of slots v, n) slots.given ((original_of slots v, n) ∷ []) first)
      by (Some m) e =
          let z = slot-given slots.given (original_of slots v) m e in
          ap (has_number (given_numbers slots.given)) (own-given slots v m e ∙ sym z.3) ∙ given-number slots z.0 z.1

      go : (b : Bool) → b ≡ true → has_number (given_numbers (with_ranges (cond b (with (slot_of slots v)) slots) (length (tinies s))).given) n ≡ true
      go true e = by (slot_of slots v) refl
      go false e = absurd (cc)

  -- what was given before is given
  given-grows : (x : ℕ × ℕ) → Member x slots.given → Member x new.given
  given-grows x m = go given-are
    where
      go : Given new → Member x new.given
      go (inl e) = subst (Member x) (sym e) m
      go (inr z) = subst (Member x) (sym z.1) (left-in x slots.given ((original_of slots v, n) ∷ []) m)

  -- a slot that is given then was given, or is the range's
  given-either : (x : ℕ × ℕ) → Member x new.given → Member x slots.given ⊎ ((slot_of slots v ≡ None) × (x ≡ (original_of slots v, n)))
  given-either x m = go given-are
    where
      go : Given new → Member x slots.given ⊎ ((slot_of slots v ≡ None) × (x ≡ (original_of slots v, n)))
      go (inl e) = inl (subst (Member x) e m)
      go (inr z) =
          either-elim x slots.given ((original_of slots v, n) ∷ []) (λ k. inl k)
          (λ k. member-elim x (original_of slots v, n) [] (λ e. inr (z.0, e)) (λ j. absurd (member-none x j)) k)
          (subst (Member x) z.1 m)

  module _ (is-range : v < length f.classes) (knows : KnowsOriginals f slots) where
    own-original : original_of slots v < length f.classes
    own-original = knows.within (original_of slots v) (original-in slots v (let e = knows.each in omega (arith, e)))

    owners-old : (x : ℕ × ℕ) → Member x new.given → x.0 < length f.classes
    owners-old x m = go (given-either x m)
      where
        go : Member x slots.given ⊎ ((slot_of slots v ≡ None) × (x ≡ (original_of slots v, n))) → x.0 < length f.classes
        go (inl k) = knows.owners x k
        go (inr z) = subst (λ (y : ℕ × ℕ). y.0 < length f.classes) (sym z.1) own-original

    new-once : (x y : ℕ × ℕ) → Member x new.given → Member y new.given → x.1 ≡ y.1 → x.0 ≡ y.0
    new-once x y mx my e = go (given-either x mx) (given-either y my)
      where
        -- the number that is new wasn't given
        other : (z : ℕ × ℕ) → Member z slots.given → slot_of slots v ≡ None → z.1 ≡ n → ⊥
        other z m none h = next-other slots z m (h ∙ own-next slots v none)

        go : Member x slots.given ⊎ ((slot_of slots v ≡ None) × (x ≡ (original_of slots v, n))) → Member y slots.given ⊎ ((slot_of slots v ≡ None) × (y ≡ (original_of slots v, n))) → x.0 ≡ y.0
        go (inl a) (inl b) = knows.once x y a b e
        go (inl a) (inr b) = absurd (other x a b.0 (e ∙ ap (λ (z : ℕ × ℕ). z.1) b.1))
        go (inr a) (inl b) = absurd (other y b a.0 (sym e ∙ ap (λ (z : ℕ × ℕ). z.1) a.1))
        go (inr a) (inr b) = ap (λ (z : ℕ × ℕ). z.0) a.1 ∙ sym (ap (λ (z : ℕ × ℕ). z.0) b.1)

    new-knows : KnowsOriginals g new
    new-knows = record {
      each = ap (λ (os : List ℕ). length os) originals-are ∙ (length-append slots.originals (numbers (length slots.originals) (length (tinies s)))
          ∙ ((let a = length-numbers (length slots.originals) (length (tinies s)) in let b = knows.each in let c = tinies-are in omega (arith, a, b, c)) ∙ sym classes-are));
      within = λ o m. either-elim o slots.originals (numbers (length slots.originals) (length (tinies s)))
          (λ k. let a = knows.within o k in let b = classes-are in omega (arith, a, b))
          (λ k. let a = number-below (length slots.originals) (length (tinies s)) o k in let b = classes-are in let c = knows.each in let d = tinies-are in omega (arith, a, b, c, d))
          (subst (Member o) originals-are m);
      owners = λ x m. let a = owners-old x m in let b = classes-are in omega (arith, a, b);
      once = new-once;
    }

    -- originals of ranges then

    original-stays : (w : ℕ) → w < length f.classes → original_of new w ≡ original_of slots w
    original-stays w h = original-old slots new (numbers (length slots.originals) (length (tinies s))) originals-are w (let e = knows.each in omega (arith, e))

    original-within : (w : ℕ) → w < length f.classes → original_of new w < length f.classes
    original-within w h = subst (λ o. o < length f.classes) (sym (original-stays w h)) (knows.within (original_of slots w) (original-in slots w (let e = knows.each in omega (arith, e))))

    original-itself : (k : ℕ) → k < many → original_of new (length f.classes + k) ≡ length f.classes + k
    original-itself k h =
        let few : k < length (tinies s) = let e = tinies-are in omega (arith, e) in
        subst (λ l. original_of new (l + k) ≡ l + k) knows.each
        (original-further slots new (numbers (length slots.originals) (length (tinies s))) originals-are k (length slots.originals + k) (get-numbers (length slots.originals) (length (tinies s)) k few))

    -- a range that the function had, or a tiny
    abbrev OldOrTiny : ℕ → Type 0
    OldOrTiny w = (w < length f.classes) ⊎ ((length f.classes ≤ w) × (original_of new w ≡ w))

    old-or-tiny : (w : ℕ) → w < length g.classes → OldOrTiny w
    old-or-tiny w h = go (nat_lt w (length f.classes)) refl
      where
        tiny : length f.classes ≤ w → (k : ℕ) → w ≡ length f.classes + k → OldOrTiny w
        tiny low k e = inr (low, subst (λ x. original_of new x ≡ x) (sym e) (original-itself k (let c = classes-are in omega (arith, c, h, e))))

        go : (b : Bool) → nat_lt w (length f.classes) ≡ b → OldOrTiny w
        go true e = inl (ltb-true w (length f.classes) e)
        go false e = let low = ltb-false w (length f.classes) e in tiny low (w - length f.classes) (omega (arith, low))

    module _ (low : IsLowered t g) (points : SpillPoints t f v n g) (apart : AreSiblingsApart t f slots) where
      abbrev to : Point → Point
      to p = (points p).0

      -- a range that the function had, at a point
      was-range : (w : ℕ) (p : Point) → w < length f.classes → RangePoint t g w p → (w ≡ v → ⊥) × RangePoint t f w (to p)
      was-range w p h z = let y = (points p).1 (VirtualLane w z.0) z.1 h in (y.0, (z.0, y.1))

      -- a slot at a point: it was there, or it is the range's, and that or the range was there
      was-slot : (m : ℕ) (p : Point) → SlotPoint t g m p → SlotPoint t f m (to p) ⊎ ((m ≡ n) × RangePoint t f v (to p))
      was-slot m p z = go ((points p).1 (SlotLane m z.0 z.1) z.2)
        where
          go : WasLane f v n (OccupiedAt t f (to p)) (SlotLane m z.0 z.1) → SlotPoint t f m (to p) ⊎ ((m ≡ n) × RangePoint t f v (to p))
          go (inl h) = inl (z.0, z.1, h)
          go (inr (e, inl y)) = inl (z.0, y.0, subst (λ k. OccupiedAt t f (to p) (SlotLane k z.0 y.0)) (sym e) y.1)
          go (inr (e, inr y)) = inr (e, (z.0, y))

      new-ranges : (a b : ℕ) → a < length g.classes → b < length g.classes → a ≢ b → original_of new a ≡ original_of new b → (p : Point) → RangePoint t g a p → RangePoint t g b p → ⊥
      new-ranges a b ha hb other same p pa pb = go (old-or-tiny a ha) (old-or-tiny b hb)
        where
          go : OldOrTiny a → OldOrTiny b → ⊥
          go (inl x) (inl y) = apart.ranges a b x y other (sym (original-stays a x) ∙ (same ∙ original-stays b y)) (to p) (was-range a p x pa).1 (was-range b p y pb).1
          go (inl x) (inr y) = let i = original-within a x in let e = same ∙ y.1 in let l = y.0 in omega (arith, i, e, l)
          go (inr x) (inl y) = let i = original-within b y in let e = sym same ∙ x.1 in let l = x.0 in omega (arith, i, e, l)
          go (inr x) (inr y) = other (sym x.1 ∙ (same ∙ y.1))

      -- a range with the slot of the one that is spilled is its sibling
      siblings : (w : ℕ) → slot_of slots w ≡ Some n → original_of slots w ≡ original_of slots v
      siblings w e = go (slot_of slots v) refl
        where
          z : (x : ℕ × ℕ) × Member x slots.given × (x.0 ≡ original_of slots w) × (x.1 ≡ n)
          z = slot-given slots.given (original_of slots w) n e

          go : (q : Option ℕ) → slot_of slots v ≡ q → original_of slots w ≡ original_of slots v
          go None h = absurd (next-other slots z.0 z.1 (z.3 ∙ own-next slots v h))
          go (Some m) h =
              let y = slot-given slots.given (original_of slots v) m h in
              sym z.2 ∙ (knows.once z.0 y.0 z.1 y.1 (z.3 ∙ (own-given slots v m h ∙ sym y.3)) ∙ y.2)

      had-slot : (w m : ℕ) (p : Point) → w < length f.classes → slot_of slots w ≡ Some m → RangePoint t g w p → SlotPoint t g m p → ⊥
      had-slot w m p h e r z = go (was-slot m p z)
        where
          y : (w ≡ v → ⊥) × RangePoint t f w (to p)
          y = was-range w p h r

          go : SlotPoint t f m (to p) ⊎ ((m ≡ n) × RangePoint t f v (to p)) → ⊥
          go (inl x) = apart.slots w m h e (to p) y.1.0 x.0 x.1 y.1.1 x.2
          go (inr x) = apart.ranges w v h is-range y.0 (siblings w (e ∙ ap Some x.0)) (to p) y.1 x.1

      gets-slot : (w m : ℕ) (p : Point) → w < length f.classes → slot_of slots v ≡ None → original_of slots w ≡ original_of slots v → m ≡ n → RangePoint t g w p → SlotPoint t g m p → ⊥
      gets-slot w m p h none same e r z = go (was-slot m p z)
        where
          y : (w ≡ v → ⊥) × RangePoint t f w (to p)
          y = was-range w p h r

          go : SlotPoint t f m (to p) ⊎ ((m ≡ n) × RangePoint t f v (to p)) → ⊥
          go (inl x) = next-nowhere t f slots apart (to p) (subst (λ k. SlotPoint t f k (to p)) (e ∙ own-next slots v none) x)
          go (inr x) = apart.ranges w v h is-range y.0 same (to p) y.1 x.1

      new-slots : (w m : ℕ) → w < length g.classes → slot_of new w ≡ Some m → SlotApart t g w m
      new-slots w m h e p k j u a b = go (old-or-tiny w h)
        where
          tiny : length f.classes ≤ w → original_of new w ≡ w → ⊥
          tiny l same = let z = slot-given new.given (original_of new w) m e in let x = owners-old z.0 z.1 in let y = z.2 ∙ same in omega (arith, x, y, l)

          given : w < length f.classes → Given new → ⊥
          given x (inl q) = had-slot w m p x (ap (slot_among slots.given) (sym (original-stays w x)) ∙ (ap (λ gs. slot_among gs (original_of new w)) (sym q) ∙ e)) (k, a) (j, u, b)
          given x (inr q) = by (slot-either slots.given (original_of slots v) n (original_of new w) m (ap (λ gs. slot_among gs (original_of new w)) (sym q.1) ∙ e))
            where
              by : (slot_among slots.given (original_of new w) ≡ Some m) ⊎ ((original_of new w ≡ original_of slots v) × (m ≡ n)) → ⊥
              by (inl z) = had-slot w m p x (ap (slot_among slots.given) (sym (original-stays w x)) ∙ z) (k, a) (j, u, b)
              by (inr z) = gets-slot w m p x q.0 (sym (original-stays w x) ∙ z.0) z.1 (k, a) (j, u, b)

          go : OldOrTiny w → ⊥
          go (inl x) = given x given-are
          go (inr x) = tiny x.0 x.1

      number-grows : (m : ℕ) → has_number (given_numbers slots.given) m ≡ true → has_number (given_numbers new.given) m ≡ true
      number-grows m h = go given-are
        where
          go : Given new → has_number (given_numbers new.given) m ≡ true
          go (inl e) = ap (λ gs. has_number (given_numbers gs) m) e ∙ h
          go (inr z) = ap (λ gs. has_number (given_numbers gs) m) z.1 ∙ (more slots.given h)
            where
              more : (gs : List (ℕ × ℕ)) → has_number (given_numbers gs) m ≡ true → has_number (given_numbers (gs ++ (original_of slots v, n) ∷ [])) m ≡ true
              more [] e = absurd (cc)
              more (x ∷ gs) e = by (nat_eq m x.1) e (more gs)
                where
                  by : (b : Bool) → (b || has_number (given_numbers gs) m) ≡ true → (has_number (given_numbers gs) m ≡ true → has_number (given_numbers (gs ++ (original_of slots v, n) ∷ [])) m ≡ true) → (b || has_number (given_numbers (gs ++ (original_of slots v, n) ∷ [])) m) ≡ true
                  by true e ih = refl
                  by false e ih = ih e

      new-given : (m : ℕ) (p : Point) → SlotPoint t g m p → has_number (given_numbers new.given) m ≡ true
      new-given m p z = go (was-slot m p z)
        where
          go : SlotPoint t f m (to p) ⊎ ((m ≡ n) × RangePoint t f v (to p)) → has_number (given_numbers new.given) m ≡ true
          go (inl x) = number-grows m (apart.given m (to p) x)
          go (inr x) =
              ap (has_number (given_numbers new.given)) x.0
              ∙ own-is-given (names-named t g n (occupied-named t g low n p (subst (λ k. SlotPoint t g k p) x.0 z)))

      new-apart : AreSiblingsApart t g new
      new-apart = record { ranges = new-ranges; slots = new-slots; given = new-given }

pub spill-keeps-siblings : SpillKeepsSiblings
spill-keeps-siblings t f g slots after v made low h spill points knows apart =
    let z = setting_of t f slots v spill.facts in
    subst (λ q. KnowsOriginals g q × AreSiblingsApart t g q) (sym spill.slot)
    (subst (λ q. KnowsOriginals q (slots_after slots z) × AreSiblingsApart t q (slots_after slots z)) (sym spill.func) (
      new-knows t f slots v spill.facts h knows,
      new-apart t f slots v spill.facts h knows (subst (IsLowered t) spill.func low) (subst (SpillPoints t f v (own_slot slots v)) spill.func points) apart,
    ))
