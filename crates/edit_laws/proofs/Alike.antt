-- Items that treat a lane alike, by tests.
use Rattle.std.proofs.Common.{◌≡◌, ◌++◌, ◌⊎◌, ◌∙◌, ◌&&◌, ℕ, Bool, true, false, refl, sym, ap, subst, inl, inr}
use Rattle.std.specs.Bool.{beq}
use Rattle.std.specs.List.{list_any}
use Rattle.std.proofs.lemmas.Bool.{and_from, and_parts}
use Rattle.meaning.specs.declared.types.Fill.{Fill}
use Rattle.meaning.specs.declared.types.Fill.TheVariants.{Computed, Moved}
use Rattle.meaning.specs.declared.types.Lane.{Lane}
use Rattle.meaning.specs.declared.types.Lane.TheVariants.{SlotLane}
use Rattle.meaning.specs.declared.types.Source.{Source}
use Rattle.meaning.specs.declared.types.Source.TheVariants.{Bits, FromLane, Undef}
use Rattle.meaning.specs.declared.types.Write.{Write}
use Rattle.meaning.specs.Code.{Item}
use Rattle.meaning.specs.Lanes.{Writes, filled, same_lane}
use Rattle.meaning.specs.Live.{Among, Feeds, Writing, WritingEarly, exits_of, in_order, is_slot, reads_of, writes_of}
use Rattle.instr_effects.proofs.Members.{left-in, right-in}
use Rattle.laws.proofs.Quiet.{same-refl, same-true}
use Rattle.live_laws.proofs.Effects.Lists.{all-of, any-in}
use Rattle.live_laws.proofs.Touch.Cells.{any-of}
use Rattle.edit_laws.specs.Named.{Copies, itself, at_width}
use Rattle.edit_laws.specs.Treated.{give_alike, gives, is_lane, is_moved, reads_lane, treat_alike, writes_early, writes_lane}
use Rattle.edit_laws.proofs.Beside.{DoesToo, IsClosed, IsKept, IsRead, feeds-case, is_inside, kept-or-written, stored}

same-test : (a b : Bool) → beq a b ≡ true → a ≡ b
same-test true true e = refl
same-test false false e = refl
same-test true false e = absurd (cc)
same-test false true e = absurd (cc)

-- what the tests tell

lane-of : (s : Source) (l : Lane) → is_lane l s ≡ true → s ≡ FromLane l
lane-of (FromLane m) l e = ap FromLane (same-true m l e)
lane-of Undef l e = absurd (cc)
lane-of (Bits c low width) l e = absurd (cc)

moved-of : (x : Fill) (l : Lane) → is_moved l x ≡ true → x ≡ Moved (FromLane l)
moved-of (Moved s) l e = ap Moved (lane-of s l e)
moved-of (Computed n) l e = absurd (cc)

read-told : (i : Item) (l : Lane) → IsRead i l → reads_lane (reads_of i) l ≡ true
read-told i l z = any-in (list_any (is_lane l)) z.0 (reads_of i) z.1 (any-in (is_lane l) (FromLane l) z.0 z.2 (same-refl l))

read-of : (i : Item) (l : Lane) → reads_lane (reads_of i) l ≡ true → IsRead i l
read-of i l e =
    let z = any-of (list_any (is_lane l)) (reads_of i) e in
    let y = any-of (is_lane l) z.0 z.2 in
    (z.0, z.1, subst (λ s. Among s z.0) (lane-of y.0 l y.2) y.1)

written-told : (i : Item) (l : Lane) → Writing i l → writes_lane (writes_of i) l ≡ true
written-told i l z = any-in (λ (w : Write). same_lane w.lane l) z.0 (writes_of i) z.1 (ap (λ a. same_lane a l) z.2 ∙ same-refl l)

written-of : (i : Item) (l : Lane) → writes_lane (writes_of i) l ≡ true → Writing i l
written-of i l e = let z = any-of (λ (w : Write). same_lane w.lane l) (writes_of i) e in (z.0, z.1, same-true z.0.lane l z.2)

early-told : (i : Item) (l : Lane) → WritingEarly i l → writes_early (writes_of i) l ≡ true
early-told i l z = any-in (λ (w : Write). same_lane w.lane l && w.early) z.0 (writes_of i) z.1 (and_from _ _ (ap (λ a. same_lane a l) z.2 ∙ same-refl l) z.3)

early-of : (i : Item) (l : Lane) → writes_early (writes_of i) l ≡ true → WritingEarly i l
early-of i l e =
    let z = any-of (λ (w : Write). same_lane w.lane l && w.early) (writes_of i) e in
    let y = and_parts (same_lane z.0.lane l) z.0.early z.2 in
    (z.0, z.1, same-true z.0.lane l y.0, y.1)

-- where they agree on what is written, they agree on every lane
give-same : (ws vs : Writes) (l : Lane) → give_alike ws vs l ≡ true → (a : Lane) → gives ws l a ≡ gives vs l a
give-same ws vs l e a = go (kept-or-written ws a) (kept-or-written vs a)
  where
    at : (w : Write) → Among w (ws ++ vs) → w.lane ≡ a → gives ws l a ≡ gives vs l a
    at w m h = subst (λ b. gives ws l b ≡ gives vs l b) h (same-test (gives ws l w.lane) (gives vs l w.lane) (all-of (λ (v : Write). beq (gives ws l v.lane) (gives vs l v.lane)) w (ws ++ vs) m e))

    go : (filled ws a ≡ Moved (FromLane a)) ⊎ ((w : Write) × Among w ws × (w.lane ≡ a)) → (filled vs a ≡ Moved (FromLane a)) ⊎ ((w : Write) × Among w vs × (w.lane ≡ a)) → gives ws l a ≡ gives vs l a
    go (inl h) (inl g) = ap (is_moved l) (h ∙ sym g)
    go (inl h) (inr z) = at z.0 (right-in z.0 ws vs z.1) z.2
    go (inr z) g = at z.0 (left-in z.0 ws vs z.1) z.2

-- the items do the same to a lane
record AreSame (i j : Item) (l : Lane) : Type 0 where
  reads : reads_lane (reads_of i) l ≡ reads_lane (reads_of j) l
  writes : writes_lane (writes_of i) l ≡ writes_lane (writes_of j) l
  early : writes_early (writes_of i) l ≡ writes_early (writes_of j) l
  given : (a : Lane) → gives (writes_of i) l a ≡ gives (writes_of j) l a

are-same : (i j : Item) (l : Lane) → treat_alike i j l ≡ true → AreSame i j l
are-same i j l e =
    let p = and_parts _ _ e in
    let q = and_parts _ _ p.1 in
    let r = and_parts _ _ q.1 in
    record {
      reads = same-test _ _ p.0;
      writes = same-test _ _ q.0;
      early = same-test _ _ r.0;
      given = give-same (writes_of i) (writes_of j) l r.1;
    }

turned-same : (i j : Item) (l : Lane) → AreSame i j l → AreSame j i l
turned-same i j l h = record { reads = sym h.reads; writes = sym h.writes; early = sym h.early; given = λ a. sym (h.given a) }

fed-same : (i j : Item) (l : Lane) → AreSame i j l → (a : Lane) → Feeds i l a → Feeds j l a
fed-same i j l h a f = moved-of (filled (writes_of j) a) l (sym (h.given a) ∙ (ap (is_moved l) f ∙ same-refl l))

module _ (Led : Lane → Type 0) (i : Item) (closed : IsClosed Led i) where
  -- what feeds one of these lanes is one of them

  fed-in : (l a : Lane) → Feeds i l a → Led a → Led l
  fed-in l a f d = go (feeds-case i l a f)
    where
      go : (l ≡ a) ⊎ Copies i l a → Led l
      go (inl e) = subst Led (sym e) d
      go (inr m) = closed l a a m itself d

  stored-in : (l : Lane) (s k w x : ℕ) → is_slot l ≡ false → Feeds i l (SlotLane s k w) → Led (SlotLane s k x) → Led l
  stored-in l s k w x ns f d = closed l (SlotLane s k w) (SlotLane s k x) (stored i l s k w ns f) at_width d

  module _ (j : Item) (inside : is_inside i ≡ is_inside j) (exits : exits_of i ≡ exits_of j) (order : in_order i ≡ in_order j) (told : (l : Lane) → AreSame i j l ⊎ Led l) where
    does-forth : DoesToo Led i j
    does-forth = record {
      read = λ l z. read l z (told l);
      fed = λ l a f. fed l a f (told l);
      written = λ l w. written l w (told l);
      early = λ l w. early l w (told l);
      closed = fed-in;
      stored = stored-in;
    }
      where
        read : (l : Lane) → IsRead i l → AreSame i j l ⊎ Led l → IsRead j l ⊎ Led l
        read l z (inl h) = inl (read-of j l (sym h.reads ∙ read-told i l z))
        read l z (inr d) = inr d

        fed : (l a : Lane) → Feeds i l a → AreSame i j l ⊎ Led l → Feeds j l a ⊎ Led l
        fed l a f (inl h) = inl (fed-same i j l h a f)
        fed l a f (inr d) = inr d

        written : (l : Lane) → Writing i l → AreSame i j l ⊎ Led l → Writing j l ⊎ Led l
        written l w (inl h) = inl (written-of j l (sym h.writes ∙ written-told i l w))
        written l w (inr d) = inr d

        early : (l : Lane) → WritingEarly i l → AreSame i j l ⊎ Led l → WritingEarly j l ⊎ Led l
        early l w (inl h) = inl (early-of j l (sym h.early ∙ early-told i l w))
        early l w (inr d) = inr d

    does-back : DoesToo Led j i
    does-back = record {
      read = λ l z. read l z (told l);
      fed = λ l a f. fed l a f (told l);
      written = λ l w. written l w (told l);
      early = λ l w. early l w (told l);
      closed = λ l a f d. by l (λ g. fed-in l a g d) (fed l a f (told l));
      stored = λ l s k w x ns f d. by l (λ g. stored-in l s k w x ns g d) (fed l (SlotLane s k w) f (told l));
    }
      where
        read : (l : Lane) → IsRead j l → AreSame i j l ⊎ Led l → IsRead i l ⊎ Led l
        read l z (inl h) = inl (read-of i l (h.reads ∙ read-told j l z))
        read l z (inr d) = inr d

        fed : (l a : Lane) → Feeds j l a → AreSame i j l ⊎ Led l → Feeds i l a ⊎ Led l
        fed l a f (inl h) = inl (fed-same j i l (turned-same i j l h) a f)
        fed l a f (inr d) = inr d

        written : (l : Lane) → Writing j l → AreSame i j l ⊎ Led l → Writing i l ⊎ Led l
        written l w (inl h) = inl (written-of i l (h.writes ∙ written-told j l w))
        written l w (inr d) = inr d

        early : (l : Lane) → WritingEarly j l → AreSame i j l ⊎ Led l → WritingEarly i l ⊎ Led l
        early l w (inl h) = inl (early-of i l (h.early ∙ early-told j l w))
        early l w (inr d) = inr d

        by : {A : Type 0} (l : Lane) → (A → Led l) → A ⊎ Led l → Led l
        by l on (inl g) = on g
        by l on (inr d) = d

    kept : IsKept Led i j
    kept = record { inside = inside; exits = exits; order = order; forth = does-forth; back = does-back }

-- items that are the same to lanes
pub same-kept : (Led : Lane → Type 0) (i j : Item) → IsClosed Led i → is_inside i ≡ is_inside j → exits_of i ≡ exits_of j → in_order i ≡ in_order j → reads_of i ≡ reads_of j → writes_of i ≡ writes_of j → IsKept Led i j
same-kept Led i j closed inside exits order reads writes =
    kept Led i closed j inside exits order
    (λ l. inl (record {
      reads = ap (λ rs. reads_lane rs l) reads;
      writes = ap (λ ws. writes_lane ws l) writes;
      early = ap (λ ws. writes_early ws l) writes;
      given = λ a. ap (λ ws. gives ws l a) writes;
    }))

-- items that treat all other lanes alike
pub treated-kept : (Led : Lane → Type 0) (i j : Item) → IsClosed Led i → is_inside i ≡ is_inside j → exits_of i ≡ exits_of j → in_order i ≡ in_order j → ((l : Lane) → treat_alike i j l ≡ false → Led l) → IsKept Led i j
treated-kept Led i j closed inside exits order differ = kept Led i closed j inside exits order (λ l. told l (treat_alike i j l) refl)
  where
    told : (l : Lane) (u : Bool) → treat_alike i j l ≡ u → AreSame i j l ⊎ Led l
    told l true e = inl (are-same i j l e)
    told l false e = inr (differ l e)
