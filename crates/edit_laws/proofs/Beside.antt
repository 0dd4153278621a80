-- A code and an edit of it: a lane that is live at a place of the one is live at the same place of the other, or it leads to an edited lane.
use Rattle.std.proofs.Common.{◌≡◌, ◌⊎◌, ◌∙◌, ℕ, Bool, true, false, cond, List, [], ◌∷◌, refl, sym, ap, subst, inl, inr}
use Rattle.std.specs.Prelude.{nat_eq}
use Rattle.meaning.specs.declared.types.Lane.{Lane}
use Rattle.meaning.specs.declared.types.Lane.TheVariants.{SlotLane}
use Rattle.meaning.specs.declared.types.Source.{Source}
use Rattle.meaning.specs.declared.types.Source.TheVariants.{FromLane}
use Rattle.meaning.specs.declared.types.Fill.TheVariants.{Moved}
use Rattle.meaning.specs.declared.types.Write.{Write}
use Rattle.meaning.specs.Lanes.{Writes, filled, same_lane}
use Rattle.meaning.specs.Code.{Edge, Item, BlockStart, BlockEnd, Silent, Counted, Code, found}
use Rattle.meaning.specs.Live.{Among, here, there, reads_of, writes_of, exits_of, in_order, Feeds, is_slot, Live, read, next, leap, phi, store, kept, LiveAfter, after_next, after_leap, after_phi, Writing, WritingEarly, OccupiedBefore, OccupiedAfter}
use Rattle.mir_meaning.specs.Points.{AtFirst}
use Rattle.laws.proofs.Flow.{lane-inj, none_among}
use Rattle.laws.proofs.Quiet.{same-true}
use Rattle.edit_laws.specs.Named.{Copies, Names, reads, copies, writes, IsOneLane}

-- no block begins with the item
abbrev pub is_inside : Item → Bool
is_inside (BlockStart n) = false
is_inside (BlockEnd falls exits) = true
is_inside (Silent asked ws) = true
is_inside (Counted r asked ws target exits) = true

-- the item copies no other lane into one of these
abbrev pub IsClosed : (Lane → Type 0) → Item → Type 0
IsClosed Led i = (l a c : Lane) → Copies i l a → IsOneLane a c → Led c → Led l

-- it names these lanes alone
abbrev pub NamesOnly : (Lane → Type 0) → Item → Type 0
NamesOnly Led i = (l : Lane) → Names i l → Led l

-- an item that is there in one code alone
pub record IsAlone (Led : Lane → Type 0) (i : Item) : Type 0 where
  pub inside : is_inside i ≡ true
  pub order : in_order i ≡ true
  pub exits : exits_of i ≡ []
  pub names : NamesOnly Led i

-- the item reads the lane
abbrev pub IsRead : Item → Lane → Type 0
IsRead i l = (ss : List Source) × Among ss (reads_of i) × Among (FromLane l) ss

-- what the first item does to another lane than these the second does too, and it gives none of them to one of these
pub record DoesToo (Led : Lane → Type 0) (i j : Item) : Type 0 where
  pub read : (l : Lane) → IsRead i l → IsRead j l ⊎ Led l
  pub fed : (l a : Lane) → Feeds i l a → Feeds j l a ⊎ Led l
  pub written : (l : Lane) → Writing i l → Writing j l ⊎ Led l
  pub early : (l : Lane) → WritingEarly i l → WritingEarly j l ⊎ Led l
  pub closed : (l a : Lane) → Feeds i l a → Led a → Led l
  pub stored : (l : Lane) (s k w x : ℕ) → is_slot l ≡ false → Feeds i l (SlotLane s k w) → Led (SlotLane s k x) → Led l

-- items that do the same to all other lanes, and from which paths lead on alike
pub record IsKept (Led : Lane → Type 0) (i j : Item) : Type 0 where
  pub inside : is_inside i ≡ is_inside j
  pub exits : exits_of i ≡ exits_of j
  pub order : in_order i ≡ in_order j
  pub forth : DoesToo Led i j
  pub back : DoesToo Led j i

-- places of two codes whose items do the same to all lanes but these
pub data Beside (Led : Lane → Type 0) : Code → Code → Type 0 where
  none : Beside Led [] []
  starts : {n : ℕ} {p q : Code} → Beside Led p q → Beside Led (BlockStart n ∷ p) (BlockStart n ∷ q)
  stays : {i j : Item} {p q : Code} → is_inside i ≡ true → IsKept Led i j → Beside Led p q → Beside Led (i ∷ p) (j ∷ q)
  goes : {i : Item} {p q : Code} → IsAlone Led i → Beside Led p q → Beside Led (i ∷ p) q
  comes : {j : Item} {p q : Code} → IsAlone Led j → Beside Led p q → Beside Led p (j ∷ q)

-- the same from the other side

pub kept-turned : {Led : Lane → Type 0} {i j : Item} → IsKept Led i j → IsKept Led j i
kept-turned h = record { inside = sym h.inside; exits = sym h.exits; order = sym h.order; forth = h.back; back = h.forth }

pub turned : {Led : Lane → Type 0} {p q : Code} → Beside Led p q → Beside Led q p
turned none = none
turned (starts b) = starts (turned b)
turned (stays g h b) = stays (sym h.inside ∙ g) (kept-turned h) (turned b)
turned (goes h b) = comes h (turned b)
turned (comes h b) = goes h (turned b)

-- blocks are found side by side

found-inside : (n : ℕ) (i : Item) (p : Code) → is_inside i ≡ true → found n (i ∷ p) ≡ found n p
found-inside n (BlockStart m) p e = absurd (cc)
found-inside n (BlockEnd falls exits) p e = refl
found-inside n (Silent asked ws) p e = refl
found-inside n (Counted r asked ws target exits) p e = refl

placed : {Led : Lane → Type 0} {p q r s : Code} → p ≡ r → q ≡ s → Beside Led p q → Beside Led r s
placed {Led = Led} {p = p} {q = q} {r = r} {s = s} e g b = subst (λ x. Beside Led x s) e (subst (λ y. Beside Led p y) g b)

pub found-beside : {Led : Lane → Type 0} {p q : Code} (n : ℕ) → Beside Led p q → Beside Led (found n p) (found n q)
found-beside n none = none
found-beside {Led = Led} n (starts {n = m} {p = p} {q = q} b) = go (nat_eq m n) (found-beside n b)
  where
    go : (u : Bool) → Beside Led (found n p) (found n q) → Beside Led (cond u p (found n p)) (cond u q (found n q))
    go true f = b
    go false f = f
found-beside n (stays {i = i} {j = j} {p = p} {q = q} g h b) = placed (sym (found-inside n i p g)) (sym (found-inside n j q (sym h.inside ∙ g))) (found-beside n b)
found-beside n (goes {i = i} {p = p} h b) = placed (sym (found-inside n i p h.inside)) refl (found-beside n b)
found-beside n (comes {j = j} {q = q} h b) = placed refl (sym (found-inside n j q h.inside)) (found-beside n b)

-- an item that has a place in the first code, and where the second code goes on behind what came before it
pub data Met (Led : Lane → Type 0) (i : Item) (p : Code) : Code → Type 0 where
  at_kept : {j : Item} {q : Code} → IsKept Led i j → Beside Led p q → Met Led i p (j ∷ q)
  at_none : {q : Code} → IsAlone Led i → Beside Led p q → Met Led i p q

start-does : (Led : Lane → Type 0) (n : ℕ) → DoesToo Led (BlockStart n) (BlockStart n)
start-does Led n = record {
  read = λ l z. inl z;
  fed = λ l a f. inl f;
  written = λ l w. inl w;
  early = λ l w. inl w;
  closed = λ l a f d. subst Led (lane-inj a l f) d;
  stored = λ l s k w x ns f d. absurd (let z : true ≡ false = ap is_slot (lane-inj (SlotLane s k w) l f) ∙ ns in cc);
}

start-kept : (Led : Lane → Type 0) (n : ℕ) → IsKept Led (BlockStart n) (BlockStart n)
start-kept Led n = record { inside = refl; exits = refl; order = refl; forth = start-does Led n; back = start-does Led n }

-- what came before the item is passed
peel : {Led : Lane → Type 0} {i : Item} {p q : Code} (Goal : Code → Type 0) → ((j : Item) (r : Code) → IsAlone Led j → Goal r → Goal (j ∷ r)) → ((r : Code) → Met Led i p r → Goal r) → Beside Led (i ∷ p) q → Goal q
peel {Led = Led} Goal past on (starts {n = n} {q = r} b) = on (BlockStart n ∷ r) (at_kept (start-kept Led n) b)
peel Goal past on (stays {j = j} {q = r} g h b) = on (j ∷ r) (at_kept h b)
peel Goal past on (goes {q = r} h b) = on r (at_none h b)
peel Goal past on (comes {j = j} {q = r} h b) = past j r h (peel Goal past on b)

-- what a lane has after writes

filled-case : (ws : Writes) (l a : Lane) → filled ws a ≡ Moved (FromLane l) → (l ≡ a) ⊎ ((w : Write) × Among w ws × (w.lane ≡ a) × (w.fill ≡ Moved (FromLane l)))
filled-case [] l a e = inl (sym (lane-inj a l e))
filled-case (v ∷ ws) l a e = go (same_lane v.lane a) refl (filled-case ws l a)
  where
    more : (l ≡ a) ⊎ ((w : Write) × Among w ws × (w.lane ≡ a) × (w.fill ≡ Moved (FromLane l))) → (l ≡ a) ⊎ ((w : Write) × Among w (v ∷ ws) × (w.lane ≡ a) × (w.fill ≡ Moved (FromLane l)))
    more (inl h) = inl h
    more (inr h) = inr (h.0, there h.1, h.2, h.3)

    go : (u : Bool) → same_lane v.lane a ≡ u → (filled ws a ≡ Moved (FromLane l) → (l ≡ a) ⊎ ((w : Write) × Among w ws × (w.lane ≡ a) × (w.fill ≡ Moved (FromLane l)))) → (l ≡ a) ⊎ ((w : Write) × Among w (v ∷ ws) × (w.lane ≡ a) × (w.fill ≡ Moved (FromLane l)))
    go true t on = inr (v, here, same-true v.lane a t, sym (ap (λ c. cond c v.fill (filled ws a)) t) ∙ e)
    go false t on = more (on (sym (ap (λ c. cond c v.fill (filled ws a)) t) ∙ e))

pub kept-or-written : (ws : Writes) (l : Lane) → (filled ws l ≡ Moved (FromLane l)) ⊎ ((w : Write) × Among w ws × (w.lane ≡ l))
kept-or-written [] l = inl refl
kept-or-written (v ∷ ws) l = go (same_lane v.lane l) refl (kept-or-written ws l)
  where
    go : (u : Bool) → same_lane v.lane l ≡ u → (filled ws l ≡ Moved (FromLane l)) ⊎ ((w : Write) × Among w ws × (w.lane ≡ l)) → (filled (v ∷ ws) l ≡ Moved (FromLane l)) ⊎ ((w : Write) × Among w (v ∷ ws) × (w.lane ≡ l))
    go true t r = inr (v, here, same-true v.lane l t)
    go false t (inl h) = inl (ap (λ c. cond c v.fill (filled ws l)) t ∙ h)
    go false t (inr h) = inr (h.0, there h.1, h.2)

pub feeds-case : (i : Item) (l a : Lane) → Feeds i l a → (l ≡ a) ⊎ Copies i l a
feeds-case i l a f = filled-case (writes_of i) l a f

-- a lane that isn't the slot's is stored
pub stored : (i : Item) (l : Lane) (s k w : ℕ) → is_slot l ≡ false → Feeds i l (SlotLane s k w) → Copies i l (SlotLane s k w)
stored i l s k w ns f = go (feeds-case i l (SlotLane s k w) f)
  where
    go : (l ≡ SlotLane s k w) ⊎ Copies i l (SlotLane s k w) → Copies i l (SlotLane s k w)
    go (inl e) = absurd (let z : true ≡ false = sym (ap is_slot e) ∙ ns in cc)
    go (inr m) = m

-- a lane that takes part goes to a reserved one
pub kept-copy : (reserved : Lane → Bool) (i : Item) (l a : Lane) → reserved l ≡ false → reserved a ≡ true → Feeds i l a → Copies i l a
kept-copy reserved i l a free r f = go (feeds-case i l a f)
  where
    go : (l ≡ a) ⊎ Copies i l a → Copies i l a
    go (inl e) = absurd (let z : true ≡ false = sym r ∙ (ap reserved (sym e) ∙ free) in cc)
    go (inr m) = m

module _ (reserved : Lane → Bool) (Led : Lane → Type 0) (first second : Code) (beside : Beside Led first second) where
  -- live in the second code, or one of the lanes
  abbrev Goal : Lane → Code → Type 0
  Goal l q = Live reserved second q l ⊎ Led l

  abbrev After : Item → Code → Lane → Type 0
  After j q b = LiveAfter reserved second j q b ⊎ Led b

  live-behind : (j : Item) (q : Code) (l b : Lane) → LiveAfter reserved second j q b → Feeds j l b → reserved l ≡ false → Live reserved second (j ∷ q) l
  live-behind j q l b (after_next o h) f r = next o h f r
  live-behind j q l b (after_leap m h g) f r = leap m h g f r
  live-behind j q l b (after_phi m w g) f r = phi m w g f r

  past : (l : Lane) → reserved l ≡ false → (j : Item) (r : Code) → IsAlone Led j → Goal l r → Goal l (j ∷ r)
  past l free j r alone (inr d) = inr d
  past l free j r alone (inl h) = go (kept-or-written (writes_of j) l)
    where
      go : Feeds j l l ⊎ Writing j l → Goal l (j ∷ r)
      go (inl f) = inl (next alone.order h f free)
      go (inr w) = inr (alone.names l (writes w))

  by-next : (j : Item) (q : Code) (a : Lane) → in_order j ≡ true → Goal a q → After j q a
  by-next j q a o (inl h) = inl (after_next o h)
  by-next j q a o (inr d) = inr d

  by-leap : (j : Item) (q : Code) (e : Edge) (a b : Lane) → Among e (exits_of j) → filled e.phis a ≡ Moved (FromLane b) → Goal a (found e.block second) → After j q b
  by-leap j q e a b m g (inl h) = inl (after_leap m h g)
  by-leap j q e a b m g (inr d) = go (filled-case e.phis b a g)
    where
      go : (b ≡ a) ⊎ ((w : Write) × Among w e.phis × (w.lane ≡ a) × (w.fill ≡ Moved (FromLane b))) → After j q b
      go (inl s) = inr (subst Led (sym s) d)
      go (inr w) = inl (after_phi m w.1 w.3)

  -- what feeds a lane behind an item, before its counterpart
  fed-kept : (i j : Item) (q : Code) → IsKept Led i j → (l b : Lane) → reserved l ≡ false → Feeds i l b → After j q b → Goal l (j ∷ q)
  fed-kept i j q k l b free f behind = go (k.forth.fed l b f) behind
    where
      go : Feeds j l b ⊎ Led l → After j q b → Goal l (j ∷ q)
      go (inl g) (inl h) = inl (live-behind j q l b h g free)
      go (inl g) (inr d) = inr (k.forth.closed l b f d)
      go (inr d) h = inr d

  fed-none : (i : Item) (q : Code) → IsAlone Led i → (l a : Lane) → Feeds i l a → Goal a q → Goal l q
  fed-none i q k l a f h = go (feeds-case i l a f)
    where
      go : (l ≡ a) ⊎ Copies i l a → Goal l q
      go (inl e) = subst (λ x. Goal x q) (sym e) h
      go (inr m) = inr (k.names l (copies a m))

  no-exit : (i : Item) → IsAlone Led i → (e : Edge) → Among e (exits_of i) → ⊥
  no-exit i k e m = none_among e (subst (Among e) k.exits m)

  pub still : {p : Code} {l : Lane} → Live reserved first p l → (q : Code) → Beside Led p q → Goal l q
  still (read {i = i} {p = p} {ss = ss} {l = l} m s free) q b = peel (Goal l) (past l free) on b
    where
      too : (j : Item) (r : Code) → IsRead j l ⊎ Led l → Goal l (j ∷ r)
      too j r (inl z) = inl (read z.1 z.2 free)
      too j r (inr d) = inr d

      on : (r : Code) → Met Led i p r → Goal l r
      on r (at_kept {j = j} {q = y} k c) = too j y (k.forth.read l (ss, m, s))
      on r (at_none k c) = inr (k.names l (reads ss m s))
  still (next {i = i} {p = p} {l = l} {a = a} o h f free) q b = peel (Goal l) (past l free) (on (λ r c. still h r c)) b
    where
      on : ((r : Code) → Beside Led p r → Goal a r) → (r : Code) → Met Led i p r → Goal l r
      on ih r (at_kept {j = j} {q = y} k c) = fed-kept i j y k l a free f (by-next j y a (sym k.order ∙ o) (ih y c))
      on ih r (at_none k c) = fed-none i r k l a f (ih r c)
  still (leap {i = i} {p = p} {e = e} {l = l} {a = a} {b = d} m h g f free) q b = peel (Goal l) (past l free) (on (still h (found e.block second) (found-beside e.block beside))) b
    where
      on : Goal a (found e.block second) → (r : Code) → Met Led i p r → Goal l r
      on ih r (at_kept {j = j} {q = y} k c) = fed-kept i j y k l d free f (by-leap j y e a d (subst (Among e) k.exits m) g ih)
      on ih r (at_none k c) = absurd (no-exit i k e m)
  still (phi {i = i} {p = p} {e = e} {w = w} {l = l} {b = d} m n g f free) q b = peel (Goal l) (past l free) on b
    where
      on : (r : Code) → Met Led i p r → Goal l r
      on r (at_kept {j = j} {q = y} k c) = fed-kept i j y k l d free f (inl (after_phi (subst (Among e) k.exits m) n g))
      on r (at_none k c) = absurd (no-exit i k e m)
  still (store w {i = i} {p = p} {s = s} {k = n} {x = x} {l = l} o h f ns free) q b = peel (Goal l) (past l free) (on (λ r c. still h r c)) b
    where
      behind : (j : Item) (r : Code) → IsKept Led i j → Feeds j l (SlotLane s n w) ⊎ Led l → Goal (SlotLane s n x) r → Goal l (j ∷ r)
      behind j r k (inl g) (inl y) = inl (store w (sym k.order ∙ o) y g ns free)
      behind j r k (inl g) (inr d) = inr (k.forth.stored l s n w x ns f d)
      behind j r k (inr d) y = inr d

      on : ((r : Code) → Beside Led p r → Goal (SlotLane s n x) r) → (r : Code) → Met Led i p r → Goal l r
      on ih r (at_kept {j = j} {q = y} k c) = behind j y k (k.forth.fed l (SlotLane s n w) f) (ih y c)
      on ih r (at_none k c) = inr (k.names l (copies (SlotLane s n w) (stored i l s n w ns f)))
  still (kept {i = i} {p = p} {l = l} {a = a} u f free) q b = peel (Goal l) (past l free) on b
    where
      too : (j : Item) (r : Code) → Feeds j l a ⊎ Led l → Goal l (j ∷ r)
      too j r (inl g) = inl (kept u g free)
      too j r (inr d) = inr d

      on : (r : Code) → Met Led i p r → Goal l r
      on r (at_kept {j = j} {q = y} k c) = too j y (k.forth.fed l a f)
      on r (at_none k c) = inr (k.names l (copies a (kept-copy reserved i l a free u f)))

  -- the same at the exits of two items
  pub still-after : (i j : Item) (p q : Code) (b : Lane) → exits_of i ≡ exits_of j → in_order i ≡ in_order j → Beside Led p q → LiveAfter reserved first i p b → After j q b
  still-after i j p q b exits order c (after_next o h) = by-next j q b (sym order ∙ o) (still h q c)
  still-after i j p q b exits order c (after_leap {e = e} {a = a} m h g) = by-leap j q e a b (subst (Among e) exits m) g (still h (found e.block second) (found-beside e.block beside))
  still-after i j p q b exits order c (after_phi {e = e} m n g) = inl (after_phi (subst (Among e) exits m) n g)

-- places at which one instruction stands in both codes, or neither code goes on
pub data Facing (Led : Lane → Type 0) : Code → Code → Type 0 where
  neither : Facing Led [] []
  at_alike : {i j : Item} {p q : Code} → is_inside i ≡ true → IsKept Led i j → Beside Led p q → Facing Led (i ∷ p) (j ∷ q)

pub facing-beside : {Led : Lane → Type 0} {p q : Code} → Facing Led p q → Beside Led p q
facing-beside neither = none
facing-beside (at_alike g h b) = stays g h b

pub facing-turned : {Led : Lane → Type 0} {p q : Code} → Facing Led p q → Facing Led q p
facing-turned neither = neither
facing-turned (at_alike g h b) = at_alike (sym h.inside ∙ g) (kept-turned h) (turned b)

module _ (reserved : Lane → Bool) (Led : Lane → Type 0) (first second : Code) (beside : Beside Led first second) (l : Lane) where
  -- at the exit of an instruction, and where the lane is live or occupied
  abbrev ExitIn : Code → Code → Type 0
  ExitIn code p = AtFirst (λ i r. LiveAfter reserved code i r l) p

  abbrev EntryHeld : Code → Code → Type 0
  EntryHeld code p = AtFirst (λ i r. OccupiedBefore reserved code i r l) p

  abbrev ExitHeld : Code → Code → Type 0
  ExitHeld code p = AtFirst (λ i r. OccupiedAfter reserved code i r l) p

  pub still-exit : {p q : Code} → Facing Led p q → ExitIn first p → ExitIn second q ⊎ Led l
  still-exit neither h = absurd h
  still-exit (at_alike {i = i} {j = j} {p = p} {q = q} g k b) h = still-after reserved Led first second beside i j p q l k.exits k.order b h

  pub still-entry-held : {p q : Code} → Facing Led p q → EntryHeld first p → EntryHeld second q ⊎ Led l
  still-entry-held neither h = absurd h
  still-entry-held (at_alike {i = i} {j = j} {p = p} {q = q} g k b) h = go h.0
    where
      on : Live reserved second (j ∷ q) l ⊎ Led l → EntryHeld second (j ∷ q) ⊎ Led l
      on (inl x) = inl (inl x, h.1)
      on (inr d) = inr d

      too : WritingEarly j l ⊎ Led l → EntryHeld second (j ∷ q) ⊎ Led l
      too (inl w) = inl (inr w, h.1)
      too (inr d) = inr d

      go : Live reserved first (i ∷ p) l ⊎ WritingEarly i l → EntryHeld second (j ∷ q) ⊎ Led l
      go (inl x) = on (still reserved Led first second beside x (j ∷ q) (stays g k b))
      go (inr w) = too (k.forth.early l w)

  pub still-exit-held : {p q : Code} → Facing Led p q → ExitHeld first p → ExitHeld second q ⊎ Led l
  still-exit-held neither h = absurd h
  still-exit-held (at_alike {i = i} {j = j} {p = p} {q = q} g k b) h = go h.0
    where
      on : LiveAfter reserved second j q l ⊎ Led l → ExitHeld second (j ∷ q) ⊎ Led l
      on (inl x) = inl (inl x, h.1)
      on (inr d) = inr d

      too : Writing j l ⊎ Led l → ExitHeld second (j ∷ q) ⊎ Led l
      too (inl w) = inl (inr w, h.1)
      too (inr d) = inr d

      go : LiveAfter reserved first i p l ⊎ Writing i l → ExitHeld second (j ∷ q) ⊎ Led l
      go (inl x) = on (still-after reserved Led first second beside i j p q l k.exits k.order b x)
      go (inr w) = too (k.forth.written l w)
