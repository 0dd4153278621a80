-- What is live behind an edit is bounded, place by place, by what was live before it.
use Rattle.std.proofs.Common.{◌≡◌, ◌++◌, Bool, true, false, ℕ, List, [], ◌∷◌, refl, subst}
use Rattle.meaning.specs.Code.{Code, Edge, Item, found}
use Rattle.meaning.specs.Lanes.{filled}
use Rattle.meaning.specs.Live.{Among as Member, Feeds, Live, LiveAfter, after_leap, after_next, after_phi, exits_of, in_order, is_slot, kept, leap, next, phi, read, reads_of, store}
use Rattle.meaning.specs.declared.types.Fill.TheVariants.{Moved}
use Rattle.meaning.specs.declared.types.Lane.{Lane}
use Rattle.meaning.specs.declared.types.Lane.TheVariants.{SlotLane}
use Rattle.meaning.specs.declared.types.Source.{Source}
use Rattle.meaning.specs.declared.types.Source.TheVariants.{FromLane}
use Rattle.meaning.specs.declared.types.Write.{Write}

head-same : {X : Type 0} (x y : X) (xs ys : List X) → ◌≡◌ {A = List X} (x ∷ xs) (y ∷ ys) → x ≡ y
head-same x y xs ys e = cc

tail-same : {X : Type 0} (x y : X) (xs ys : List X) → ◌≡◌ {A = List X} (x ∷ xs) (y ∷ ys) → xs ≡ ys
tail-same x y xs ys e = cc

-- C is the code before the edit and D the one behind it; `may` tells the lanes that may be live in D at a place of C
module _ (R : Lane → Bool) (C D : Code) (may : Code → Lane → Type 0) where
  -- a lane that an item makes live before it, where these lanes are live behind it in order
  pub data Makes (j : Item) (behind : Lane → Type 0) (l : Lane) : Type 0 where
    reads : {ss : List Source} → Member ss (reads_of j) → Member (FromLane l) ss → Makes j behind l
    feeds : {a : Lane} → in_order j ≡ true → behind a → Feeds j l a → Makes j behind l
    leads : {e : Edge} {a b : Lane} → Member e (exits_of j) → may (found e.block C) a → filled e.phis a ≡ Moved (FromLane b) → Feeds j l b → Makes j behind l
    joins : {e : Edge} {w : Write} {b : Lane} → Member e (exits_of j) → Member w e.phis → w.fill ≡ Moved (FromLane b) → Feeds j l b → Makes j behind l
    stores : (w : ℕ) {n k x : ℕ} → in_order j ≡ true → behind (SlotLane n k x) → Feeds j l (SlotLane n k w) → is_slot l ≡ false → Makes j behind l
    keeps : {a : Lane} → R a ≡ true → Feeds j l a → Makes j behind l

  makes-more : (j : Item) (X Y : Lane → Type 0) → ((a : Lane) → X a → Y a) → (l : Lane) → Makes j X l → Makes j Y l
  makes-more j X Y h l (reads x y) = reads x y
  makes-more j X Y h l (feeds {a = a} o x f) = feeds o (h a x) f
  makes-more j X Y h l (leads x y g f) = leads x y g f
  makes-more j X Y h l (joins x y g f) = joins x y g f
  makes-more j X Y h l (stores w {n = n} {k = k} {x = x} o y f s) = stores w o (h (SlotLane n k x) y) f s
  makes-more j X Y h l (keeps r f) = keeps r f

  -- a lane that items make live before them, where these lanes are live behind them
  abbrev pub Through : List Item → (Lane → Type 0) → Lane → Type 0
  Through [] behind l = behind l
  Through (j ∷ js) behind l = Makes j (Through js behind) l × (R l ≡ false)

  -- Items of C and what stands in their place in D: where lanes that may be live are live behind these, they are live before them.
  abbrev pub IsBounded : List Item → List Item → Code → Type 0
  IsBounded is js p = (l : Lane) → Through js (may p) l → may (is ++ p) l

  -- the code goes on place by place
  pub data Laid : Code → Code → Type 0 where
    nowhere : Laid [] []
    place : (is js : List Item) {p q : Code} → IsBounded is js p → Laid p q → Laid (is ++ p) (js ++ q)

  abbrev Out : Code → Lane → Type 0
  Out q l = (js : List Item) (r p : Code) → q ≡ js ++ r → Laid p r → Through js (may p) l

  module _ (j : Item) (q : Code) (l : Lane) (made : Makes j (Out q) l) (free : R l ≡ false) where
    within : (i : Item) (js : List Item) (r p : Code) → ◌≡◌ {A = Code} (j ∷ q) (i ∷ (js ++ r)) → Laid p r → Through (i ∷ js) (may p) l
    within i js r p e d = (
      makes-more i (Out q) (Through js (may p)) (λ a o. o js r p (tail-same j i q (js ++ r) e) d) l (subst (λ x. Makes x (Out q) l) (head-same j i q (js ++ r) e) made),
      free,
    )

    at-place : {p r : Code} → Laid p r → ◌≡◌ {A = Code} (j ∷ q) r → may p l
    at-place nowhere e = absurd (cc)
    at-place (place is [] h d) e = h l (at-place d e)
    at-place (place is (i ∷ js) {p = p} {q = r} h d) e = h l (within i js r p e d)

    settled : Out (j ∷ q) l
    settled [] r p e d = at-place d e
    settled (i ∷ js) r p e d = within i js r p e d

  -- a lane that is live behind an item within a place
  pub data After (j : Item) (behind : Lane → Type 0) (l : Lane) : Type 0 where
    in-order : in_order j ≡ true → behind l → After j behind l
    along : {e : Edge} {a : Lane} → Member e (exits_of j) → may (found e.block C) a → filled e.phis a ≡ Moved (FromLane l) → After j behind l
    at-phi : {e : Edge} {w : Write} → Member e (exits_of j) → Member w e.phis → w.fill ≡ Moved (FromLane l) → After j behind l

  module _ (starts : (n : ℕ) → Laid (found n C) (found n D)) where
    -- what is live in D at a place, or within one, may be
    pub bounded : {q : Code} {l : Lane} → Live R D q l → (js : List Item) (r p : Code) → q ≡ js ++ r → Laid p r → Through js (may p) l
    bounded (read {i = i} {p = q} {l = l} x y r) = settled i q l (reads x y) r
    bounded (next {i = i} {p = q} {l = l} o live f r) = settled i q l (feeds o (bounded live) f) r
    bounded (leap {i = i} {p = q} {e = e} {l = l} x live g f r) = settled i q l (leads x (bounded live [] (found e.block D) (found e.block C) refl (starts e.block)) g f) r
    bounded (phi {i = i} {p = q} {l = l} x y g f r) = settled i q l (joins x y g f) r
    bounded (store w {i = i} {p = q} {l = l} o live f s r) = settled i q l (stores w o (bounded live) f s) r
    bounded (kept {i = i} {p = q} {l = l} s f r) = settled i q l (keeps s f) r

    pub after-bounded : {j : Item} {q : Code} {l : Lane} → LiveAfter R D j q l → (js : List Item) (r p : Code) → q ≡ js ++ r → Laid p r → After j (Through js (may p)) l
    after-bounded (after_next o live) js r p e d = in-order o (bounded live js r p e d)
    after-bounded (after_leap {e = e} m live g) js r p h d = along m (bounded live [] (found e.block D) (found e.block C) refl (starts e.block)) g
    after-bounded (after_phi m x g) js r p e d = at-phi m x g
