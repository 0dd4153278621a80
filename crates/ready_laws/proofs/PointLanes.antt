-- What is live in the code of runs is live in that of points, but for results of phis that are still to begin there.
use Rattle.std.proofs.Common.{◌≡◌, ◌⊎◌, inl, inr, ◌∙◌, ◌||◌, ℕ, Bool, true, false, cond, List, [], ◌∷◌, Option, refl, sym, ap, subst, eqb-true}
use Rattle.std.specs.Prelude.{nat_eq}
use Rattle.meaning.specs.Code.{BlockEnd, BlockStart, Code, Edge, Item, Silent, found}
use Rattle.meaning.specs.Lanes.{Writes, filled, same_lane}
use Rattle.meaning.specs.Live.{Among, Feeds, Live, exits_of, here, in_order, is_slot, reads_of, there}
use Rattle.meaning.specs.Live as live
use Rattle.meaning.specs.declared.types.Fill.{Fill}
use Rattle.meaning.specs.declared.types.Fill.TheVariants.{Moved}
use Rattle.meaning.specs.declared.types.Lane.{Lane}
use Rattle.meaning.specs.declared.types.Lane.TheVariants.{SlotLane}
use Rattle.meaning.specs.declared.types.Source.{Source}
use Rattle.meaning.specs.declared.types.Source.TheVariants.{FromLane}
use Rattle.meaning.specs.declared.types.Write.{Write}
use Rattle.laws.proofs.Flow.{lane-inj, none_among}
use Rattle.lowering_laws.proofs.Traced.{filled-free, is_written}
use Rattle.ready_laws.proofs.Lived.{head-of, rest-of}

opposite : (b : Bool) → b ≡ true → b ≡ false → ⊥
opposite b x y = let z : true ≡ false = sym x ∙ y in cc

-- what moves a lane into one that is written
written-move : (ws : Writes) (a b : Lane) → is_written ws a ≡ true → filled ws a ≡ Moved (FromLane b) → (w : Write) × Among w ws × (w.fill ≡ Moved (FromLane b))
written-move [] a b e f = absurd (cc)
written-move (w ∷ ws) a b e f = go (same_lane w.lane a) e f (written-move ws a b)
  where
    go : (y : Bool) → (y || is_written ws a) ≡ true → cond y w.fill (filled ws a) ≡ Moved (FromLane b) → (is_written ws a ≡ true → filled ws a ≡ Moved (FromLane b) → (v : Write) × Among v ws × (v.fill ≡ Moved (FromLane b))) → (v : Write) × Among v (w ∷ ws) × (v.fill ≡ Moved (FromLane b))
    go true e f ih = (w, here, f)
    go false e f ih = let z = ih e f in (z.0, there z.1, z.2)

-- Q n: the results that are to begin behind the start of block n
module _ (R : Lane → Bool) (Q : ℕ → Lane → Type 0) (C D : Code) where
  -- each way gives the results of its block
  abbrev pub Covered : List Edge → Type 0
  Covered exits = (e : Edge) → Among e exits → (a : Lane) → Q e.block a → is_written e.phis a ≡ true

  -- the code of points beside that of runs, with the results that are still to begin
  pub data Points : (Lane → Type 0) → Code → Code → Type 1 where
    no_more : {P : Lane → Type 0} → Points P [] []
    begins : (n : ℕ) {p q : Code} → Points (Q n) p q → Points (Q n) (BlockStart n ∷ p) (BlockStart n ∷ q)
    begun : (ws : Writes) {P S : Lane → Type 0} {p q : Code} → ((l : Lane) → S l → P l) → ((l : Lane) → is_written ws l ≡ true → P l) → Points S p q → Points P (Silent [] ws ∷ p) (Silent [] [] ∷ q)
    same : (i : Item) {P S : Lane → Type 0} {p q : Code} → ((l : Lane) → S l → ⊥) → Covered (exits_of i) → ((n : ℕ) (k : Code) → found n (i ∷ k) ≡ found n k) → Points S p q → Points P (i ∷ p) (i ∷ q)
    ends : (falls : Option Writes) (exits : List Edge) {P S : Lane → Type 0} {p q : Code} → Covered exits → Points S p q → Points P (BlockEnd falls exits ∷ p) (BlockEnd falls exits ∷ q)

  abbrev Out : Code → Lane → Type 1
  Out q l = (P : Lane → Type 0) (p : Code) → Points P p q → Live R C p l ⊎ P l

  -- why a lane is live before an item
  data Cause (i : Item) (q : Code) (l : Lane) : Type 1 where
    by_read : (ss : List Source) → Among ss (reads_of i) → Among (FromLane l) ss → Cause i q l
    by_next : (a : Lane) → in_order i ≡ true → Out q a → Feeds i l a → Cause i q l
    by_leap : (e : Edge) (a b : Lane) → Among e (exits_of i) → Live R C (found e.block C) a ⊎ Q e.block a → filled e.phis a ≡ Moved (FromLane b) → Feeds i l b → Cause i q l
    by_phi : (e : Edge) (w : Write) (b : Lane) → Among e (exits_of i) → Among w e.phis → w.fill ≡ Moved (FromLane b) → Feeds i l b → Cause i q l
    by_store : (s k x w : ℕ) → in_order i ≡ true → Out q (SlotLane s k x) → Feeds i l (SlotLane s k w) → is_slot l ≡ false → Cause i q l
    by_kept : (a : Lane) → R a ≡ true → Feeds i l a → Cause i q l

  module _ (i : Item) (q : Code) (l : Lane) (cause : Cause i q l) (free : R l ≡ false) where
    by-leap : (j : Item) (p : Code) (e : Edge) (a b : Lane) → Covered (exits_of j) → Among e (exits_of j) → Live R C (found e.block C) a ⊎ Q e.block a → filled e.phis a ≡ Moved (FromLane b) → Feeds j l b → Live R C (j ∷ p) l
    by-leap j p e a b covered m (inl h) g f = live.leap m h g f free
    by-leap j p e a b covered m (inr h) g f = let z = written-move e.phis a b (covered e m a h) g in live.phi m z.1 z.2 f free

    -- an item of both
    by-same : (j : Item) (P S : Lane → Type 0) (p r : Code) → Cause j r l → ((a : Lane) → S a → ⊥) → Covered (exits_of j) → Points S p r → Live R C (j ∷ p) l ⊎ P l
    by-same j P S p r (by_read ss x y) none covered d = inl (live.read x y free)
    by-same j P S p r (by_next a o out f) none covered d = go (out S p d)
      where
        go : Live R C p a ⊎ S a → Live R C (j ∷ p) l ⊎ P l
        go (inl h) = inl (live.next o h f free)
        go (inr h) = absurd (none a h)
    by-same j P S p r (by_leap e a b m h g f) none covered d = inl (by-leap j p e a b covered m h g f)
    by-same j P S p r (by_phi e w b m x g f) none covered d = inl (live.phi m x g f free)
    by-same j P S p r (by_store s k x w o out f n) none covered d = go (out S p d)
      where
        go : Live R C p (SlotLane s k x) ⊎ S (SlotLane s k x) → Live R C (j ∷ p) l ⊎ P l
        go (inl h) = inl (live.store w o h f n free)
        go (inr h) = absurd (none (SlotLane s k x) h)
    by-same j P S p r (by_kept a e f) none covered d = inl (live.kept e f free)

    by-end : (falls : Option Writes) (exits : List Edge) (P S : Lane → Type 0) (p r : Code) → Cause (BlockEnd falls exits) r l → Covered exits → Live R C (BlockEnd falls exits ∷ p) l ⊎ P l
    by-end falls exits P S p r (by_read ss x y) covered = absurd (none_among ss x)
    by-end falls exits P S p r (by_next a o out f) covered = absurd (cc)
    by-end falls exits P S p r (by_leap e a b m h g f) covered = inl (by-leap (BlockEnd falls exits) p e a b covered m h g f)
    by-end falls exits P S p r (by_phi e w b m x g f) covered = inl (live.phi m x g f free)
    by-end falls exits P S p r (by_store s k x w o out f n) covered = absurd (cc)
    by-end falls exits P S p r (by_kept a e f) covered = inl (live.kept e f free)

    -- an item that does nothing in the code of runs: what is live behind it is
    passes : (j : Item) (r : Code) → Cause j r l → reads_of j ≡ [] → exits_of j ≡ [] → ((a : Lane) → Feeds j l a → a ≡ l) → Out r l
    passes j r (by_read ss x y) reads exits keeps = absurd (none_among ss (subst (Among ss) reads x))
    passes j r (by_next a o out f) reads exits keeps = subst (Out r) (keeps a f) out
    passes j r (by_leap e a b m h g f) reads exits keeps = absurd (none_among e (subst (Among e) exits m))
    passes j r (by_phi e w b m x g f) reads exits keeps = absurd (none_among e (subst (Among e) exits m))
    passes j r (by_store s k x w o out f n) reads exits keeps = absurd (opposite (is_slot l) (ap is_slot (sym (keeps (SlotLane s k w) f))) n)
    passes j r (by_kept a e f) reads exits keeps = absurd (opposite (R l) (ap R (sym (keeps a f)) ∙ e) free)

    begun-by : (ws : Writes) (P S : Lane → Type 0) (p : Code) → ((a : Lane) → S a → P a) → ((a : Lane) → is_written ws a ≡ true → P a) → Live R C p l ⊎ S l → Live R C (Silent [] ws ∷ p) l ⊎ P l
    begun-by ws P S p more own (inr h) = inr (more l h)
    begun-by ws P S p more own (inl h) = go (is_written ws l) refl
      where
        go : (y : Bool) → is_written ws l ≡ y → Live R C (Silent [] ws ∷ p) l ⊎ P l
        go true e = inr (own l e)
        go false e = inl (live.next refl h (filled-free ws l e) free)

    started-by : (n : ℕ) (P : Lane → Type 0) (p : Code) → Live R C p l ⊎ P l → Live R C (BlockStart n ∷ p) l ⊎ P l
    started-by n P p (inl h) = inl (live.next refl h refl free)
    started-by n P p (inr h) = inr h

    at-place : {P : Lane → Type 0} {p r : Code} → Points P p r → ◌≡◌ {A = Code} (i ∷ q) r → Live R C p l ⊎ P l
    at-place no_more e = absurd (cc)
    at-place (begins n {p = p} {q = r} d) e =
        let why = subst (λ x. Cause x r l) (head-of i (BlockStart n) q r e) (subst (λ y. Cause i y l) (rest-of i (BlockStart n) q r e) cause) in
        started-by n (Q n) p (passes (BlockStart n) r why refl refl (λ a f. lane-inj a l f) (Q n) p d)
    at-place (begun ws {P = P} {S = S} {p = p} {q = r} more own d) e =
        let why = subst (λ x. Cause x r l) (head-of i (Silent [] []) q r e) (subst (λ y. Cause i y l) (rest-of i (Silent [] []) q r e) cause) in
        begun-by ws P S p more own (passes (Silent [] []) r why refl refl (λ a f. lane-inj a l f) S p d)
    at-place (same j {P = P} {S = S} {p = p} {q = r} none covered past d) e =
        by-same j P S p r (subst (λ x. Cause x r l) (head-of i j q r e) (subst (λ y. Cause i y l) (rest-of i j q r e) cause)) none covered d
    at-place (ends falls exits {P = P} {S = S} {p = p} {q = r} covered d) e =
        let j = BlockEnd falls exits in
        by-end falls exits P S p r (subst (λ x. Cause x r l) (head-of i j q r e) (subst (λ y. Cause i y l) (rest-of i j q r e) cause)) covered

    settle : Out (i ∷ q) l
    settle P p d = at-place d refl

  module _ (starts : (n : ℕ) → Points (Q n) (found n C) (found n D)) where
    -- what is live in the code of runs is live in that of points, or still to begin
    pub live-or : {q : Code} {l : Lane} → Live R D q l → Out q l
    live-or (live.read {i = i} {p = q} {l = l} x y r) = settle i q l (by_read _ x y) r
    live-or (live.next {i = i} {p = q} {l = l} {a = a} o h f r) = settle i q l (by_next a o (live-or h) f) r
    live-or (live.leap {i = i} {p = q} {e = e} {l = l} {a = a} {b = b} x h g f r) = settle i q l (by_leap e a b x (live-or h (Q e.block) (found e.block C) (starts e.block)) g f) r
    live-or (live.phi {i = i} {p = q} {e = e} {w = w} {l = l} {b = b} x y g f r) = settle i q l (by_phi e w b x y g f) r
    live-or (live.store w {i = i} {p = q} {s = s} {k = k} {x = x} {l = l} o h f t r) = settle i q l (by_store s k x w o (live-or h) f t) r
    live-or (live.kept {i = i} {p = q} {l = l} {a = a} s f r) = settle i q l (by_kept a s f) r

  pub found-points : (n : ℕ) {P : Lane → Type 0} {p q : Code} → Points P p q → Points (Q n) (found n p) (found n q)
  found-points n no_more = no_more
  found-points n (begins m {p = p} {q = q} d) = go (nat_eq m n) refl (found-points n d)
    where
      go : (b : Bool) → nat_eq m n ≡ b → Points (Q n) (found n p) (found n q) → Points (Q n) (cond b p (found n p)) (cond b q (found n q))
      go true e ih = subst (λ k. Points (Q k) p q) (eqb-true m n e) d
      go false e ih = ih
  found-points n (begun ws more own d) = found-points n d
  found-points n (same i {p = p} {q = q} none covered past d) = subst (λ x. Points (Q n) x (found n (i ∷ q))) (sym (past n p)) (subst (λ y. Points (Q n) (found n p) y) (sym (past n q)) (found-points n d))
  found-points n (ends falls exits covered d) = found-points n d
