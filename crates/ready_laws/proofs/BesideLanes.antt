-- What is live at the start of a block of the second of two codes side by side is live there in the first: silent copies of the
-- second alone move lanes of ranges, and all other instructions read and write the same in both.
use Rattle.std.proofs.Common.{◌≡◌, ◌⊎◌, inl, inr, ◌∙◌, ℕ, Bool, true, false, cond, List, [], ◌∷◌, Option, refl, sym, ap, subst, eqb-true}
use Rattle.std.specs.Prelude.{nat_eq}
use Rattle.meaning.specs.Code.{BlockEnd, BlockStart, Code, Edge, Item, Silent, found}
use Rattle.meaning.specs.Lanes.{Reads, Writes, filled, settled, through}
use Rattle.meaning.specs.Live.{Among, Feeds, Kept, KeptAfter, Live, exits_of, here, in_order, is_slot, reads_of, there, writes_of}
use Rattle.meaning.specs.Live as live
use Rattle.meaning.specs.Relations.{AlikeFill, Rel, Within, after_both, after_second}
use Rattle.meaning.specs.Rows.{first_edge, first_edges, second_edge, second_edges}
use Rattle.meaning.specs.declared.types.EdgePair.{EdgePair}
use Rattle.meaning.specs.declared.types.Fill.{Fill}
use Rattle.meaning.specs.declared.types.Fill.TheVariants.{Computed, Moved}
use Rattle.meaning.specs.declared.types.Lane.{Lane}
use Rattle.meaning.specs.declared.types.Lane.TheVariants.{SlotLane, VirtualLane}
use Rattle.meaning.specs.declared.types.Source.{Source}
use Rattle.meaning.specs.declared.types.Source.TheVariants.{Bits, FromLane, Undef}
use Rattle.meaning.specs.declared.types.Write.{Write}
use Rattle.laws.proofs.Core.{Exits, Plan}
use Rattle.laws.proofs.Flow.{flow, kept_along, kept_next, lane-inj, none_among, read_kept}
use Rattle.lowering_laws.proofs.Alike.{is_ranged}
use Rattle.lowering_laws.proofs.Olds.{AllOld, ReadsOld, is_old, old_source, through-old}
use Rattle.ready_laws.proofs.Lived.{AllBare, alike-back, first-way, head-of, moves-lane, rest-of, way-of}

opposite : (b : Bool) → b ≡ true → b ≡ false → ⊥
opposite b x y = let z : true ≡ false = sym x ∙ y in cc

-- what an operand that is read has is old
old-read : (n : ℕ) (reads : Reads) (ss : List Source) (s : Source) → ReadsOld n reads → Among ss reads → Among s ss → old_source n s ≡ true
old-read n [] ss s h x y = absurd (none_among ss x)
old-read n (rs ∷ reads) ss s h here y = h.0 s y
old-read n (rs ∷ reads) ss s h (there x) y = old-read n reads ss s h.1 x y

-- these writes leave what is no lane of a range
abbrev pub Calm : Writes → Type 0
Calm ws = (a : Lane) → is_ranged (FromLane a) ≡ false → filled ws a ≡ Moved (FromLane a)

module _ (R : Lane → Bool) (bound : ℕ) (reserved-old : (a : Lane) → R a ≡ true → is_old bound a ≡ true) (reserved-apart : (a : Lane) → R a ≡ true → is_ranged (FromLane a) ≡ false) (slots-free : (s k w : ℕ) → R (SlotLane s k w) ≡ false) (K : Plan) (C D : Code) where
  -- a source whose lane, where it is one, is live at a place of the first code, or reserved
  abbrev pub Lives : Code → Source → Type 0
  Lives p s = (k : Lane) → s ≡ FromLane k → Kept R C p k

  -- the lane has a source that is
  abbrev pub Found : Rel → Code → Lane → Type 0
  Found S p l = (s : Source) × S s (FromLane l) × Lives p s

  -- an instruction of both, with the same reads and writes
  pub record Same (S : Rel) (i j : Item) (exits : List EdgePair) : Type 0 where
    pub reads : reads_of j ≡ reads_of i
    pub writes : writes_of j ≡ writes_of i
    pub first-order : in_order i ≡ true
    pub first-exits : exits_of i ≡ first_edges exits
    pub second-exits : exits_of j ≡ second_edges exits
    pub bare : AllBare (second_edges exits)
    pub reads-old : ReadsOld bound (reads_of i)
    pub writes-old : AllOld bound (writes_of i)
    pub stays : Within S (after_both (writes_of i) (writes_of i) S)
    pub out : Exits K exits (after_both (writes_of i) (writes_of i) S)
    pub itself : (s : Source) → old_source bound s ≡ true → S s s
    pub slots : (s : Source) (x k w : ℕ) → S s (FromLane (SlotLane x k w)) → s ≡ FromLane (SlotLane x k w)
    pub past : (n : ℕ) (p : Code) → found n (i ∷ p) ≡ found n p
    pub past' : (n : ℕ) (p : Code) → found n (j ∷ p) ≡ found n p

  -- the codes side by side, with what holds there
  pub data Beside : Rel → Code → Code → Type 1 where
    no_more : {S : Rel} → Beside S [] []
    begins : (n : ℕ) {p q : Code} → Beside (K n) p q → Beside (K n) (BlockStart n ∷ p) (BlockStart n ∷ q)
    replaced : (ws : Writes) {S T : Rel} {p q : Code} → Calm ws → Within T (after_second ws S) → Beside T p q → Beside S (Silent [] [] ∷ p) (Silent [] ws ∷ q)
    added : (ws : Writes) {S T : Rel} {p q : Code} → Calm ws → Within T (after_second ws S) → Beside T p q → Beside S p (Silent [] ws ∷ q)
    same : (i j : Item) (exits : List EdgePair) {S : Rel} {p q : Code} → Same S i j exits → Beside S p q → Beside S (i ∷ p) (j ∷ q)
    ends : (falls falls' : Option Writes) (exits : List EdgePair) {S T : Rel} {p q : Code} → Exits K exits S → AllBare (second_edges exits) → Beside T p q → Beside S (BlockEnd falls (first_edges exits) ∷ p) (BlockEnd falls' (second_edges exits) ∷ q)
    weaker : {S T : Rel} {p q : Code} → Within T S → Beside T p q → Beside S p q

  -- a lane that is live at a place has a source
  abbrev Out : Code → Lane → Type 1
  Out q l = (S : Rel) (p : Code) → Beside S p q → Found S p l

  -- what is live behind an item is live before it
  back-after : (i : Item) (p : Code) (s : Source) → ((k : Lane) → s ≡ FromLane k → KeptAfter R C i p k) → Lives (i ∷ p) (settled (through (writes_of i) s))
  back-after i p (FromLane a) h k e = flow R C i p a k (h a refl) (moves-lane (filled (writes_of i) a) k e)
  back-after i p Undef h k e = absurd (cc)
  back-after i p (Bits c low width) h k e = absurd (cc)

  back : (i : Item) (p : Code) (s : Source) → in_order i ≡ true → Lives p s → Lives (i ∷ p) (settled (through (writes_of i) s))
  back i p s o h = back-after i p s (λ k e. kept_next R C i p k o (h k e))

  -- what is live behind a way is live at its beginning
  back-along : (i : Item) (p : Code) (exits : List EdgePair) (w : EdgePair) (s : Source) → exits_of i ≡ first_edges exits → Among w exits → Lives (found w.block C) s → Lives (i ∷ p) (settled (through (writes_of i) (settled (through w.first s))))
  back-along i p exits w s at m h = back-after i p (settled (through w.first s)) (by s h)
    where
      by : (s : Source) → Lives (found w.block C) s → (k : Lane) → settled (through w.first s) ≡ FromLane k → KeptAfter R C i p k
      by (FromLane a) h k e = kept_along R C i p (first_edge w) a k (subst (Among (first_edge w)) (sym at) (first-way exits w m)) (h a refl) (moves-lane (filled w.first a) k e)
      by Undef h k e = absurd (cc)
      by (Bits c low width) h k e = absurd (cc)

  settled-empty : (s : Source) → settled (through [] s) ≡ s
  settled-empty (FromLane a) = refl
  settled-empty Undef = refl
  settled-empty (Bits c low width) = refl

  -- an item that writes nothing
  over : (i : Item) (p : Code) (s : Source) → writes_of i ≡ [] → in_order i ≡ true → Lives p s → Lives (i ∷ p) s
  over i p s e o h = subst (Lives (i ∷ p)) (ap (λ ws. settled (through ws s)) e ∙ settled-empty s) (back i p s o h)

  -- why a lane is live before an item
  data Cause (i : Item) (q : Code) (l : Lane) : Type 1 where
    by_read : (ss : List Source) → Among ss (reads_of i) → Among (FromLane l) ss → Cause i q l
    by_next : (a : Lane) → in_order i ≡ true → Out q a → Feeds i l a → Cause i q l
    by_leap : (e : Edge) (a b : Lane) → Among e (exits_of i) → Found (K e.block) (found e.block C) a → filled e.phis a ≡ Moved (FromLane b) → Feeds i l b → Cause i q l
    by_phi : (e : Edge) (w : Write) → Among e (exits_of i) → Among w e.phis → Cause i q l
    by_store : (s k x w : ℕ) → in_order i ≡ true → Out q (SlotLane s k x) → Feeds i l (SlotLane s k w) → is_slot l ≡ false → Cause i q l
    by_kept : (a : Lane) → R a ≡ true → Feeds i l a → Cause i q l

  no-way-phi : (exits : List Edge) (e : Edge) (w : Write) → AllBare exits → Among e exits → Among w e.phis → ⊥
  no-way-phi exits e w bare m x = none_among w (subst (Among w) (bare e m) x)

  -- along a way the lane keeps its source
  along-way : (exits : List EdgePair) (S : Rel) (e : Edge) (a b : Lane) → Exits K exits S → Among e (second_edges exits) → Found (K e.block) (found e.block C) a → filled e.phis a ≡ Moved (FromLane b)
      → (w : EdgePair) × Among w exits × (s : Source) × S (settled (through w.first s)) (FromLane b) × Lives (found w.block C) s
  along-way exits S e a b x m z f =
      let w = way-of exits e m in
      let f' : filled w.0.second a ≡ Moved (FromLane b) = subst (λ (d : Edge). filled d.phis a ≡ Moved (FromLane b)) (sym w.2) f in
      let k : K w.0.block z.0 (FromLane a) = subst (λ (d : Edge). K d.block z.0 (FromLane a)) (sym w.2) z.1 in
      (w.0, w.1, z.0, subst (λ u. S (settled (through w.0.first z.0)) u) (ap settled f') (x w.0 w.1 z.0 (FromLane a) k), subst (λ (d : Edge). Lives (found d.block C) z.0) (sym w.2) z.2)

  module _ (i : Item) (q : Code) (l : Lane) (cause : Cause i q l) (free : R l ≡ false) where
    -- an own lane that is live
    own : (p : Code) (S : Rel) → S (FromLane l) (FromLane l) → Kept R C p l → Found S p l
    own p S r h = (FromLane l, r, λ k e. subst (Kept R C p) (ap lane-of e) h)
      where
        lane-of : Source → Lane
        lane-of (FromLane k) = k
        lane-of Undef = l
        lane-of (Bits c low width) = l

    -- a silent copy of the second
    by-copy : (ws : Writes) (S T : Rel) (p r : Code) → Cause (Silent [] ws) r l → Calm ws → Within T (after_second ws S) → Beside T p r → Found S p l
    by-copy ws S T p r (by_read ss x y) calm w d = absurd (none_among ss x)
    by-copy ws S T p r (by_next a o out f) calm w d =
        let z = out T p d in
        (z.0, subst (λ u. S z.0 u) (ap settled f) (w z.0 (FromLane a) z.1), z.2)
    by-copy ws S T p r (by_leap e a b m x g f) calm w d = absurd (none_among e m)
    by-copy ws S T p r (by_phi e v m x) calm w d = absurd (none_among e m)
    by-copy ws S T p r (by_store s k x v o out f n) calm w d = absurd (opposite (is_slot l) (ap is_slot (sym (lane-inj (SlotLane s k v) l (sym (calm (SlotLane s k v) refl) ∙ f)))) n)
    by-copy ws S T p r (by_kept a e f) calm w d = absurd (opposite (R l) (ap R (sym (lane-inj a l (sym (calm a (reserved-apart a e)) ∙ f))) ∙ e) free)

    by-start : (n : ℕ) (p r : Code) → Cause (BlockStart n) r l → Beside (K n) p r → Found (K n) (BlockStart n ∷ p) l
    by-start n p r (by_read ss x y) d = absurd (none_among ss x)
    by-start n p r (by_next a o out f) d =
        let z = out (K n) p d in
        (z.0, subst (λ u. K n z.0 (FromLane u)) (lane-inj a l f) z.1, over (BlockStart n) p z.0 refl refl z.2)
    by-start n p r (by_leap e a b m x g f) d = absurd (none_among e m)
    by-start n p r (by_phi e v m x) d = absurd (none_among e m)
    by-start n p r (by_store s k x v o out f t) d = absurd (opposite (is_slot l) (ap is_slot (sym (lane-inj (SlotLane s k v) l f))) t)
    by-start n p r (by_kept a e f) d = absurd (opposite (R l) (ap R (sym (lane-inj a l f)) ∙ e) free)

    -- an instruction of both
    by-same : (i' j : Item) (exits : List EdgePair) (S : Rel) (p r : Code) → Cause j r l → Same S i' j exits → Beside S p r → Found S (i' ∷ p) l
    by-same i' j exits S p r (by_read ss x y) h d =
        let x' : Among ss (reads_of i') = subst (Among ss) h.reads x in
        own (i' ∷ p) S (h.itself (FromLane l) (old-read bound (reads_of i') ss (FromLane l) h.reads-old x' y)) (read_kept R C i' p ss l x' y)
    by-same i' j exits S p r (by_next a o out f) h d =
        let z = out S p d in
        let f' : filled (writes_of i') a ≡ Moved (FromLane l) = subst (λ ws. filled ws a ≡ Moved (FromLane l)) h.writes f in (
          settled (through (writes_of i') z.0),
          alike-back S (through (writes_of i') z.0) l (subst (AlikeFill S (through (writes_of i') z.0)) f' (h.stays z.0 (FromLane a) z.1)),
          back i' p z.0 h.first-order z.2,
        )
    by-same i' j exits S p r (by_leap e a b m x g f) h d =
        let ws = writes_of i' in
        let f' : filled ws b ≡ Moved (FromLane l) = subst (λ ws. filled ws b ≡ Moved (FromLane l)) h.writes f in
        let z = along-way exits (after_both ws ws S) e a b h.out (subst (Among e) h.second-exits m) x g in
        let s = settled (through z.0.first z.2) in (
          settled (through ws s),
          alike-back S (through ws s) l (subst (AlikeFill S (through ws s)) f' z.3),
          back-along i' p exits z.0 z.2 h.first-exits z.1 z.4,
        )
    by-same i' j exits S p r (by_phi e v m x) h d = absurd (no-way-phi (second_edges exits) e v h.bare (subst (Among e) h.second-exits m) x)
    by-same i' j exits S p r (by_store s k x v o out f n) h d =
        let z = out S p d in
        let f' : filled (writes_of i') (SlotLane s k v) ≡ Moved (FromLane l) = subst (λ ws. filled ws (SlotLane s k v) ≡ Moved (FromLane l)) h.writes f in
        let old : is_old bound l ≡ true = subst (λ y. old_source bound (settled y) ≡ true) f' (through-old bound (writes_of i') h.writes-old (FromLane (SlotLane s k v)) refl) in
        own (i' ∷ p) S (h.itself (FromLane l) old) (go f' (z.2 (SlotLane s k x) (h.slots z.0 s k x z.1)))
      where
        go : filled (writes_of i') (SlotLane s k v) ≡ Moved (FromLane l) → Kept R C p (SlotLane s k x) → Kept R C (i' ∷ p) l
        go f' (inl y) = inl (live.store v h.first-order y f' n free)
        go f' (inr y) = absurd (opposite (R (SlotLane s k x)) y (slots-free s k x))
    by-same i' j exits S p r (by_kept a e f) h d =
        let f' : filled (writes_of i') a ≡ Moved (FromLane l) = subst (λ ws. filled ws a ≡ Moved (FromLane l)) h.writes f in
        let old : is_old bound l ≡ true = subst (λ y. old_source bound (settled y) ≡ true) f' (through-old bound (writes_of i') h.writes-old (FromLane a) (reserved-old a e)) in
        own (i' ∷ p) S (h.itself (FromLane l) old) (inl (live.kept e f' free))

    by-end : (falls falls' : Option Writes) (exits : List EdgePair) (S : Rel) (p r : Code) → Cause (BlockEnd falls' (second_edges exits)) r l → Exits K exits S → AllBare (second_edges exits) → Found S (BlockEnd falls (first_edges exits) ∷ p) l
    by-end falls falls' exits S p r (by_read ss x y) out bare = absurd (none_among ss x)
    by-end falls falls' exits S p r (by_next a o z f) out bare = absurd (cc)
    by-end falls falls' exits S p r (by_leap e a b m x g f) out bare =
        let z = along-way exits S e a b out m x g in
        let s = settled (through z.0.first z.2) in (
          s,
          subst (λ u. S s (FromLane u)) (lane-inj b l f) z.3,
          subst (Lives (BlockEnd falls (first_edges exits) ∷ p)) (settled-empty s) (back-along (BlockEnd falls (first_edges exits)) p exits z.0 z.2 refl z.1 z.4),
        )
    by-end falls falls' exits S p r (by_phi e v m x) out bare = absurd (no-way-phi (second_edges exits) e v bare m x)
    by-end falls falls' exits S p r (by_store s k x v o z f t) out bare = absurd (cc)
    by-end falls falls' exits S p r (by_kept a e f) out bare = absurd (opposite (R l) (ap R (sym (lane-inj a l f)) ∙ e) free)

    at-place : {S : Rel} {p r : Code} → Beside S p r → ◌≡◌ {A = Code} (i ∷ q) r → Found S p l
    at-place no_more e = absurd (cc)
    at-place (begins n {p = p} {q = r} d) e = by-start n p r (subst (λ x. Cause x r l) (head-of i (BlockStart n) q r e) (subst (λ y. Cause i y l) (rest-of i (BlockStart n) q r e) cause)) d
    at-place (replaced ws {S = S} {T = T} {p = p} {q = r} calm w d) e =
        let z = by-copy ws S T p r (subst (λ x. Cause x r l) (head-of i (Silent [] ws) q r e) (subst (λ y. Cause i y l) (rest-of i (Silent [] ws) q r e) cause)) calm w d in
        (z.0, z.1, over (Silent [] []) p z.0 refl refl z.2)
    at-place (added ws {S = S} {T = T} {p = p} {q = r} calm w d) e =
        by-copy ws S T p r (subst (λ x. Cause x r l) (head-of i (Silent [] ws) q r e) (subst (λ y. Cause i y l) (rest-of i (Silent [] ws) q r e) cause)) calm w d
    at-place (same i' j exits {S = S} {p = p} {q = r} h d) e =
        by-same i' j exits S p r (subst (λ x. Cause x r l) (head-of i j q r e) (subst (λ y. Cause i y l) (rest-of i j q r e) cause)) h d
    at-place (ends falls falls' exits {S = S} {p = p} {q = r} out bare d) e =
        let j = BlockEnd falls' (second_edges exits) in
        by-end falls falls' exits S p r (subst (λ x. Cause x r l) (head-of i j q r e) (subst (λ y. Cause i y l) (rest-of i j q r e) cause)) out bare
    at-place (weaker w d) e = let z = at-place d e in (z.0, w z.0 (FromLane l) z.1, z.2)

    settle : Out (i ∷ q) l
    settle S p d = at-place d refl

  module _ (starts : (n : ℕ) → Beside (K n) (found n C) (found n D)) where
    -- what is live in the second has a source
    pub has-source : {q : Code} {l : Lane} → Live R D q l → Out q l
    has-source (live.read {i = i} {p = q} {l = l} x y r) = settle i q l (by_read _ x y) r
    has-source (live.next {i = i} {p = q} {l = l} {a = a} o h f r) = settle i q l (by_next a o (has-source h) f) r
    has-source (live.leap {i = i} {p = q} {e = e} {l = l} {a = a} {b = b} x h g f r) = settle i q l (by_leap e a b x (has-source h (K e.block) (found e.block C) (starts e.block)) g f) r
    has-source (live.phi {i = i} {p = q} {e = e} {w = w} {l = l} x y g f r) = settle i q l (by_phi e w x y) r
    has-source (live.store w {i = i} {p = q} {s = s} {k = k} {x = x} {l = l} o h f t r) = settle i q l (by_store s k x w o (has-source h) f t) r
    has-source (live.kept {i = i} {p = q} {l = l} {a = a} s f r) = settle i q l (by_kept a s f) r

  -- where the codes are side by side, they are from the start of each block on
  pub found-beside : (n : ℕ) {S : Rel} {p q : Code} → Beside S p q → Beside (K n) (found n p) (found n q)
  found-beside n no_more = no_more
  found-beside n (begins m {p = p} {q = q} d) = go (nat_eq m n) refl (found-beside n d)
    where
      go : (b : Bool) → nat_eq m n ≡ b → Beside (K n) (found n p) (found n q) → Beside (K n) (cond b p (found n p)) (cond b q (found n q))
      go true e ih = subst (λ k. Beside (K k) p q) (eqb-true m n e) d
      go false e ih = ih
  found-beside n (replaced ws calm w d) = found-beside n d
  found-beside n (added ws calm w d) = found-beside n d
  found-beside n (same i j exits {p = p} {q = q} h d) = subst (λ x. Beside (K n) x (found n (j ∷ q))) (sym (h.past n p)) (subst (λ y. Beside (K n) (found n p) y) (sym (h.past' n q)) (found-beside n d))
  found-beside n (ends falls falls' exits out bare d) = found-beside n d
  found-beside n (weaker w d) = found-beside n d
