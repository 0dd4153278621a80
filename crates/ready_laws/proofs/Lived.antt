-- What is live in the second of two codes side by side is live in the first, where what instructions become gives the lanes of the
-- first what they had.
use Rattle.std.proofs.Common.{◌≡◌, ◌⊎◌, inl, inr, ◌++◌, ◌∙◌, ℕ, Bool, true, false, cond, List, [], ◌∷◌, Option, None, refl, sym, ap, subst}
use Rattle.std.specs.Prelude.{nat_eq, pos}
use Rattle.target_base.specs.declared.types.Effect.TheVariants as effects
use Rattle.meaning.specs.Code.{BlockEnd, BlockStart, Code, Counted, Edge, Item, Silent, found}
use Rattle.meaning.specs.Lanes.{Reads, Writes, filled, settled, through}
use Rattle.meaning.specs.Live.{Among, Feeds, Kept, KeptAfter, Live, exits_of, here, in_order, is_slot, reads_of, there, writes_of}
use Rattle.meaning.specs.Live as live
use Rattle.meaning.specs.Relations.{AlikeFill, AlikeOperands, AlikeReads, Rel, after_both, after_first, after_second}
use Rattle.meaning.specs.Rows.{first_edge, first_edges, first_of_rows, first_target, second_edge, second_edges, second_of_rows, second_target}
use Rattle.meaning.specs.declared.types.EdgePair.{EdgePair}
use Rattle.meaning.specs.declared.types.Fill.{Fill}
use Rattle.meaning.specs.declared.types.Fill.TheVariants.{Computed, Moved}
use Rattle.meaning.specs.declared.types.Lane.{Lane}
use Rattle.meaning.specs.declared.types.Lane.TheVariants.{SlotLane}
use Rattle.meaning.specs.declared.types.Rest.{Rest}
use Rattle.meaning.specs.declared.types.Row.{Row}
use Rattle.meaning.specs.declared.types.Row.TheVariants.{BothCounted, BothEnd, BothStart, FirstSilent, SecondSilent}
use Rattle.meaning.specs.declared.types.Source.{Source}
use Rattle.meaning.specs.declared.types.Source.TheVariants.{Bits, FromLane, Undef}
use Rattle.meaning.specs.declared.types.Write.{Write}
use Rattle.laws.proofs.Core.{Coupled, Exits, Plan}
use Rattle.laws.proofs.Flow.{flow, kept_along, kept_next, lane-inj, none_among, read_kept}
use Rattle.lowering_laws.proofs.Alike.{Equal}
use Rattle.lowering_laws.proofs.Olds.{is_old, old_source}

pub head-of : (i j : Item) (p q : Code) → ◌≡◌ {A = Code} (i ∷ p) (j ∷ q) → i ≡ j
head-of i j p q e = cc

pub rest-of : (i j : Item) (p q : Code) → ◌≡◌ {A = Code} (i ∷ p) (j ∷ q) → p ≡ q
rest-of i j p q e = cc

-- a fill that settles to a lane moves it
pub moves-lane : (f : Fill) (k : Lane) → settled f ≡ FromLane k → f ≡ Moved (FromLane k)
moves-lane (Moved s) k e = ap Moved e
moves-lane (Computed i) k e = absurd (cc)

pub way-of : (exits : List EdgePair) (e : Edge) → Among e (second_edges exits) → (w : EdgePair) × Among w exits × (second_edge w ≡ e)
way-of [] e x = absurd (none_among e x)
way-of (w ∷ exits) e here = (w, here, refl)
way-of (w ∷ exits) e (there x) = let z = way-of exits e x in (z.0, there z.1, z.2)

pub first-way : (exits : List EdgePair) (w : EdgePair) → Among w exits → Among (first_edge w) (first_edges exits)
first-way [] w x = absurd (none_among w x)
first-way (v ∷ exits) w here = here
first-way (v ∷ exits) w (there x) = there (first-way exits w x)

-- what is read in the second is read in the first
record IsRead (S : Rel) (reads : Reads) (l : Lane) : Type 0 where
  pub operand : List Source
  pub source : Source
  pub there' : Among operand reads
  pub among : Among source operand
  pub holds : S source (FromLane l)

read-among : (S : Rel) (ss ts : List Source) (l : Lane) → AlikeReads S ss ts → Among (FromLane l) ts → (s : Source) × Among s ss × S s (FromLane l)
read-among S [] [] l h x = absurd (none_among (FromLane l) x)
read-among S [] (t ∷ ts) l h x = absurd h
read-among S (s ∷ ss) [] l h x = absurd h
read-among S (s ∷ ss) (t ∷ ts) l h here = (s, here, h.0)
read-among S (s ∷ ss) (t ∷ ts) l h (there x) = let z = read-among S ss ts l h.1 x in (z.0, there z.1, z.2)

is-read : (S : Rel) (rs qs : Reads) (ts : List Source) (l : Lane) → AlikeOperands S rs qs → Among ts qs → Among (FromLane l) ts → IsRead S rs l
is-read S [] [] ts l h x y = absurd (none_among ts x)
is-read S [] (q ∷ qs) ts l h x y = absurd h
is-read S (r ∷ rs) [] ts l h x y = absurd h
is-read S (r ∷ rs) (q ∷ qs) ts l h here y = let z = read-among S r q l h.0 y in record { operand = r; source = z.0; there' = here; among = z.1; holds = z.2 }
is-read S (r ∷ rs) (q ∷ qs) ts l h (there x) y = let z = is-read S rs qs ts l h.1 x y in record { operand = z.operand; source = z.source; there' = there z.there'; among = z.among; holds = z.holds }

pub alike-back : (S : Rel) (x : Fill) (l : Lane) → AlikeFill S x (Moved (FromLane l)) → S (settled x) (FromLane l)
alike-back S (Moved s) l h = h
alike-back S (Computed i) l h = absurd h

-- a counted instruction that reads a source, in both
abbrev pub reader : Source → Row
reader s = BothCounted (record { effect = effects.Copy; widths = []; result = []; immediate = pos 0; symbol = []; needed = [] }) ((s ∷ []) ∷ []) ((s ∷ []) ∷ []) [] [] None []

-- a slot's lane is given no register's
abbrev pub NoStores : Writes → Type 0
NoStores ws = (s k w : ℕ) (l : Lane) → filled ws (SlotLane s k w) ≡ Moved (FromLane l) → is_slot l ≡ true

-- a reserved lane is given a reserved one's
abbrev pub KeepsNone : (Lane → Bool) → Writes → Type 0
KeepsNone R ws = (a l : Lane) → R a ≡ true → filled ws a ≡ Moved (FromLane l) → R l ≡ true

abbrev pub AllBare : List Edge → Type 0
AllBare es = (e : Edge) → Among e es → e.phis ≡ []

-- Instructions of the second: silent ones read nothing by themselves; none stores a register, and only the last gives one to a
-- reserved lane; ways have no phis.
abbrev pub Fine : (Lane → Bool) → Code → Type 0
Fine R [] = Unit {0}
Fine R (BlockStart n ∷ p) = ⊥
Fine R (BlockEnd falls exits ∷ p) = ⊥
Fine R (Silent reads ws ∷ p) = (reads ≡ []) × NoStores ws × (KeepsNone R ws ⊎ (p ≡ [])) × Fine R p
Fine R (Counted r reads ws target exits ∷ p) = AllBare exits × NoStores ws × KeepsNone R ws × Fine R p

module _ (R : Lane → Bool) (bound : ℕ) (olds : (a : Lane) → R a ≡ true → is_old bound a ≡ true) (C D : Code) where
  abbrev pub E : Rel
  E = Equal bound

  abbrev pub K : Plan
  K m = E

  -- a source whose lane, where it is one, is live at a place of the first code, or reserved
  abbrev pub Lives : Code → Source → Type 0
  Lives p s = (k : Lane) → s ≡ FromLane k → Kept R C p k

  -- the lane has a source that is
  abbrev pub Found : Rel → Code → Lane → Type 0
  Found S p l = (s : Source) × S s (FromLane l) × Lives p s

  -- behind these rows what is old may be read
  abbrev pub Ready : List Row → Rel → Type 0
  Ready rows S = (s : Source) → old_source bound s ≡ true → Coupled K (rows ++ (reader s ∷ [])) S

  ready-now : (S : Rel) → Ready [] S → (s : Source) → old_source bound s ≡ true → S s s
  ready-now S ready s o = (ready s o).0.0.0

  -- what is live behind an item is live before it
  back-after : (i : Item) (p : Code) (s : Source) → ((k : Lane) → s ≡ FromLane k → KeptAfter R C i p k) → Lives (i ∷ p) (settled (through (writes_of i) s))
  back-after i p (FromLane a) h k e = flow R C i p a k (h a refl) (moves-lane (filled (writes_of i) a) k e)
  back-after i p Undef h k e = absurd (cc)
  back-after i p (Bits c low width) h k e = absurd (cc)

  back : (i : Item) (p : Code) (s : Source) → in_order i ≡ true → Lives p s → Lives (i ∷ p) (settled (through (writes_of i) s))
  back i p s o h = back-after i p s (λ k e. kept_next R C i p k o (h k e))

  -- what is live behind a way is live at its beginning
  back-along : (i : Item) (p : Code) (exits : List EdgePair) (w : EdgePair) (s : Source) → exits_of i ≡ first_edges exits → Among w exits → Lives (found w.block C) s → Lives (i ∷ p) (settled (through (writes_of i) (settled (through w.first s))))
  back-along i p exits w s at m h = back-after i p (settled (through w.first s)) (by s h)
    where
      by : (s : Source) → Lives (found w.block C) s → (k : Lane) → settled (through w.first s) ≡ FromLane k → KeptAfter R C i p k
      by (FromLane a) h k e = kept_along R C i p (first_edge w) a k (subst (Among (first_edge w)) (sym at) (first-way exits w m)) (h a refl) (moves-lane (filled w.first a) k e)
      by Undef h k e = absurd (cc)
      by (Bits c low width) h k e = absurd (cc)

  -- rows of the first alone
  only-first : (rows : List Row) (S : Rel) (p : Code) → second_of_rows rows ≡ [] → Ready rows S → (u : Source) → old_source bound u ≡ true → Lives p u → (s : Source) × S s u × Lives (first_of_rows rows ++ p) s
  only-first [] S p e ready u o h = (u, ready-now S ready u o, h)
  only-first (FirstSilent reads ws ∷ rows) S p e ready u o h =
      let z = only-first rows (after_first ws S) p e (λ s q. ready s q) u o h in
      (settled (through ws z.0), z.1, back (Silent reads ws) (first_of_rows rows ++ p) z.0 refl z.2)
  only-first (SecondSilent reads ws ∷ rows) S p e ready u o h = absurd (cc)
  only-first (BothStart n ∷ rows) S p e ready u o h = absurd (cc)
  only-first (BothEnd falls exits ∷ rows) S p e ready u o h = absurd (cc)
  only-first (BothCounted r reads reads' ws ws' target exits ∷ rows) S p e ready u o h = absurd (cc)

  -- the codes side by side: instructions, starts and ends of blocks
  pub data Laid : Code → Code → Type 1 where
    no_more : Laid [] []
    begins : (n : ℕ) {p q : Code} → Laid p q → Laid (BlockStart n ∷ p) (BlockStart n ∷ q)
    goes : (rows : List Row) {p q : Code} → Ready rows E → Fine R (second_of_rows rows) → Laid p q → Laid (first_of_rows rows ++ p) (second_of_rows rows ++ q)
    ends : (falls falls' : Option Writes) (exits : List EdgePair) {p q : Code} → Exits K exits E → AllBare (second_edges exits) → Laid p q → Laid (BlockEnd falls (first_edges exits) ∷ p) (BlockEnd falls' (second_edges exits) ∷ q)

  -- a lane that is live within a place has a source
  abbrev Out : Code → Lane → Type 1
  Out q l = (rows : List Row) (S : Rel) (p r : Code) → q ≡ second_of_rows rows ++ r → Ready rows S → Fine R (second_of_rows rows) → Laid p r → Found S (first_of_rows rows ++ p) l

  -- why a lane is live before an item
  data Cause (i : Item) (q : Code) (l : Lane) : Type 1 where
    by_read : (ss : List Source) → Among ss (reads_of i) → Among (FromLane l) ss → Cause i q l
    by_next : (a : Lane) → in_order i ≡ true → Out q a → Feeds i l a → Cause i q l
    by_leap : (e : Edge) (a b : Lane) → Among e (exits_of i) → Found E (found e.block C) a → filled e.phis a ≡ Moved (FromLane b) → Feeds i l b → Cause i q l
    by_phi : (e : Edge) (w : Write) → Among e (exits_of i) → Among w e.phis → Cause i q l
    by_store : (s k w : ℕ) → Feeds i l (SlotLane s k w) → is_slot l ≡ false → Cause i q l
    by_kept : (a : Lane) → R a ≡ true → Feeds i l a → Cause i q l

  no-way-phi : (exits : List Edge) (e : Edge) (w : Write) → AllBare exits → Among e exits → Among w e.phis → ⊥
  no-way-phi exits e w bare m x = none_among w (subst (Among w) (bare e m) x)

  opposite : (b : Bool) → b ≡ true → b ≡ false → ⊥
  opposite b x y = let z : true ≡ false = sym x ∙ y in cc

  -- along a way the lane keeps its source
  along-way : (exits : List EdgePair) (S : Rel) (e : Edge) (a b : Lane) → Exits K exits S → Among e (second_edges exits) → Found E (found e.block C) a → filled e.phis a ≡ Moved (FromLane b)
      → (w : EdgePair) × Among w exits × (s : Source) × S (settled (through w.first s)) (FromLane b) × Lives (found w.block C) s
  along-way exits S e a b x m z f =
      let w = way-of exits e m in
      let f' : filled w.0.second a ≡ Moved (FromLane b) = subst (λ (d : Edge). filled d.phis a ≡ Moved (FromLane b)) (sym w.2) f in
      (w.0, w.1, z.0, subst (λ u. S (settled (through w.0.first z.0)) u) (ap settled f') (x w.0 w.1 z.0 (FromLane a) z.1), subst (λ (d : Edge). Lives (found d.block C) z.0) (sym w.2) z.2)

  module _ (i : Item) (q : Code) (l : Lane) (cause : Cause i q l) (free : R l ≡ false) where
    -- a silent instruction of the second
    by-silent : (reads : Reads) (ws : Writes) (rows : List Row) (S : Rel) (p r : Code) → Cause (Silent reads ws) (second_of_rows rows ++ r) l → Ready rows (after_second ws S) → Fine R (Silent reads ws ∷ second_of_rows rows) → Laid p r → Found S (first_of_rows rows ++ p) l
    by-silent reads ws rows S p r (by_read ss x y) ready fine laid = absurd (none_among ss (subst (Among ss) fine.0 x))
    by-silent reads ws rows S p r (by_next a o out f) ready fine laid =
        let z = out rows (after_second ws S) p r refl ready fine.3 laid in
        (z.0, subst (λ u. S z.0 u) (ap settled f) z.1, z.2)
    by-silent reads ws rows S p r (by_leap e a b m x g f) ready fine laid = absurd (none_among e m)
    by-silent reads ws rows S p r (by_phi e w m x) ready fine laid = absurd (none_among e m)
    by-silent reads ws rows S p r (by_store s k w f n) ready fine laid = absurd (opposite (is_slot l) (fine.1 s k w l f) n)
    by-silent reads ws rows S p r (by_kept a e f) ready fine laid = go fine.2
      where
        go : KeepsNone R ws ⊎ (second_of_rows rows ≡ []) → Found S (first_of_rows rows ++ p) l
        go (inl none) = absurd (opposite (R l) (none a l e f) free)
        go (inr last) =
            let z = only-first rows (after_second ws S) p last ready (FromLane a) (olds a e) (λ k h. inr (subst (λ s. Reserved s) h e)) in
            (z.0, subst (λ u. S z.0 u) (ap settled f) z.1, z.2)
          where
            Reserved : Source → Type 0
            Reserved (FromLane k) = R k ≡ true
            Reserved Undef = Unit {0}
            Reserved (Bits c low width) = Unit {0}

    -- a counted one, beside one of the first
    by-counted : (d : Rest) (reads reads' : Reads) (ws ws' : Writes) (target : Option EdgePair) (exits : List EdgePair) (rows : List Row) (S : Rel) (p r : Code)
        → Cause (Counted d reads' ws' (second_target target) (second_edges exits)) (second_of_rows rows ++ r) l
        → AlikeOperands S reads reads' → Exits K exits (after_both ws ws' S) → Ready rows (after_both ws ws' S)
        → Fine R (Counted d reads' ws' (second_target target) (second_edges exits) ∷ second_of_rows rows) → Laid p r
        → Found S (Counted d reads ws (first_target target) (first_edges exits) ∷ (first_of_rows rows ++ p)) l
    by-counted d reads reads' ws ws' target exits rows S p r (by_read ss x y) alike out ready fine laid =
        let z = is-read S reads reads' ss l alike x y in
        (z.source, z.holds, λ k e. read_kept R C (Counted d reads ws (first_target target) (first_edges exits)) (first_of_rows rows ++ p) z.operand k z.there' (subst (λ s. Among s z.operand) e z.among))
    by-counted d reads reads' ws ws' target exits rows S p r (by_next a o out' f) alike out ready fine laid =
        let z = out' rows (after_both ws ws' S) p r refl ready fine.3 laid in (
          settled (through ws z.0),
          alike-back S (through ws z.0) l (subst (AlikeFill S (through ws z.0)) f z.1),
          back (Counted d reads ws (first_target target) (first_edges exits)) (first_of_rows rows ++ p) z.0 refl z.2,
        )
    by-counted d reads reads' ws ws' target exits rows S p r (by_leap e a b m x g f) alike out ready fine laid =
        let z = along-way exits (after_both ws ws' S) e a b out m x g in
        let s = settled (through z.0.first z.2) in (
          settled (through ws s),
          alike-back S (through ws s) l (subst (AlikeFill S (through ws s)) f z.3),
          back-along (Counted d reads ws (first_target target) (first_edges exits)) (first_of_rows rows ++ p) exits z.0 z.2 refl z.1 z.4,
        )
    by-counted d reads reads' ws ws' target exits rows S p r (by_phi e w m x) alike out ready fine laid = absurd (no-way-phi (second_edges exits) e w fine.0 m x)
    by-counted d reads reads' ws ws' target exits rows S p r (by_store s k w f n) alike out ready fine laid = absurd (opposite (is_slot l) (fine.1 s k w l f) n)
    by-counted d reads reads' ws ws' target exits rows S p r (by_kept a e f) alike out ready fine laid = absurd (opposite (R l) (fine.2 a l e f) free)

    -- the place's other rows
    within : (rows : List Row) (S : Rel) (p r : Code) → (◌≡◌ {A = Code} (i ∷ q) r → Found E p l) → Laid p r → i ∷ q ≡ second_of_rows rows ++ r → Ready rows S → Fine R (second_of_rows rows) → Found S (first_of_rows rows ++ p) l
    within [] S p r on laid e ready fine = let z = on e in (z.0, subst (λ u. S z.0 u) (sym z.1.1) (ready-now S ready z.0 z.1.0), z.2)
    within (FirstSilent reads ws ∷ rows) S p r on laid e ready fine =
        let z = within rows (after_first ws S) p r on laid e (λ s o. ready s o) fine in
        (settled (through ws z.0), z.1, back (Silent reads ws) (first_of_rows rows ++ p) z.0 refl z.2)
    within (SecondSilent reads ws ∷ rows) S p r on laid e ready fine =
        let k = second_of_rows rows ++ r in
        by-silent reads ws rows S p r (subst (λ x. Cause x k l) (head-of i (Silent reads ws) q k e) (subst (λ y. Cause i y l) (rest-of i (Silent reads ws) q k e) cause)) (λ s o. ready s o) fine laid
    within (BothCounted d reads reads' ws ws' target exits ∷ rows) S p r on laid e ready fine =
        let k = second_of_rows rows ++ r in
        let j = Counted d reads' ws' (second_target target) (second_edges exits) in
        by-counted d reads reads' ws ws' target exits rows S p r (subst (λ x. Cause x k l) (head-of i j q k e) (subst (λ y. Cause i y l) (rest-of i j q k e) cause)) (ready Undef refl).0 (ready Undef refl).2 (λ s o. (ready s o).3) fine laid
    within (BothStart n ∷ rows) S p r on laid e ready fine = absurd fine
    within (BothEnd falls exits ∷ rows) S p r on laid e ready fine = absurd fine

    by-start : (n : ℕ) (p r : Code) → Cause (BlockStart n) r l → Laid p r → Found E (BlockStart n ∷ p) l
    by-start n p r (by_read ss x y) laid = absurd (none_among ss x)
    by-start n p r (by_next a o out f) laid =
        let z = out [] E p r refl (λ s o. ((((o, refl), tt), tt), tt, (λ e m. absurd (none_among e m)), tt)) tt laid in
        (settled (through [] z.0), subst (λ u. E (settled (through [] z.0)) u) (ap settled f) (subst (λ s. E s (FromLane a)) (sym (same z.0)) z.1), back (BlockStart n) p z.0 refl z.2)
      where
        same : (s : Source) → settled (through [] s) ≡ s
        same (FromLane a) = refl
        same Undef = refl
        same (Bits c low width) = refl
    by-start n p r (by_leap e a b m x g f) laid = absurd (none_among e m)
    by-start n p r (by_phi e w m x) laid = absurd (none_among e m)
    by-start n p r (by_store s k w f t) laid = absurd (opposite (is_slot l) (ap is_slot (sym (lane-inj (SlotLane s k w) l f))) t)
    by-start n p r (by_kept a e f) laid = absurd (opposite (R l) (ap R (sym (lane-inj a l f)) ∙ e) free)

    by-end : (falls falls' : Option Writes) (exits : List EdgePair) (p r : Code) → Cause (BlockEnd falls' (second_edges exits)) r l → Exits K exits E → AllBare (second_edges exits) → Found E (BlockEnd falls (first_edges exits) ∷ p) l
    by-end falls falls' exits p r (by_read ss x y) out bare = absurd (none_among ss x)
    by-end falls falls' exits p r (by_next a o z f) out bare = absurd (cc)
    by-end falls falls' exits p r (by_leap e a b m x g f) out bare =
        let z = along-way exits E e a b out m x g in
        let s = settled (through z.0.first z.2) in
        (settled (through [] s), subst (λ u. E (settled (through [] s)) u) (ap settled f) (subst (λ y. E y (FromLane b)) (sym (same s)) z.3), back-along (BlockEnd falls (first_edges exits)) p exits z.0 z.2 refl z.1 z.4)
      where
        same : (s : Source) → settled (through [] s) ≡ s
        same (FromLane a) = refl
        same Undef = refl
        same (Bits c low width) = refl
    by-end falls falls' exits p r (by_phi e w m x) out bare = absurd (no-way-phi (second_edges exits) e w bare m x)
    by-end falls falls' exits p r (by_store s k w f t) out bare = absurd (opposite (is_slot l) (ap is_slot (sym (lane-inj (SlotLane s k w) l f))) t)
    by-end falls falls' exits p r (by_kept a e f) out bare = absurd (opposite (R l) (ap R (sym (lane-inj a l f)) ∙ e) free)

    at-place : {p r : Code} → Laid p r → ◌≡◌ {A = Code} (i ∷ q) r → Found E p l
    at-place no_more e = absurd (cc)
    at-place (begins n {p = p} {q = r} d) e = by-start n p r (subst (λ x. Cause x r l) (head-of i (BlockStart n) q r e) (subst (λ y. Cause i y l) (rest-of i (BlockStart n) q r e) cause)) d
    at-place (goes rows {p = p} {q = r} ready fine d) e = within rows E p r (at-place d) d e ready fine
    at-place (ends falls falls' exits {p = p} {q = r} out bare d) e =
        let j = BlockEnd falls' (second_edges exits) in
        by-end falls falls' exits p r (subst (λ x. Cause x r l) (head-of i j q r e) (subst (λ y. Cause i y l) (rest-of i j q r e) cause)) out bare

    settle : Out (i ∷ q) l
    settle rows S p r e ready fine d = within rows S p r (at-place d) d e ready fine

  module _ (starts : (n : ℕ) → Laid (found n C) (found n D)) where
    itself-ready : Ready [] E
    itself-ready = λ s o. ((((o, refl), tt), tt), tt, (λ e m. absurd (none_among e m)), tt)

    -- what is live in the second within a place has a source
    has-source : {q : Code} {l : Lane} → Live R D q l → Out q l
    has-source (live.read {i = i} {p = q} {l = l} x y r) = settle i q l (by_read _ x y) r
    has-source (live.next {i = i} {p = q} {l = l} {a = a} o h f r) = settle i q l (by_next a o (has-source h) f) r
    has-source (live.leap {i = i} {p = q} {e = e} {l = l} {a = a} {b = b} x h g f r) = settle i q l (by_leap e a b x (has-source h [] E (found e.block C) (found e.block D) refl itself-ready tt (starts e.block)) g f) r
    has-source (live.phi {i = i} {p = q} {e = e} {w = w} {l = l} x y g f r) = settle i q l (by_phi e w x y) r
    has-source (live.store w {i = i} {p = q} {s = s} {k = k} {l = l} o h f t r) = settle i q l (by_store s k w f t) r
    has-source (live.kept {i = i} {p = q} {l = l} {a = a} s f r) = settle i q l (by_kept a s f) r

    free-of : {q : Code} {l : Lane} → Live R D q l → R l ≡ false
    free-of (live.read x y r) = r
    free-of (live.next o h f r) = r
    free-of (live.leap x h g f r) = r
    free-of (live.phi x y g f r) = r
    free-of (live.store w o h f t r) = r
    free-of (live.kept s f r) = r

    -- what is live in the second at the start of a block is live in the first
    pub was-live : (n : ℕ) (l : Lane) → Live R D (found n D) l → Live R C (found n C) l
    was-live n l h =
        let z = has-source h [] E (found n C) (found n D) refl itself-ready tt (starts n) in
        go (z.2 l (sym z.1.1))
      where
        go : Kept R C (found n C) l → Live R C (found n C) l
        go (inl x) = x
        go (inr r) = absurd (opposite (R l) r (free-of h))

  -- where the codes are side by side, they are from the start of each block on
  goes-past : (n : ℕ) (rows : List Row) (p : Code) → Fine R (second_of_rows rows) → found n (first_of_rows rows ++ p) ≡ found n p
  goes-past n [] p fine = refl
  goes-past n (FirstSilent reads ws ∷ rows) p fine = goes-past n rows p fine
  goes-past n (SecondSilent reads ws ∷ rows) p fine = goes-past n rows p fine.3
  goes-past n (BothCounted d reads reads' ws ws' target exits ∷ rows) p fine = goes-past n rows p fine.3
  goes-past n (BothStart m ∷ rows) p fine = absurd fine
  goes-past n (BothEnd falls exits ∷ rows) p fine = absurd fine

  goes-past-second : (n : ℕ) (rows : List Row) (p : Code) → Fine R (second_of_rows rows) → found n (second_of_rows rows ++ p) ≡ found n p
  goes-past-second n [] p fine = refl
  goes-past-second n (FirstSilent reads ws ∷ rows) p fine = goes-past-second n rows p fine
  goes-past-second n (SecondSilent reads ws ∷ rows) p fine = goes-past-second n rows p fine.3
  goes-past-second n (BothCounted d reads reads' ws ws' target exits ∷ rows) p fine = goes-past-second n rows p fine.3
  goes-past-second n (BothStart m ∷ rows) p fine = absurd fine
  goes-past-second n (BothEnd falls exits ∷ rows) p fine = absurd fine

  pub found-laid : (n : ℕ) {p q : Code} → Laid p q → Laid (found n p) (found n q)
  found-laid n no_more = no_more
  found-laid n (begins m {p = p} {q = q} d) = go (nat_eq m n) (found-laid n d)
    where
      go : (b : Bool) → Laid (found n p) (found n q) → Laid (cond b p (found n p)) (cond b q (found n q))
      go true ih = d
      go false ih = ih
  found-laid n (goes rows {p = p} {q = q} ready fine d) =
      subst (λ x. Laid x (found n (second_of_rows rows ++ q))) (sym (goes-past n rows p fine)) (subst (λ y. Laid (found n p) y) (sym (goes-past-second n rows q fine)) (found-laid n d))
  found-laid n (ends falls falls' exits out bare d) = found-laid n d
