-- A place whose virtual registers were replaced by tinies: reloads before, stores behind.
use Rattle.std.proofs.Common.{◌≡◌, ◌∷◌, ◌++◌, ◌⊎◌, ⊎_elim, ◌∙◌, Bool, false, List, None, refl, sym, ap, inl, inr, []}
use Rattle.meaning.specs.Code.{Code, Counted}
use Rattle.meaning.specs.InStep.{AtStarts, Graph, Passes}
use Rattle.meaning.specs.Lanes.{Homes, Reads, Writes, filled, placed, placed_fill, same_lane, settled, through}
use Rattle.meaning.specs.Live.{Among, KeptAfter, here, there}
use Rattle.meaning.specs.Perform.{width}
use Rattle.meaning.specs.declared.types.Fill.{Fill}
use Rattle.meaning.specs.declared.types.Fill.TheVariants.{Computed, Moved}
use Rattle.meaning.specs.declared.types.Lane.{Lane}
use Rattle.meaning.specs.declared.types.Rest.{Rest}
use Rattle.meaning.specs.declared.types.Row.TheVariants.{BothCounted}
use Rattle.meaning.specs.declared.types.Source.{Source}
use Rattle.meaning.specs.declared.types.Source.TheVariants.{Bits, FromLane, Undef}
use Rattle.meaning.specs.declared.types.Write.{Write}
use Rattle.laws.proofs.Flow.{none_among}
use Rattle.laws.proofs.Quiet.{filled-here, filled-past, same-false, same_or_not}
use Rattle.laws.proofs.Surround.{BackOperands, BackReads, back, back-bits, back-undef, back_fill, seconds, surround}

-- a copy of a lane: where to, and where from
abbrev pub Pair : Type 0
Pair = Lane × Lane

abbrev pub Within : Pair → List (List Pair) → Type 0
Within x [] = ⊥
Within x (g ∷ gs) = Among x g ⊎ Within x gs

abbrev pub move : Pair → Write
move x = record { lane = x.0; fill = Moved (FromLane x.1); early = false }

abbrev pub moves : List Pair → Writes
moves [] = []
moves (x ∷ xs) = move x ∷ moves xs

abbrev pub all_moves : List (List Pair) → List Writes
all_moves [] = []
all_moves (g ∷ gs) = moves g ∷ all_moves gs

abbrev HitIn : List Pair → Lane → Type 0
HitIn g l = (x : Pair) × Among x g × (x.0 ≡ l)

abbrev MissIn : List Pair → Lane → Type 0
MissIn g l = (x : Pair) → Among x g → x.0 ≡ l → ⊥

abbrev Hit : List (List Pair) → Lane → Type 0
Hit gs l = (x : Pair) × Within x gs × (x.0 ≡ l)

-- no copy writes l
abbrev pub Miss : List (List Pair) → Lane → Type 0
Miss gs l = (x : Pair) → Within x gs → x.0 ≡ l → ⊥

miss-more : (y : Pair) (g : List Pair) (l : Lane) → (y.0 ≡ l → ⊥) → MissIn g l → MissIn (y ∷ g) l
miss-more y g l n h x here e = n e
miss-more y g l n h x (there i) e = h x i e

hit_or_miss_step : (y : Pair) (g : List Pair) (l : Lane) → (y.0 ≡ l) ⊎ (same_lane y.0 l ≡ false) → HitIn g l ⊎ MissIn g l → HitIn (y ∷ g) l ⊎ MissIn (y ∷ g) l
hit_or_miss_step y g l (inl e) o = inl (y, here, e)
hit_or_miss_step y g l (inr e) (inl o) = inl (o.0, there o.1, o.2)
hit_or_miss_step y g l (inr e) (inr h) = inr (miss-more y g l (same-false y.0 l e) h)

hit_or_miss_in : (g : List Pair) (l : Lane) → HitIn g l ⊎ MissIn g l
hit_or_miss_in [] l = inr (λ x h e. none_among x h)
hit_or_miss_in (y ∷ g) l = hit_or_miss_step y g l (same_or_not y.0 l) (hit_or_miss_in g l)

hit_or_miss_both : (g : List Pair) (gs : List (List Pair)) (l : Lane) → HitIn g l ⊎ MissIn g l → Hit gs l ⊎ Miss gs l → Hit (g ∷ gs) l ⊎ Miss (g ∷ gs) l
hit_or_miss_both g gs l (inl z) o = inl (z.0, inl z.1, z.2)
hit_or_miss_both g gs l (inr h) (inl z) = inl (z.0, inr z.1, z.2)
hit_or_miss_both g gs l (inr h) (inr k) = inr (λ x w. ⊎_elim (λ i. h x i) (λ i. k x i) w)

hit_or_miss : (gs : List (List Pair)) (l : Lane) → Hit gs l ⊎ Miss gs l
hit_or_miss [] l = inr (λ x h e. h)
hit_or_miss (g ∷ gs) l = hit_or_miss_both g gs l (hit_or_miss_in g l) (hit_or_miss gs l)

miss-step : (x : Pair) (g : List Pair) (l : Lane) → (x.0 ≡ l → ⊥) → filled (moves g) l ≡ Moved (FromLane l) → (x.0 ≡ l) ⊎ (same_lane x.0 l ≡ false) → filled (moves (x ∷ g)) l ≡ Moved (FromLane l)
miss-step x g l h ih (inl e) = absurd (h e)
miss-step x g l h ih (inr e) = filled-past l (move x) (moves g) e ∙ ih

moves-miss : (g : List Pair) (l : Lane) → MissIn g l → filled (moves g) l ≡ Moved (FromLane l)
moves-miss [] l h = refl
moves-miss (x ∷ g) l h = miss-step x g l (h x here) (moves-miss g l (λ y i. h y (there i))) (same_or_not x.0 l)

hit-step : (y : Pair) (g : List Pair) (x : Pair) → (y.0 ≡ x.0 → y.1 ≡ x.1) → (same_lane y.0 x.0 ≡ false → filled (moves g) x.0 ≡ Moved (FromLane x.1)) → (y.0 ≡ x.0) ⊎ (same_lane y.0 x.0 ≡ false) → filled (moves (y ∷ g)) x.0 ≡ Moved (FromLane x.1)
hit-step y g x o ih (inl e) = filled-here x.0 (move y) (moves g) e ∙ ap (λ z. Moved (FromLane z)) (o e)
hit-step y g x o ih (inr e) = filled-past x.0 (move y) (moves g) e ∙ ih e

moves-hit : (g : List Pair) (x : Pair) → ((y : Pair) → Among y g → y.0 ≡ x.0 → y.1 ≡ x.1) → Among x g → filled (moves g) x.0 ≡ Moved (FromLane x.1)
moves-hit [] x o h = absurd (none_among x h)
moves-hit (x ∷ g) x' o here = hit-step x g x (λ _. refl) (λ e. absurd (same-false x.0 x.0 e refl)) (same_or_not x.0 x.0)
moves-hit (y ∷ g) x o (there h) = hit-step y g x (o y here) (λ e. moves-hit g x (λ z i. o z (there i)) h) (same_or_not y.0 x.0)

settled-old : (f : Fill) (s : Source) → f ≡ Moved s → settled f ≡ s
settled-old f s e = ap settled e

-- a lane that no copy writes
pub back-miss : (gs : List (List Pair)) (l : Lane) → Miss gs l → back (all_moves gs) (FromLane l) ≡ FromLane l
back-miss [] l h = refl
back-miss (g ∷ gs) l h =
    ap (λ s. settled (through (moves g) s)) (back-miss gs l (λ x i. h x (inr i)))
    ∙ settled-old (filled (moves g) l) (FromLane l) (moves-miss g l (λ x i. h x (inl i)))

-- each lane that is written has one source, and no source is written
pub record Distinct (gs : List (List Pair)) : Type 0 where
  pub once : (x y : Pair) → Within x gs → Within y gs → y.0 ≡ x.0 → y.1 ≡ x.1
  pub free : (x y : Pair) → Within x gs → Within y gs → y.0 ≡ x.1 → ⊥

distinct-rest : (g : List Pair) (gs : List (List Pair)) → Distinct (g ∷ gs) → Distinct gs
distinct-rest g gs h = record { once = λ x y i j e. h.once x y (inr i) (inr j) e; free = λ x y i j e. h.free x y (inr i) (inr j) e }

back-step : (g : List Pair) (gs : List (List Pair)) (x : Pair) → Distinct (g ∷ gs) → ((z : Pair) → Within z gs → back (all_moves gs) (FromLane z.0) ≡ FromLane z.1) → Among x g ⊎ Within x gs → Hit gs x.0 ⊎ Miss gs x.0 → back (all_moves (g ∷ gs)) (FromLane x.0) ≡ FromLane x.1
back-step g gs x d ih w (inl z) =
    let e : z.0.1 ≡ x.1 = d.once x z.0 w (inr z.1) z.2 in
    ap (λ l. settled (through (moves g) (back (all_moves gs) (FromLane l)))) (sym z.2)
    ∙ ap (λ s. settled (through (moves g) s)) (ih z.0 z.1 ∙ ap FromLane e)
    ∙ settled-old (filled (moves g) x.1) (FromLane x.1) (moves-miss g x.1 (λ y i. d.free x y w (inl i)))
back-step g gs x d ih (inl h) (inr n) =
    ap (λ s. settled (through (moves g) s)) (back-miss gs x.0 n)
    ∙ settled-old (filled (moves g) x.0) (FromLane x.1) (moves-hit g x (λ y i e. d.once x y (inl h) (inl i) e) h)
back-step g gs x d ih (inr h) (inr n) = absurd (n x h refl)

-- a lane that is written, from a lane that none writes
pub back-hit : (gs : List (List Pair)) (x : Pair) → Distinct gs → Within x gs → back (all_moves gs) (FromLane x.0) ≡ FromLane x.1
back-hit [] x d w = absurd w
back-hit (g ∷ gs) x d w = back-step g gs x d (λ z i. back-hit gs z (distinct-rest g gs d) i) w (hit_or_miss gs x.0)

-- Writings that are no copies, whose lanes are renamed by d
abbrev pub redefined : (Lane → Lane) → Write → Write
redefined d w = record { lane = d w.lane; fill = w.fill; early = w.early }

abbrev pub defined : (Lane → Lane) → Writes → Writes
defined d [] = []
defined d (w ∷ ws) = redefined d w ∷ defined d ws

abbrev pub NoCopies : Writes → Type 0
NoCopies ws = (w : Write) → Among w ws → (l : Lane) → w.fill ≡ Moved (FromLane l) → ⊥

module _ (d : Lane → Lane) where
  defined-step : (w : Write) (ws : Writes) (l : Lane) → (d w.lane ≡ d l → w.lane ≡ l) → ((filled (defined d ws) (d l) ≡ filled ws l) ⊎ ((filled ws l ≡ Moved (FromLane l)) × (filled (defined d ws) (d l) ≡ Moved (FromLane (d l))))) → (w.lane ≡ l) ⊎ (same_lane w.lane l ≡ false) → (d w.lane ≡ d l) ⊎ (same_lane (d w.lane) (d l) ≡ false) → ((filled (defined d (w ∷ ws)) (d l) ≡ filled (w ∷ ws) l) ⊎ ((filled (w ∷ ws) l ≡ Moved (FromLane l)) × (filled (defined d (w ∷ ws)) (d l) ≡ Moved (FromLane (d l)))))
  defined-step w ws l o ih (inl e) g = inl (filled-here (d l) (redefined d w) (defined d ws) (ap d e) ∙ sym (filled-here l w ws e))
  defined-step w ws l o ih (inr e) (inl g) = absurd (same-false w.lane l e (o g))
  defined-step w ws l o (inl h) (inr e) (inr g) = inl (filled-past (d l) (redefined d w) (defined d ws) g ∙ h ∙ sym (filled-past l w ws e))
  defined-step w ws l o (inr h) (inr e) (inr g) = inr (filled-past l w ws e ∙ h.0, filled-past (d l) (redefined d w) (defined d ws) g ∙ h.1)

  -- what a lane gets, it gets under its new name; a lane that gets nothing keeps its own
  pub defined-filled : (ws : Writes) (l : Lane) → ((w : Write) → Among w ws → d w.lane ≡ d l → w.lane ≡ l) → ((filled (defined d ws) (d l) ≡ filled ws l) ⊎ ((filled ws l ≡ Moved (FromLane l)) × (filled (defined d ws) (d l) ≡ Moved (FromLane (d l)))))
  defined-filled [] l o = inr (refl, refl)
  defined-filled (w ∷ ws) l o = defined-step w ws l (o w here) (defined-filled ws l (λ v i. o v (there i))) (same_or_not w.lane l) (same_or_not (d w.lane) (d l))

module _ (reserved : Lane → Bool) (code : Code) (at : AtStarts) (h h' : Homes) (d : Lane → Lane) (p : Code) (r : Rest) (reads reads' : Reads) (ws : Writes) (loads stores : List (List Pair)) where
  -- no reload writes this source
  abbrev pub Untouched : List (List Pair) → Source → Type 0
  Untouched gs (FromLane l) = Miss gs l
  Untouched gs Undef = Unit {0}
  Untouched gs (Bits c low width) = Unit {0}

  -- a source that the second reads: reloaded from its home, or read there
  abbrev pub Reloaded : Source → Source → Type 0
  Reloaded s t = ((x : Pair) × Within x loads × (placed h s ≡ FromLane x.1) × (t ≡ FromLane x.0)) ⊎ ((t ≡ placed h s) × Untouched loads (placed h s))

  abbrev pub ReloadedReads : List Source → List Source → Type 0
  ReloadedReads [] [] = Unit {0}
  ReloadedReads [] (t ∷ ts) = ⊥
  ReloadedReads (s ∷ ss) [] = ⊥
  ReloadedReads (s ∷ ss) (t ∷ ts) = Reloaded s t × ReloadedReads ss ts

  abbrev pub ReloadedOperands : Reads → Reads → Type 0
  ReloadedOperands [] [] = Unit {0}
  ReloadedOperands [] (t ∷ ts) = ⊥
  ReloadedOperands (s ∷ ss) [] = ⊥
  ReloadedOperands (s ∷ ss) (t ∷ ts) = ReloadedReads s t × ReloadedOperands ss ts

  -- no definition writes this source
  abbrev pub Unwritten : Source → Type 0
  Unwritten (FromLane l) = (w : Write) → Among w ws → d w.lane ≡ l → ⊥
  Unwritten Undef = Unit {0}
  Unwritten (Bits c low width) = Unit {0}

  -- The instruction gives in lanes by d what the first gives in its own.
  pub record Apart : Type 0 where
    pub loads_apart : Distinct loads
    pub stores_apart : Distinct stores
    pub uses : ReloadedOperands reads reads'
    pub no_copies : NoCopies ws
    -- what is kept and not written stays at home: no reload, no definition and no store touches that
    pub others : (a : Lane) → KeptAfter reserved code (Counted r reads ws None []) p a → filled ws a ≡ Moved (FromLane a) →
        (h' a ≡ h a) × Untouched loads (h a) × Unwritten (h a) × Untouched stores (h a)
    -- what is kept and written is stored at its home, or written there
    pub given : (a : Lane) → KeptAfter reserved code (Counted r reads ws None []) p a → (filled ws a ≡ Moved (FromLane a) → ⊥) →
        ((w : Write) → Among w ws → d w.lane ≡ d a → w.lane ≡ a) × (((b : Lane) × (h' a ≡ FromLane b) × Within (b, d a) stores) ⊎ ((h' a ≡ FromLane (d a)) × Miss stores (d a)))

  back-untouched : (gs : List (List Pair)) (s : Source) → Untouched gs s → back (all_moves gs) s ≡ s
  back-untouched gs (FromLane l) u = back-miss gs l u
  back-untouched gs Undef u = back-undef (all_moves gs)
  back-untouched gs (Bits c low width) u = back-bits (all_moves gs) c low width

  defined-miss : (vs : Writes) (l : Lane) → ((w : Write) → Among w vs → d w.lane ≡ l → ⊥) → filled (defined d vs) l ≡ Moved (FromLane l)
  defined-miss [] l o = refl
  defined-miss (w ∷ vs) l o = go (same_or_not (d w.lane) l) (defined-miss vs l (λ v i. o v (there i)))
    where
      go : (d w.lane ≡ l) ⊎ (same_lane (d w.lane) l ≡ false) → filled (defined d vs) l ≡ Moved (FromLane l) → filled (defined d (w ∷ vs)) l ≡ Moved (FromLane l)
      go (inl e) ih = absurd (o w here e)
      go (inr e) ih = filled-past l (redefined d w) (defined d vs) e ∙ ih

  through-unwritten : (s : Source) → Unwritten s → through (defined d ws) s ≡ Moved s
  through-unwritten (FromLane l) u = defined-miss ws l u
  through-unwritten Undef u = refl
  through-unwritten (Bits c low width) u = refl

  -- a lane has what the instruction gave it, or its own value
  given-or-own : (vs : Writes) (a : Lane) → NoCopies vs → (filled vs a ≡ Moved (FromLane a)) ⊎ ((l : Lane) → filled vs a ≡ Moved (FromLane l) → ⊥)
  given-or-own [] a o = inl refl
  given-or-own (w ∷ vs) a o = go (same_or_not w.lane a) (given-or-own vs a (λ v i. o v (there i)))
    where
      go : (w.lane ≡ a) ⊎ (same_lane w.lane a ≡ false) → (filled vs a ≡ Moved (FromLane a)) ⊎ ((l : Lane) → filled vs a ≡ Moved (FromLane l) → ⊥) → (filled (w ∷ vs) a ≡ Moved (FromLane a)) ⊎ ((l : Lane) → filled (w ∷ vs) a ≡ Moved (FromLane l) → ⊥)
      go (inl e) ih = inr (λ l g. o w here l (sym (filled-here a w vs e) ∙ g))
      go (inr e) (inl g) = inl (filled-past a w vs e ∙ g)
      go (inr e) (inr g) = inr (λ l f. g l (sym (filled-past a w vs e) ∙ f))

  same-fill : (f g : Fill) → g ≡ f → ((l : Lane) → f ≡ Moved (FromLane l) → ⊥) → back_fill (all_moves loads) g ≡ placed_fill h f
  same-fill (Moved (FromLane l)) g e n = absurd (n l refl)
  same-fill (Moved Undef) g e n = ap (back_fill (all_moves loads)) e ∙ ap Moved (back-undef (all_moves loads))
  same-fill (Moved (Bits c low width)) g e n = ap (back_fill (all_moves loads)) e ∙ ap Moved (back-bits (all_moves loads) c low width)
  same-fill (Computed i) g e n = ap (back_fill (all_moves loads)) e

  module _ (o : Apart) where
    back-source : (s t : Source) → Reloaded s t → back (all_moves loads) t ≡ placed h s
    back-source s t (inl z) = ap (back (all_moves loads)) z.3 ∙ back-hit loads z.0 o.loads_apart z.1 ∙ sym z.2
    back-source s t (inr z) = ap (back (all_moves loads)) z.0 ∙ back-untouched loads (placed h s) z.1

    back-reads : (ss ts : List Source) → ReloadedReads ss ts → BackReads h (all_moves loads) ss ts
    back-reads [] [] b = b
    back-reads [] (t ∷ ts) b = b
    back-reads (s ∷ ss) [] b = b
    back-reads (s ∷ ss) (t ∷ ts) b = (back-source s t b.0, back-reads ss ts b.1)

    back-operands : (ss ts : Reads) → ReloadedOperands ss ts → BackOperands h (all_moves loads) ss ts
    back-operands [] [] b = b
    back-operands [] (t ∷ ts) b = b
    back-operands (s ∷ ss) [] b = b
    back-operands (s ∷ ss) (t ∷ ts) b = (back-reads s t b.0, back-operands ss ts b.1)

    abbrev Lands : Lane → Type 0
    Lands a = back_fill (all_moves loads) (through (defined d ws) (back (all_moves stores) (h' a))) ≡ placed_fill h (filled ws a)

    lands-other : (a : Lane) → KeptAfter reserved code (Counted r reads ws None []) p a → filled ws a ≡ Moved (FromLane a) → Lands a
    lands-other a k e =
        let z = o.others a k e in
        ap (λ s. back_fill (all_moves loads) (through (defined d ws) (back (all_moves stores) s))) z.0
        ∙ ap (λ s. back_fill (all_moves loads) (through (defined d ws) s)) (back-untouched stores (h a) z.3)
        ∙ ap (back_fill (all_moves loads)) (through-unwritten (h a) z.2)
        ∙ ap Moved (back-untouched loads (h a) z.1)
        ∙ sym (ap (placed_fill h) e)

    lands-given : (a : Lane) → ((l : Lane) → filled ws a ≡ Moved (FromLane l) → ⊥) → ((w : Write) → Among w ws → d w.lane ≡ d a → w.lane ≡ a) → ((b : Lane) × (h' a ≡ FromLane b) × Within (b, d a) stores) ⊎ ((h' a ≡ FromLane (d a)) × Miss stores (d a)) → Lands a
    lands-given a n one where_it_is = go where_it_is
      where
        fills : ((filled (defined d ws) (d a) ≡ filled ws a) ⊎ ((filled ws a ≡ Moved (FromLane a)) × (filled (defined d ws) (d a) ≡ Moved (FromLane (d a))))) → back_fill (all_moves loads) (filled (defined d ws) (d a)) ≡ placed_fill h (filled ws a)
        fills (inl e) = same-fill (filled ws a) (filled (defined d ws) (d a)) e n
        fills (inr e) = absurd (n a e.0)

        go : ((b : Lane) × (h' a ≡ FromLane b) × Within (b, d a) stores) ⊎ ((h' a ≡ FromLane (d a)) × Miss stores (d a)) → Lands a
        go (inl s) =
            ap (λ x. back_fill (all_moves loads) (through (defined d ws) (back (all_moves stores) x))) s.1
            ∙ ap (λ x. back_fill (all_moves loads) (through (defined d ws) x)) (back-hit stores (s.0, d a) o.stores_apart s.2)
            ∙ fills (defined-filled d ws a one)
        go (inr s) =
            ap (λ x. back_fill (all_moves loads) (through (defined d ws) (back (all_moves stores) x))) s.0
            ∙ ap (λ x. back_fill (all_moves loads) (through (defined d ws) x)) (back-miss stores (d a) s.1)
            ∙ fills (defined-filled d ws a one)

    lands : (a : Lane) → KeptAfter reserved code (Counted r reads ws None []) p a → Lands a
    lands a k = go (given-or-own ws a o.no_copies)
      where
        go : (filled ws a ≡ Moved (FromLane a)) ⊎ ((l : Lane) → filled ws a ≡ Moved (FromLane l) → ⊥) → Lands a
        go (inl e) = lands-other a k e
        go (inr n) = let g = o.given a k (n a) in lands-given a n g.0 g.1

    pub tiny_place : Passes reserved code at h' p (seconds (all_moves loads) ++ BothCounted r reads reads' ws (defined d ws) None [] ∷ seconds (all_moves stores)) (Graph reserved code h (Counted r reads ws None [] ∷ p))
    tiny_place = surround reserved code at h h' p r reads reads' ws (defined d ws) (all_moves loads) (all_moves stores) (back-operands reads reads' o.uses) lands
