-- Where codes match item by item under one map, the second does what the first did also from a start at which more is
-- defined. The law of steps asks for equal starts, and tells both directions.
use Rattle.std.proofs.Common.{◌≡◌, ◌∷◌, ℕ, Bool, true, List, Option, Some, None, refl, sym, ap, subst, map, []}
use Rattle.meaning.specs.Code.{BlockEnd, BlockStart, Code, Counted, Edge, Function, Item, Silent, found, start_state}
use Rattle.meaning.specs.Environment.{Environment}
use Rattle.meaning.specs.InStep.{Graph, Holds, Known}
use Rattle.meaning.specs.Lanes.{Reads, Writes, filled, settled, through}
use Rattle.meaning.specs.Layout.{FallsTo, LaidOut, NoPhis, NoPhisAlong, NoPhisInto}
use Rattle.meaning.specs.Live.{Among, Kept, KeptAfter, exits_of, here, in_order, there, writes_of}
use Rattle.meaning.specs.Matched.{Matched, image, image_fill, images, renamed_reads}
use Rattle.meaning.specs.Refines.{AtLeast, Refines}
use Rattle.meaning.specs.Relations.{AlikeOperands, AlikeReads, Everything, Rel, Within, after_first, after_second, along}
use Rattle.meaning.specs.Rows.{first_of_rows, second_of_rows}
use Rattle.meaning.specs.State.{fetch}
use Rattle.meaning.specs.declared.types.Fill.{Fill}
use Rattle.meaning.specs.declared.types.Fill.TheVariants.{Computed, Moved}
use Rattle.meaning.specs.declared.types.Lane.{Lane}
use Rattle.meaning.specs.declared.types.Rest.{Rest}
use Rattle.meaning.specs.declared.types.Row.{Row}
use Rattle.meaning.specs.declared.types.Row.TheVariants.{BothCounted, BothEnd, BothStart, FirstSilent, SecondSilent}
use Rattle.meaning.specs.declared.types.Source.{Source}
use Rattle.meaning.specs.declared.types.Source.TheVariants.{Bits, FromLane, Undef}
use Rattle.laws.proofs.Core.{Exits, Plan, Reaches, law_of_rows}
use Rattle.laws.proofs.Exact.{AlikeExact, CoupledExact, after_exact, forward}
use Rattle.laws.proofs.Flow.{flow, kept_along, kept_falls, kept_next, kept_start, known-source, none_among, read_kept}
use Rattle.laws.proofs.Steps.{both_below, both_into, both_ways, filled-none, first-below, first-into, first-ways, second-below, second-into, second-ways, settled-from, through-none}
use Rattle.meaning.specs.Matched as matched

module _ (reserved : Lane → Bool) (m : Lane → Lane) (code : Code) where
  -- at the exit of i what is kept has its value at its image
  abbrev KnownAfter : Item → Code → Source → Type 0
  KnownAfter i p (FromLane a) = KeptAfter reserved code i p a
  KnownAfter i p Undef = Unit {0}
  KnownAfter i p (Bits c low width) = Unit {0}

  abbrev HoldsAfter : Item → Code → Rel → Type 0
  HoldsAfter i p R = (s : Source) → KnownAfter i p s → R s (image m s)

  abbrev HoldsAt : Code → Rel → Type 0
  HoldsAt p R = Holds reserved code (images m) p R

  plan : Plan
  plan n = Graph reserved code (images m) (found n code)

  after-next : (i : Item) (p : Code) (R : Rel) → in_order i ≡ true → HoldsAfter i p R → HoldsAt p R
  after-next i p R o h (FromLane a) k = h (FromLane a) (kept_next reserved code i p a o k)
  after-next i p R o h Undef k = h Undef k
  after-next i p R o h (Bits c low width) k = h (Bits c low width) k

  -- behind a way without phis
  after-way : (i : Item) (p : Code) (R : Rel) → HoldsAfter i p R → (e : Edge) → Among e (exits_of i) → e.phis ≡ [] → (s : Source) → Known reserved code (found e.block code) s → R (settled (through e.phis s)) (settled (through e.phis (image m s)))
  after-way i p R h e x z s k = subst (λ u. R u (settled (through e.phis (image m s)))) (sym (through-none e.phis s z)) (subst (R s) (sym (through-none e.phis (image m s) z)) (go s k))
    where
      go : (s : Source) → Known reserved code (found e.block code) s → R s (image m s)
      go (FromLane a) k' = h (FromLane a) (kept_along reserved code i p e a a x k' (filled-none e.phis a z))
      go Undef k' = h Undef k'
      go (Bits c low width) k' = h (Bits c low width) k'

  way-within : (i : Item) (p : Code) (R : Rel) → HoldsAfter i p R → (e : Edge) → Among e (exits_of i) → e.phis ≡ [] → Within (plan e.block) (along (record { block = e.block; first = e.phis; second = e.phis }) R)
  unfolding plan
  way-within i p R h e x z s t k = subst (λ u. R (settled (through e.phis s)) (settled (through e.phis u))) (sym k.1) (after-way i p R h e x z s k.0)

  exits-within : (i : Item) (p : Code) (R : Rel) → HoldsAfter i p R → (es : List Edge) → ((e : Edge) → Among e es → Among e (exits_of i)) → NoPhisAlong es → Exits plan (both_ways es) R
  exits-within i p R h [] w z e x = absurd (none_among e x)
  exits-within i p R h (e ∷ es) w z f here = way-within i p R h e (w e here) z.0
  exits-within i p R h (e ∷ es) w z f (there x) = exits-within i p R h es (λ g y. w g (there y)) z.1 f x

  target-within : (r : Rest) (reads : Reads) (ws : Writes) (target : Option Edge) (exits : List Edge) (p : Code) (R : Rel) → HoldsAfter (Counted r reads ws target exits) p R → LaidOut code (Counted r reads ws target exits ∷ p) → NoPhisInto target → Reaches plan (both_into target) R
  target-within r reads ws None exits p R h l z = tt
  target-within r reads ws (Some e) exits p R h l z = way-within (Counted r reads ws (Some e) exits) p R h e l.0 z

  laid-next : (r : Rest) (reads : Reads) (ws : Writes) (target : Option Edge) (exits : List Edge) (p : Code) → LaidOut code (Counted r reads ws target exits ∷ p) → LaidOut code p
  laid-next r reads ws None exits p l = l
  laid-next r reads ws (Some e) exits p l = l.1

  end-after : (falls : Option Writes) (exits : List Edge) (p : Code) (R : Rel) → HoldsAt (BlockEnd falls exits ∷ p) R → HoldsAfter (BlockEnd falls exits) p R
  end-after falls exits p R h (FromLane a) k = h (FromLane a) (flow reserved code (BlockEnd falls exits) p a a k refl)
  end-after falls exits p R h Undef k = h Undef k
  end-after falls exits p R h (Bits c low width) k = h (Bits c low width) k

  falls-holds : (phis : Writes) (exits : List Edge) (p : Code) (R : Rel) → FallsTo phis exits p → LaidOut code p → phis ≡ [] → HoldsAt (BlockEnd (Some phis) exits ∷ p) R → HoldsAt p (after_second phis (after_first phis R))
  falls-holds phis exits p R x l z h s k = subst (λ u. R u (settled (through phis (image m s)))) (sym (through-none phis s z)) (subst (R s) (sym (through-none phis (image m s) z)) (go s k))
    where
      go : (s : Source) → Known reserved code p s → R s (image m s)
      go (FromLane a) k' = h (FromLane a) (kept_falls reserved code phis exits p a a x l k' (filled-none phis a z))
      go Undef k' = h Undef k'
      go (Bits c low width) k' = h (Bits c low width) k'

  reads-hold : (p : Code) (R : Rel) → HoldsAt p R → (ss : List Source) → ((l : Lane) → Among (FromLane l) ss → Kept reserved code p l) → AlikeReads R ss (map (image m) ss)
  reads-hold p R h [] k = tt
  reads-hold p R h (s ∷ ss) k = (h s (known-source reserved code p s (λ l e. k l (subst (λ x. Among x (s ∷ ss)) e here))), reads-hold p R h ss (λ l g. k l (there g)))

  operands-hold : (p : Code) (R : Rel) → HoldsAt p R → (reads : Reads) → ((ss : List Source) (l : Lane) → Among ss reads → Among (FromLane l) ss → Kept reserved code p l) → AlikeOperands R reads (renamed_reads m reads)
  operands-hold p R h [] k = tt
  operands-hold p R h (ss ∷ reads) k = (reads-hold p R h ss (λ l g. k ss l here g), operands-hold p R h reads (λ ts l x g. k ts l (there x) g))

  -- the fills of a lane and of its image
  fill-exact : (p : Code) (R : Rel) → HoldsAt p R → (f g : Fill) → ((l : Lane) → f ≡ Moved (FromLane l) → Kept reserved code p l) → image_fill m f ≡ g → AlikeExact R f g
  fill-exact p R h (Moved s) g k e = subst (AlikeExact R (Moved s)) e (h s (known-source reserved code p s (λ l x. k l (ap Moved x))))
  fill-exact p R h (Computed i) g k e = subst (AlikeExact R (Computed i)) e refl

  moved : (i : Item) (p : Code) (R : Rel) → HoldsAt (i ∷ p) R → (a : Lane) → KeptAfter reserved code i p a → R (settled (filled (writes_of i) a)) (image m (settled (filled (writes_of i) a)))
  moved i p R h a k = h (settled (filled (writes_of i) a)) (known-source reserved code (i ∷ p) (settled (filled (writes_of i) a)) (λ l e. flow reserved code i p a l k (settled-from (filled (writes_of i) a) l e)))

  counted-after : (r : Rest) (reads : Reads) (ws ws' : Writes) (target : Option Edge) (exits : List Edge) (p : Code) (R : Rel) → HoldsAt (Counted r reads ws target exits ∷ p) R → ((a : Lane) → KeptAfter reserved code (Counted r reads ws target exits) p a → image_fill m (filled ws a) ≡ filled ws' (m a)) → HoldsAfter (Counted r reads ws target exits) p (after_exact ws ws' R)
  counted-after r reads ws ws' target exits p R h c (FromLane a) k =
      let i = Counted r reads ws target exits in
      fill-exact (i ∷ p) R h (filled ws a) (filled ws' (m a)) (λ l e. flow reserved code i p a l k e) (c a k)
  counted-after r reads ws ws' target exits p R h c Undef k = h Undef k
  counted-after r reads ws ws' target exits p R h c (Bits n low width) k = h (Bits n low width) k

  first-holds : (reads : Reads) (ws : Writes) (p : Code) (R : Rel) → HoldsAt (Silent reads ws ∷ p) R → ((a : Lane) → KeptAfter reserved code (Silent reads ws) p a → image m (settled (filled ws a)) ≡ FromLane (m a)) → HoldsAt p (after_first ws R)
  first-holds reads ws p R h c (FromLane a) k =
      let k' = kept_next reserved code (Silent reads ws) p a refl k in
      subst (R (settled (filled ws a))) (c a k') (moved (Silent reads ws) p R h a k')
  first-holds reads ws p R h c Undef k = h Undef k
  first-holds reads ws p R h c (Bits n low width) k = h (Bits n low width) k

  second-holds : (ws' : Writes) (p : Code) (R : Rel) → HoldsAt p R → ((a : Lane) → Kept reserved code p a → settled (filled ws' (m a)) ≡ FromLane (m a)) → HoldsAt p (after_second ws' R)
  second-holds ws' p R h c (FromLane a) k = subst (R (FromLane a)) (sym (c a k)) (h (FromLane a) k)
  second-holds ws' p R h c Undef k = h Undef k
  second-holds ws' p R h c (Bits n low width) k = h (Bits n low width) k

  both-holds : (reads : Reads) (ws ws' : Writes) (p : Code) (R : Rel) → HoldsAt (Silent reads ws ∷ p) R → ((a : Lane) → KeptAfter reserved code (Silent reads ws) p a → image m (settled (filled ws a)) ≡ settled (filled ws' (m a))) → HoldsAt p (after_second ws' (after_first ws R))
  both-holds reads ws ws' p R h c (FromLane a) k =
      let k' = kept_next reserved code (Silent reads ws) p a refl k in
      subst (R (settled (filled ws a))) (c a k') (moved (Silent reads ws) p R h a k')
  both-holds reads ws ws' p R h c Undef k = h Undef k
  both-holds reads ws ws' p R h c (Bits n low width) k = h (Bits n low width) k

  rows_of : {p q : Code} → Matched reserved m code p q → List Row
  rows_of matched.done = []
  rows_of (matched.start {n = n} g) = BothStart n ∷ rows_of g
  rows_of (matched.end {falls = falls} {exits = exits} g) = BothEnd (both_below falls) (both_ways exits) ∷ rows_of g
  rows_of (matched.first {reads = reads} {ws = ws} c g) = FirstSilent reads ws ∷ rows_of g
  rows_of (matched.second {reads' = reads'} {ws' = ws'} c g) = SecondSilent reads' ws' ∷ rows_of g
  rows_of (matched.both {reads = reads} {reads' = reads'} {ws = ws} {ws' = ws'} c g) = FirstSilent reads ws ∷ SecondSilent reads' ws' ∷ rows_of g
  rows_of (matched.counted {r = r} {reads = reads} {ws = ws} {ws' = ws'} {target = target} {exits = exits} c g) =
      BothCounted r reads (renamed_reads m reads) ws ws' (both_into target) (both_ways exits) ∷ rows_of g

  first-rows : {p q : Code} (g : Matched reserved m code p q) → first_of_rows (rows_of g) ≡ p
  unfolding rows_of
  first-rows matched.done = refl
  first-rows (matched.start {n = n} g) = ap (λ p. BlockStart n ∷ p) (first-rows g)
  first-rows (matched.end {falls = falls} {exits = exits} g) = λ i. BlockEnd (first-below falls i) (first-ways exits i) ∷ first-rows g i
  first-rows (matched.first {reads = reads} {ws = ws} c g) = ap (λ p. Silent reads ws ∷ p) (first-rows g)
  first-rows (matched.second c g) = first-rows g
  first-rows (matched.both {reads = reads} {ws = ws} c g) = ap (λ p. Silent reads ws ∷ p) (first-rows g)
  first-rows (matched.counted {r = r} {reads = reads} {ws = ws} {target = target} {exits = exits} c g) =
      λ i. Counted r reads ws (first-into target i) (first-ways exits i) ∷ first-rows g i

  second-rows : {p q : Code} (g : Matched reserved m code p q) → second_of_rows (rows_of g) ≡ q
  unfolding rows_of
  second-rows matched.done = refl
  second-rows (matched.start {n = n} g) = ap (λ p. BlockStart n ∷ p) (second-rows g)
  second-rows (matched.end {falls = falls} {exits = exits} g) = λ i. BlockEnd (second-below falls i) (second-ways exits i) ∷ second-rows g i
  second-rows (matched.first c g) = second-rows g
  second-rows (matched.second {reads' = reads'} {ws' = ws'} c g) = ap (λ p. Silent reads' ws' ∷ p) (second-rows g)
  second-rows (matched.both {reads' = reads'} {ws' = ws'} c g) = ap (λ p. Silent reads' ws' ∷ p) (second-rows g)
  second-rows (matched.counted {r = r} {reads = reads} {ws' = ws'} {target = target} {exits = exits} c g) =
      λ i. Counted r (renamed_reads m reads) ws' (second-into target i) (second-ways exits i) ∷ second-rows g i

  start-within : (n : ℕ) (p : Code) (R : Rel) → found n code ≡ p → HoldsAt (BlockStart n ∷ p) R → Within (plan n) R
  unfolding plan
  start-within n p R e h s t k = subst (R s) (sym k.1) (go s (subst (λ q. Known reserved code q s) e k.0))
    where
      go : (s : Source) → Known reserved code p s → R s (image m s)
      go (FromLane a) k' = h (FromLane a) (kept_start reserved code n p a k')
      go Undef k' = h Undef k'
      go (Bits c low width) k' = h (Bits c low width) k'

  plan-holds : (n : ℕ) (p : Code) → found n code ≡ p → HoldsAt p (plan n)
  unfolding plan
  plan-holds n p e s k = (subst (λ q. Known reserved code q s) (sym e) k, refl)

  coupled : {p q : Code} (g : Matched reserved m code p q) (R : Rel) → LaidOut code p → NoPhis p → HoldsAt p R → CoupledExact plan (rows_of g) R
  unfolding rows_of
  coupled matched.done R l z h = tt
  coupled (matched.start {n = n} {p = p} g) R l z h = (start-within n p R l.0 h, coupled g (plan n) l.1 z (plan-holds n p l.0))
  coupled (matched.end {falls = Some phis} {exits = exits} {p = p} g) R l z h = (
    exits-within (BlockEnd (Some phis) exits) p R (end-after (Some phis) exits p R h) exits (λ e x. x) z.1,
    coupled g (after_second phis (after_first phis R)) l.1 z.2 (falls-holds phis exits p R l.0 l.1 z.0 h),
  )
  coupled (matched.end {falls = None} {exits = exits} {p = p} g) R l z h =
      (exits-within (BlockEnd None exits) p R (end-after None exits p R h) exits (λ e x. x) z.1, coupled g Everything l z.2 (λ s k. tt))
  coupled (matched.first {reads = reads} {ws = ws} {p = p} c g) R l z h = coupled g (after_first ws R) l z (first-holds reads ws p R h c)
  coupled (matched.second {ws' = ws'} {p = p} c g) R l z h = coupled g (after_second ws' R) l z (second-holds ws' p R h c)
  coupled (matched.both {reads = reads} {ws = ws} {ws' = ws'} {p = p} c g) R l z h = coupled g (after_second ws' (after_first ws R)) l z (both-holds reads ws ws' p R h c)
  coupled (matched.counted {r = r} {reads = reads} {ws = ws} {ws' = ws'} {target = target} {exits = exits} {p = p} c g) R l z h =
      let i = Counted r reads ws target exits in
      let R' : Rel = after_exact ws ws' R in
      let h' : HoldsAfter i p R' = counted-after r reads ws ws' target exits p R h c in (
        operands-hold (i ∷ p) R h reads (λ ss l x g. read_kept reserved code i p ss l x g),
        target-within r reads ws target exits p R' h' l z.0,
        exits-within i p R' h' exits (λ e x. x) z.1,
        coupled g R' (laid-next r reads ws target exits p l) z.2 (after-next i p R' refl h'),
      )

-- what is kept at the start is at least as defined at its image
abbrev pub StartsAtLeast : (Lane → Bool) → (Lane → Lane) → Function → Function → Type 0
StartsAtLeast reserved m f g = (env : Environment) (l : Lane) → Kept reserved f.code f.code l → AtLeast (start_state env f.given l) (start_state env g.given (m l))

pub refines-forward : (reserved : Lane → Bool) (m : Lane → Lane) (f g : Function) → StartsAtLeast reserved m f g → LaidOut f.code f.code → NoPhis f.code → Matched reserved m f.code f.code g.code → Refines f g
refines-forward reserved m f g starts laid bare x =
    let R : Rel = Graph reserved f.code (images m) f.code in
    let K : Plan = plan reserved m f.code in
    let rows = rows_of reserved m f.code x in
    law_of_rows f g K rows R (first-rows reserved m f.code x) (second-rows reserved m f.code x)
    (forward K rows R R (λ s t k. k) (coupled reserved m f.code x R laid bare (λ s k. (k, refl)))) agrees
  where
    at-image : (env : Environment) (s : Source) → Known reserved f.code f.code s → AtLeast (fetch env (start_state env f.given) s) (fetch env (start_state env g.given) (image m s))
    at-image env (FromLane a) k = starts env a k
    at-image env Undef k = tt
    at-image env (Bits c low width) k = refl

    agrees : (env : Environment) (s t : Source) → Graph reserved f.code (images m) f.code s t → AtLeast (fetch env (start_state env f.given) s) (fetch env (start_state env g.given) t)
    agrees env s t k = subst (λ u. AtLeast (fetch env (start_state env f.given) s) (fetch env (start_state env g.given) u)) (sym k.1) (at-image env s k.0)
