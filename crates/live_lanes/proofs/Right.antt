-- The ends by the causes of a grown table are the last points that count.
use Rattle.std.proofs.Common.{◌≡◌, ◌<◌, ◌≤◌, ℕ, zero, suc, ◌+◌, ◌*◌, Bool, true, false, cond, ◌&&◌, ◌||◌, ltb, length, List, [], ◌∷◌, ◌++◌, ◌⊎◌, Option, None, Some, refl, sym, ap, ◌∙◌, subst, inl, inr, arith, map, append_assoc, eqb-true, eq-eqb}
use Rattle.std.specs.Prelude.{slice_get, nat_eq}
use Rattle.std.specs.List.{list_any}
use Rattle.std.proofs.lemmas.Bool.{ltb-true, ltb-false}
use Rattle.slot_index.specs.Order.{number_of}
use Rattle.mir_meaning.specs.declared.writing.LaneDef.{LaneDef}
use Rattle.live_lanes.specs.declared.compute.flow.BlockFlow.{BlockFlow}
use Rattle.live_lanes.specs.declared.row.Cause.{Cause}
use Rattle.live_lanes.specs.declared.row.Cause.TheVariants as whys
use Rattle.live_lanes.specs.declared.row.PieceEnd.{PieceEnd}
use Rattle.live_lanes.specs.declared.row.PieceEnd.TheVariants as ends
use Rattle.live_lanes.specs.declared.row.LaneUse.{LaneUse}
use Rattle.live_lanes.specs.declared.row.LaneRange.{LaneRange}
use Rattle.mir_meaning.specs.Paths.{Among, here, there, Step, Code, steps_of, last_of, exits_of, has, Use, Unused, Certain, Into, use_of, is_written, is_present}
use Rattle.live_lanes.specs.Graph.{Causes, is_live, writes_in, Founded, by_reading, by_move, by_exit, by_end, by_phi, IsGrown}
use Rattle.live_lanes.specs.Ways.{successors, terminators}
use Rattle.live_lanes.specs.Table.{Numbers, entry_rank, exit_rank, end_rank}
use Rattle.live_lanes.specs.Entered.{Start, start_of, Shape, shape, starts, readings_until, reading, reading_of, shape_of, rows_seen, causes, Rises, IsTableOf}
use Rattle.live_lanes.specs.Ordered.{AreRising}
use Rattle.live_lanes.specs.Ends.{Counts, reads, moves, leaves, goes, phi, IsEnd}
use Rattle.live_lanes.specs.Lasting.{shapes, piece_of, start_readings, readings_of, later_of, last_with, reading_counts, entry_end, exit_end, leaves_in, has_live, leads_on, last_exit, last_entry, later, live_end, right_end, AreOutward}
use Rattle.live_lanes.specs.Laws.{RightLaw}
use Rattle.live_lanes.proofs.Basics.{none-among, among-append, writes-append}
use Rattle.live_lanes.proofs.Numbered.{among-cases, among-split, among-right, rises-bounded, exit-piece}
use Rattle.live_lanes.proofs.Coded.{has-among, among-has}
use Rattle.live_lanes.proofs.Lasting.{piece-shape}
use Rattle.live_lanes.proofs.Pieces.{length-starts, reads-at}
use Rattle.live_lanes.proofs.Pieces.{start_readings as piece_start}
use Rattle.live_lanes.proofs.Sources.{starts-at}
use Rattle.live_lanes.proofs.Whole.{piece-readings, readings-there}

some-inj : {X : Type 0} (x y : X) → Some x ≡ Some y → x ≡ y
some-inj x y e = cc

-- the last element that passes a test

abbrev Ascends : {X : Type 0} → (X → ℕ) → ℕ → List X → Type 0
Ascends f m [] = Unit {0}
Ascends f m (x ∷ xs) = (m < f x) × Ascends f (f x) xs

ascends-above : {X : Type 0} (f : X → ℕ) (m : ℕ) (xs : List X) (y : X) → Ascends f m xs → Among y xs → m < f y
ascends-above f m [] y a k = absurd (none-among y k)
ascends-above f m (x ∷ xs) y a k = go (among-cases y x xs k) (λ j. ascends-above f (f x) xs y a.1 j)
  where
    go : (y ≡ x) ⊎ Among y xs → (Among y xs → f x < f y) → m < f y
    go (inl e) ih = subst (λ z. m < f z) (sym e) a.0
    go (inr j) ih = let h = ih j in let low = a.0 in omega (arith, h, low)

ascends-lower : {X : Type 0} (f : X → ℕ) (m n : ℕ) (xs : List X) → m ≤ n → Ascends f n xs → Ascends f m xs
ascends-lower f m n [] h a = tt
ascends-lower f m n (x ∷ xs) h a = (let low = a.0 in omega (arith, low, h), a.1)

last-found : {X : Type 0} (test : X → Bool) (xs : List X) (x : X) → last_with test xs ≡ Some x → (test x ≡ true) × Among x xs
last-found {X = X} test [] x e = absurd (cc)
last-found {X = X} test (y ∷ xs) x e = go (last_with test xs) refl e (last-found test xs x)
  where
    first : (t : Bool) → test y ≡ t → cond t (Some y) None ≡ Some x → (test x ≡ true) × Among x (y ∷ xs)
    first true f g = let s = some-inj y x g in (ap test (sym s) ∙ f, subst (λ z. Among x (z ∷ xs)) (sym s) here)
    first false f g = absurd (cc)

    go : (q : Option X) → last_with test xs ≡ q → later_of q (cond (test y) (Some y) None) ≡ Some x → (last_with test xs ≡ Some x → (test x ≡ true) × Among x xs) → (test x ≡ true) × Among x (y ∷ xs)
    go None f g ih = first (test y) refl g
    go (Some z) f g ih = let h = ih (f ∙ g) in (h.0, there h.1)

last-greatest : {X : Type 0} (f : X → ℕ) (m : ℕ) (test : X → Bool) (xs : List X) (x : X) → Ascends f m xs → Among x xs → test x ≡ true → (y : X) × (last_with test xs ≡ Some y) × (f x ≤ f y)
last-greatest {X = X} f m test [] x a k t = absurd (none-among x k)
last-greatest {X = X} f m test (z ∷ xs) x a k t = go (among-cases x z xs k) (λ j. last-greatest f (f z) test xs x a.1 j t)
  where
    first : (x ≡ z) → (q : Option X) → last_with test xs ≡ q → (y : X) × (later_of q (cond (test z) (Some z) None) ≡ Some y) × (f x ≤ f y)
    first e None g = (z, ap (λ u. cond u (Some z) None) (ap test (sym e) ∙ t), let n = ap f e in omega (arith, n))
    first e (Some y) g =
        let w = last-found test xs y g in
        let above = ascends-above f (f z) xs y a.1 w.1 in
        (y, refl, let n = ap f e in omega (arith, n, above))

    go : (x ≡ z) ⊎ Among x xs → (Among x xs → (y : X) × (last_with test xs ≡ Some y) × (f x ≤ f y)) → (y : X) × (later_of (last_with test xs) (cond (test z) (Some z) None) ≡ Some y) × (f x ≤ f y)
    go (inl e) ih = first e (last_with test xs) refl
    go (inr j) ih = let h = ih j in (h.0, ap (λ q. later_of q (cond (test z) (Some z) None)) h.1, h.2)

-- blocks of which some passes a test

any-found : (p : ℕ → Bool) (xs : List ℕ) → list_any p xs ≡ true → (x : ℕ) × Among x xs × (p x ≡ true)
any-found p [] e = absurd (cc)
any-found p (x ∷ xs) e = go (p x) refl e (any-found p xs)
  where
    go : (t : Bool) → p x ≡ t → t || list_any p xs ≡ true → (list_any p xs ≡ true → (y : ℕ) × Among y xs × (p y ≡ true)) → (y : ℕ) × Among y (x ∷ xs) × (p y ≡ true)
    go true f g ih = (x, here, f)
    go false f g ih = let z = ih g in (z.0, there z.1, z.2)

any-there : (p : ℕ → Bool) (xs : List ℕ) (x : ℕ) → Among x xs → p x ≡ true → list_any p xs ≡ true
any-there p [] x a e = absurd (none-among x a)
any-there p (y ∷ xs) x a e = go (p y) refl (among-cases x y xs a) (λ b. any-there p xs x b e)
  where
    go : (t : Bool) → p y ≡ t → (x ≡ y) ⊎ Among x xs → (Among x xs → list_any p xs ≡ true) → t || list_any p xs ≡ true
    go true f b ih = refl
    go false f (inl g) ih = absurd (let k : false ≡ true = sym f ∙ ap p (sym g) ∙ e in cc)
    go false f (inr b) ih = ih b

-- the readings of a piece, in order

readings-same : (code : Code) (l b n : ℕ) → piece-readings l (steps_of code b) n ≡ readings_of (shape_of code l b) n
readings-same code l b zero = refl
readings-same code l b (suc k) = go (slice_get (starts l (steps_of code b)) k)
  where
    go : (q : Option Start) → piece_start q ≡ start_readings q
    go None = refl
    go (Some s) = refl

abbrev number : Numbers → LaneUse → ℕ
number slots r = number_of slots r.id

readings-ascend : (slots : Numbers) (l m : ℕ) (ss : List Step) → Rises slots m ss → Ascends (number slots) m (readings_until l ss)
readings-ascend slots l m [] r = tt
readings-ascend slots l m (s ∷ ss) r = go (use_of l s) (is_written l s) (readings-ascend slots l (number_of slots s.id) ss r.2)
  where
    rest : (t : Bool) → Ascends (number slots) (number_of slots s.id) (readings_until l ss) → Ascends (number slots) (number_of slots s.id) (cond t [] (readings_until l ss))
    rest true a = tt
    rest false a = a

    go : (u : Use) (t : Bool) → Ascends (number slots) (number_of slots s.id) (readings_until l ss) → Ascends (number slots) m (reading_of s.id u ++ cond t [] (readings_until l ss))
    go Unused t a = ascends-lower (number slots) m (number_of slots s.id) (cond t [] (readings_until l ss)) (let h = r.0 in omega (arith, h)) (rest t a)
    go Certain t a = (r.0, rest t a)
    go (Into b) t a = (r.0, rest t a)

rises-suffix : (slots : Numbers) (m : ℕ) (before : List Step) (s : Step) (rest : List Step) → Rises slots m (before ++ s ∷ rest) → Rises slots (number_of slots s.id) rest
rises-suffix slots m [] s rest r = r.2
rises-suffix slots m (x ∷ before) s rest r = rises-suffix slots (number_of slots x.id) before s rest r.2

-- where a reading of a piece stands
record Stands (code : Code) (l b n : ℕ) (r : LaneUse) : Type 0 where
  before : List Step
  step : Step
  rest : List Step
  split : steps_of code b ≡ before ++ step ∷ rest
  piece : writes_in l before ≡ n
  used : Among r (reading_of step.id (use_of l step))

stands : (code : Code) (l b n : ℕ) (r : LaneUse) → Among r (readings_of (shape_of code l b) n) → Stands code l b n r
stands code l b zero r a = let z = reads-at l r (steps_of code b) a in record { before = z.before; step = z.step; rest = z.rest; split = z.split; piece = z.unwritten; used = z.reads }
stands code l b (suc k) r a = go (slice_get (starts l (steps_of code b)) k) refl a
  where
    go : (q : Option Start) → slice_get (starts l (steps_of code b)) k ≡ q → Among r (start_readings q) → Stands code l b (suc k) r
    go None f m = absurd (none-among r m)
    go (Some st) f m =
        let g = starts-at l (steps_of code b) k st f in
        let z = reads-at l r g.rest (subst (Among r) g.readings m) in
        let w = writes-append l (g.before ++ g.step ∷ []) z.before in
        let x = g.number in
        let y = z.unwritten in
        record {
          before = (g.before ++ g.step ∷ []) ++ z.before;
          step = z.step;
          rest = z.rest;
          split = g.split ∙ ap (λ t. g.before ++ g.step ∷ t) z.split ∙ sym (append_assoc g.before (g.step ∷ []) (z.before ++ z.step ∷ z.rest)) ∙ sym (append_assoc (g.before ++ g.step ∷ []) z.before (z.step ∷ z.rest));
          piece = omega (arith, w, x, y);
          used = z.reads;
        }

piece-ascends : (code : Code) (slots : Numbers) (l b n : ℕ) → Rises slots 0 (steps_of code b) → Ascends (number slots) 0 (readings_of (shape_of code l b) n)
piece-ascends code slots l b zero r = readings-ascend slots l 0 (steps_of code b) r
piece-ascends code slots l b (suc k) r = go (slice_get (starts l (steps_of code b)) k) refl
  where
    go : (q : Option Start) → slice_get (starts l (steps_of code b)) k ≡ q → Ascends (number slots) 0 (start_readings q)
    go None f = tt
    go (Some st) f =
        let g = starts-at l (steps_of code b) k st f in
        let above = rises-suffix slots 0 g.before g.step g.rest (subst (Rises slots 0) g.split r) in
        subst (Ascends (number slots) 0) (sym g.readings) (ascends-lower (number slots) 0 (number_of slots g.step.id) (readings_until l g.rest) (omega arith) (readings-ascend slots l (number_of slots g.step.id) g.rest above))

-- how a reading came about
reading-use : (id : ℕ) (u : Use) (r : LaneUse) → Among r (reading_of id u) → ((u ≡ Certain) × (r ≡ reading id None)) ⊎ ((a : ℕ) × (u ≡ Into a) × (r ≡ reading id (Some a)))
reading-use id Unused r m = absurd (none-among r m)
reading-use id Certain r m = go (among-cases r (reading id None) [] m)
  where
    go : (r ≡ reading id None) ⊎ Among r [] → ((Certain ≡ Certain) × (r ≡ reading id None)) ⊎ ((a : ℕ) × (Certain ≡ Into a) × (r ≡ reading id (Some a)))
    go (inl e) = inl (refl, e)
    go (inr k) = absurd (none-among r k)
reading-use id (Into c) r m = go (among-cases r (reading id (Some c)) [] m)
  where
    go : (r ≡ reading id (Some c)) ⊎ Among r [] → ((Into c ≡ Certain) × (r ≡ reading id None)) ⊎ ((a : ℕ) × (Into c ≡ Into a) × (r ≡ reading id (Some a)))
    go (inl e) = inr (c, refl, e)
    go (inr k) = absurd (none-among r k)

abbrev is_entry : PieceEnd → Bool
is_entry ends.Never = false
is_entry (ends.Entry id) = true
is_entry (ends.Exit id) = false
is_entry ends.Last = false

-- the last of the entries that count, or of the other points
record Part (code : Code) (slots : Numbers) (why : Causes) (l b n : ℕ) (entry : Bool) (x : PieceEnd) : Type 0 where
  some : (x ≡ ends.Never) ⊎ Counts code why l b n x
  last : (p : PieceEnd) → Counts code why l b n p → is_entry p ≡ entry → end_rank slots p ≤ end_rank slots x

rising-ascends : (slots : Numbers) (m : ℕ) (ids : List ℕ) → AreRising slots m ids → Ascends (number_of slots) m ids
rising-ascends slots m [] r = tt
rising-ascends slots m (id ∷ ids) r = (r.0, rising-ascends slots (number_of slots id) ids r.2)

module _ (code : Code) (slots : Numbers) (flow : List BlockFlow) (rows : List LaneRange) (t : IsTableOf code slots flow rows) (out : AreOutward code slots flow) (grown : IsGrown code (causes rows)) where
  abbrev why : Causes
  why = causes rows

  abbrev h : ℕ → ℕ → Shape
  h = shapes rows

  exit-at : (l b : ℕ) (before : List Step) (s : Step) (rest : List Step) → steps_of code b ≡ before ++ s ∷ rest → piece_of slots (exit_rank slots s.id) (h l b) ≡ writes_in l (before ++ s ∷ [])
  exit-at l b before s rest e = sym (piece-shape slots (exit_rank slots s.id) (rows_seen rows l b)) ∙ exit-piece code slots t.numbered l b (rows_seen rows l b).segments (ap (λ z. z.segments) (t.entered l b)) before s rest e

  pieces : (l b : ℕ) → length (h l b).segments ≡ writes_in l (steps_of code b)
  pieces l b = ap (λ z. length z.segments) (t.entered l b) ∙ length-starts l (steps_of code b)

  among : (b : ℕ) (before : List Step) (s : Step) (rest : List Step) → steps_of code b ≡ before ++ s ∷ rest → Among s (steps_of code b)
  among b before s rest e = subst (Among s) (sym e) (among-append s before rest)

  -- a piece with a point that counts is live
  counts-live : {l b n : ℕ} {p : PieceEnd} → Counts code why l b n p → is_live (why l b n) ≡ true
  counts-live {l} {b} {n} (reads before s rest e k u) = subst (λ m. is_live (why l b m) ≡ true) k (grown.closed.reading b l before s rest e u)
  counts-live {l} {b} {n} (moves a before s rest e k u g) = subst (λ m. is_live (why l b m) ≡ true) k (grown.closed.move b l a before s rest e u g)
  counts-live {l} {b} {n} (leaves x before s rest e k f a g) = subst (λ m. is_live (why l b m) ≡ true) k (grown.closed.exit b l x before s rest e f a g)
  counts-live {l} {b} {n} (goes x k a g) = subst (λ m. is_live (why l b m) ≡ true) k (grown.closed.end b l x a g)
  counts-live {l} {b} {n} (phi k a) = subst (λ m. is_live (why l b m) ≡ true) k (grown.closed.phi b l a)

  -- none comes behind the block's end
  below-last : {l b n : ℕ} {p : PieceEnd} → Counts code why l b n p → end_rank slots p ≤ end_rank slots ends.Last
  below-last {l} {b} {n} (reads before s rest e k u) = let f = rises-bounded slots 0 (steps_of code b) s (t.numbered b) (among b before s rest e) in omega (arith, f)
  below-last {l} {b} {n} (moves a before s rest e k u g) = let f = rises-bounded slots 0 (steps_of code b) s (t.numbered b) (among b before s rest e) in omega (arith, f)
  below-last {l} {b} {n} (leaves x before s rest e k y a g) = let f = rises-bounded slots 0 (steps_of code b) s (t.numbered b) (among b before s rest e) in omega (arith, f)
  below-last {l} {b} {n} (goes x k a g) = omega arith
  below-last {l} {b} {n} (phi k a) = omega arith

  founded-alive : {l b n : ℕ} → Founded code why l b n → is_live (why l b n) ≡ true
  founded-alive (by_reading before s rest e c u) = ap is_live c
  founded-alive (by_move before s rest e c u w f) = ap is_live c
  founded-alive (by_exit before s rest e c g a f) = ap is_live c
  founded-alive (by_end c a f) = ap is_live c
  founded-alive (by_phi c a) = ap is_live c

  -- a block that follows, at whose start the lane is live
  abbrev Follows : ℕ → ℕ → Type 0
  Follows l b = (x : ℕ) × Among x (exits_of code b) × (is_live (why l x 0) ≡ true)

  followed : {l b n : ℕ} → Founded code why l b n → (x : ℕ) → why l b n ≡ whys.Follower x → Follows l b
  followed (by_reading before s rest e c u) x g = absurd (let z = sym c ∙ g in cc)
  followed (by_move before s rest e c u w f) x g = absurd (let z = sym c ∙ g in cc)
  followed (by_exit {x = y} before s rest e c k a f) x g = (y, a, founded-alive f)
  followed (by_end {x = y} c a f) x g = (y, a, founded-alive f)
  followed (by_phi c a) x g = absurd (let z = sym c ∙ g in cc)

  live-follows : (l b : ℕ) → has_live why l (successors flow b) ≡ true → Follows l b
  live-follows l b e = let z = any-found (λ x. is_live (why l x 0)) (successors flow b) e in (z.0, out.onward b z.0 z.1, z.2)

  leads : (l b n : ℕ) → is_live (why l b n) ≡ true → leads_on flow why l b (why l b n) ≡ true → Follows l b
  leads l b n live e = go (why l b n) refl e
    where
      go : (c : Cause) → why l b n ≡ c → leads_on flow why l b c ≡ true → Follows l b
      go whys.None f g = live-follows l b g
      go (whys.Reading id) f g = live-follows l b g
      go (whys.Follower x) f g = followed (grown.founded l b n live) x f
      go whys.Phi f g = live-follows l b g

  leads-nowhere : (l b : ℕ) (c : Cause) → leads_on flow why l b c ≡ false → Follows l b → ⊥
  leads-nowhere l b c e z = go c e (any-there (λ x. is_live (why l x 0)) (successors flow b) z.0 (out.whole b z.0 z.1) z.2)
    where
      go : (c : Cause) → leads_on flow why l b c ≡ false → has_live why l (successors flow b) ≡ true → ⊥
      go whys.None f g = cc
      go (whys.Reading id) f g = cc
      go (whys.Follower x) f g = cc
      go whys.Phi f g = cc

  module _ (l b n : ℕ) where
    abbrev ids : List ℕ
    ids = terminators flow b

    abbrev lies : ℕ → Bool
    lies = leaves_in slots (h l b) n

    -- a terminator that is left in the piece
    left : (before : List Step) (s : Step) (rest : List Step) → steps_of code b ≡ before ++ s ∷ rest → writes_in l (before ++ s ∷ []) ≡ n → s.leaves ≡ true → (id : ℕ) × (last_with lies ids ≡ Some id) × (number_of slots s.id ≤ number_of slots id)
    left before s rest e k f = last-greatest (number_of slots) 0 lies ids s.id (rising-ascends slots 0 ids (out.rising b)) (t.ways.leaves b s (among b before s rest e) f) (eq-eqb (piece_of slots (exit_rank slots s.id) (h l b)) n (exit-at l b before s rest e ∙ k))

    no-exits : (Follows l b → ⊥) → (Among l (last_of code b) → writes_in l (steps_of code b) ≡ n → ⊥) → Part code slots why l b n false ends.Never
    no-exits none silent = record { some = inl refl; last = λ p c g. below c g }
      where
        below : {p : PieceEnd} → Counts code why l b n p → is_entry p ≡ false → end_rank slots p ≤ 0
        below (reads before s rest e k u) g = absurd (cc)
        below (moves a before s rest e k u m) g = absurd (cc)
        below (leaves x before s rest e k y a m) g = absurd (none (x, a, m))
        below (goes x k a m) g = absurd (none (x, a, m))
        below (phi k a) g = absurd (silent a k)

    exits-part : Follows l b → (writes_in l (steps_of code b) ≡ n → ⊥) → Part code slots why l b n false (exit_end (last_with lies ids))
    exits-part z inner = go (last_with lies ids) refl
      where
        go : (q : Option ℕ) → last_with lies ids ≡ q → Part code slots why l b n false (exit_end q)
        go None f = record { some = inl refl; last = λ p c g. below c g }
          where
            below : {p : PieceEnd} → Counts code why l b n p → is_entry p ≡ false → end_rank slots p ≤ 0
            below (reads before s rest e k u) g = absurd (cc)
            below (moves a before s rest e k u m) g = absurd (cc)
            below (leaves x before s rest e k y a m) g = absurd (let w = left before s rest e k y in let v = sym f ∙ w.1 in cc)
            below (goes x k a m) g = absurd (inner k)
            below (phi k a) g = absurd (inner k)
        go (Some id) f = record { some = inr counted; last = λ p c g. below c g }
          where
            found : (lies id ≡ true) × Among id ids
            found = last-found lies ids id f

            counted : Counts code why l b n (ends.Exit id)
            counted =
                let w = t.ways.terminates b id found.1 in
                let at : writes_in l (w.0 ++ w.1 ∷ []) ≡ n = sym (exit-at l b w.0 w.1 w.2 w.3) ∙ ap (λ i. piece_of slots (exit_rank slots i) (h l b)) w.4 ∙ eqb-true (piece_of slots (exit_rank slots id) (h l b)) n found.0 in
                subst (λ i. Counts code why l b n (ends.Exit i)) w.4 (leaves z.0 w.0 w.1 w.2 w.3 at w.5 z.1 z.2)

            below : {p : PieceEnd} → Counts code why l b n p → is_entry p ≡ false → end_rank slots p ≤ end_rank slots (ends.Exit id)
            below (reads before s rest e k u) g = absurd (cc)
            below (moves a before s rest e k u m) g = absurd (cc)
            below (leaves x before s rest e k y a m) g =
                let w = left before s rest e k y in
                let same : w.0 ≡ id = some-inj w.0 id (sym w.1 ∙ f) in
                let le = w.2 in
                let n' = ap (number_of slots) same in
                omega (arith, le, n')
            below (goes x k a m) g = absurd (inner k)
            below (phi k a) g = absurd (inner k)

    exit-part : is_live (why l b n) ≡ true → (Among l (last_of code b) → writes_in l (steps_of code b) ≡ n → ⊥) → Part code slots why l b n false (last_exit slots flow why (h l b) l b n (why l b n))
    exit-part live silent = go (leads_on flow why l b (why l b n)) refl (nat_eq n (length (h l b).segments)) refl
      where
        go : (u : Bool) → leads_on flow why l b (why l b n) ≡ u → (v : Bool) → nat_eq n (length (h l b).segments) ≡ v → Part code slots why l b n false (cond u (cond v ends.Last (exit_end (last_with lies ids))) ends.Never)
        go false e v f = no-exits (leads-nowhere l b (why l b n) e) silent
        go true e true f =
            let z = leads l b n live e in
            record { some = inr (goes z.0 (sym (eqb-true n (length (h l b).segments) f ∙ pieces l b)) z.1 z.2); last = λ p c g. below-last c }
        go true e false f = exits-part (leads l b n live e) (λ k. absurd (let w : true ≡ false = sym (eq-eqb n (length (h l b).segments) (sym (pieces l b ∙ k))) ∙ f in cc))

    abbrev rs : List LaneUse
    rs = readings_of (h l b) n

    abbrev counting : LaneUse → Bool
    counting = reading_counts slots why h b

    readings-are : readings_of (shape_of code l b) n ≡ rs
    readings-are = ap (λ z. readings_of z n) (sym (t.entered l b))

    read : (before : List Step) (s : Step) (rest : List Step) (r : LaneUse) → steps_of code b ≡ before ++ s ∷ rest → writes_in l before ≡ n → Among r (reading_of s.id (use_of l s)) → counting r ≡ true → (q : LaneUse) × (last_with counting rs ≡ Some q) × (number slots r ≤ number slots q)
    read before s rest r e k a c =
        let there' = readings-there l r before s rest a in
        let in' : Among r rs = subst (Among r) (readings-same code l b n ∙ readings-are) (subst (λ m. Among r (piece-readings l (steps_of code b) m)) k (subst (λ ss. Among r (piece-readings l ss (writes_in l before))) (sym e) there')) in
        last-greatest (number slots) 0 counting rs r (subst (Ascends (number slots) 0) readings-are (piece-ascends code slots l b n (t.numbered b))) in' c

    entry-part : Part code slots why l b n true (last_entry slots why h b rs)
    entry-part = go (last_with counting rs) refl
      where
        reading-is : (s : Step) (u : Use) → use_of l s ≡ u → (r : LaneUse) → Among r (reading_of s.id u) → Among r (reading_of s.id (use_of l s))
        reading-is s u e r a = subst (λ v. Among r (reading_of s.id v)) (sym e) a

        of-reads : (before : List Step) (s : Step) (rest : List Step) → steps_of code b ≡ before ++ s ∷ rest → writes_in l before ≡ n → use_of l s ≡ Certain → (q : LaneUse) × (last_with counting rs ≡ Some q) × (number_of slots s.id ≤ number slots q)
        of-reads before s rest e k u = read before s rest (reading s.id None) e k (reading-is s Certain u (reading s.id None) here) refl

        of-moves : (a : ℕ) (before : List Step) (s : Step) (rest : List Step) → steps_of code b ≡ before ++ s ∷ rest → writes_in l before ≡ n → use_of l s ≡ Into a → is_live (why a b (writes_in a (before ++ s ∷ []))) ≡ true → (q : LaneUse) × (last_with counting rs ≡ Some q) × (number_of slots s.id ≤ number slots q)
        of-moves a before s rest e k u g = read before s rest (reading s.id (Some a)) e k (reading-is s (Into a) u (reading s.id (Some a)) here) (ap (λ m. is_live (why a b m)) (exit-at a b before s rest e) ∙ g)

        go : (q : Option LaneUse) → last_with counting rs ≡ q → Part code slots why l b n true (entry_end q)
        go None f = record { some = inl refl; last = λ p c g. below c g }
          where
            below : {p : PieceEnd} → Counts code why l b n p → is_entry p ≡ true → end_rank slots p ≤ 0
            below (reads before s rest e k u) g = absurd (let w = of-reads before s rest e k u in let v = sym f ∙ w.1 in cc)
            below (moves a before s rest e k u m) g = absurd (let w = of-moves a before s rest e k u m in let v = sym f ∙ w.1 in cc)
            below (leaves x before s rest e k y a m) g = absurd (cc)
            below (goes x k a m) g = absurd (cc)
            below (phi k a) g = absurd (cc)
        go (Some r) f = record { some = inr counted; last = λ p c g. below c g }
          where
            found : (counting r ≡ true) × Among r rs
            found = last-found counting rs r f

            at : Stands code l b n r
            at = stands code l b n r (subst (Among r) (sym readings-are) found.1)

            by : ((use_of l at.step ≡ Certain) × (r ≡ reading at.step.id None)) ⊎ ((a : ℕ) × (use_of l at.step ≡ Into a) × (r ≡ reading at.step.id (Some a))) → Counts code why l b n (ends.Entry r.id)
            by (inl z) = subst (λ i. Counts code why l b n (ends.Entry i)) (sym (ap (λ x. x.id) z.1)) (reads at.before at.step at.rest at.split at.piece z.0)
            by (inr z) =
                let live = ap (λ m. is_live (why z.0 b m)) (sym (exit-at z.0 b at.before at.step at.rest at.split)) ∙ sym (ap counting z.2) ∙ found.0 in
                subst (λ i. Counts code why l b n (ends.Entry i)) (sym (ap (λ x. x.id) z.2)) (moves z.0 at.before at.step at.rest at.split at.piece z.1 live)

            counted : Counts code why l b n (ends.Entry r.id)
            counted = by (reading-use at.step.id (use_of l at.step) r at.used)

            least : (id : ℕ) → (q : LaneUse) × (last_with counting rs ≡ Some q) × (number_of slots id ≤ number slots q) → entry_rank slots id ≤ entry_rank slots r.id
            least id w =
                let same : w.0 ≡ r = some-inj w.0 r (sym w.1 ∙ f) in
                let le = w.2 in
                let n' = ap (number slots) same in
                omega (arith, le, n')

            below : {p : PieceEnd} → Counts code why l b n p → is_entry p ≡ true → end_rank slots p ≤ entry_rank slots r.id
            below (reads before s rest e k u) g = least s.id (of-reads before s rest e k u)
            below (moves a before s rest e k u m) g = least s.id (of-moves a before s rest e k u m)
            below (leaves x before s rest e k y a m) g = absurd (cc)
            below (goes x k a m) g = absurd (cc)
            below (phi k a) g = absurd (cc)

    -- the later of both
    both : (x y : PieceEnd) → Part code slots why l b n false x → Part code slots why l b n true y → IsEnd code slots why l b n (later slots x y)
    both x y px py = go (ltb (end_rank slots x) (end_rank slots y)) refl
      where
        go : (u : Bool) → ltb (end_rank slots x) (end_rank slots y) ≡ u → IsEnd code slots why l b n (cond u y x)
        go true e = record { counts = py.some; last = λ p c. below p c (is_entry p) refl }
          where
            below : (p : PieceEnd) → Counts code why l b n p → (v : Bool) → is_entry p ≡ v → end_rank slots p ≤ end_rank slots y
            below p c true f = py.last p c f
            below p c false f = let k = px.last p c f in let m = ltb-true (end_rank slots x) (end_rank slots y) e in omega (arith, k, m)
        go false e = record { counts = px.some; last = λ p c. below p c (is_entry p) refl }
          where
            below : (p : PieceEnd) → Counts code why l b n p → (v : Bool) → is_entry p ≡ v → end_rank slots p ≤ end_rank slots x
            below p c true f = let k = py.last p c f in let m = ltb-false (end_rank slots x) (end_rank slots y) e in omega (arith, k, m)
            below p c false f = px.last p c f

    dead-end : is_live (why l b n) ≡ false → IsEnd code slots why l b n ends.Never
    dead-end e = record { counts = inl refl; last = λ p c. absurd (let k : true ≡ false = sym (counts-live c) ∙ e in cc) }

    last-is : (h l b).is_read_last ≡ has l (last_of code b)
    last-is = ap (λ z. z.is_read_last) (t.entered l b)

    live-end : is_live (why l b n) ≡ true → IsEnd code slots why l b n (live_end slots flow why h (h l b) l b n (why l b n) rs)
    live-end live = go (h l b).is_read_last refl (nat_eq n (length (h l b).segments)) refl
      where
        parts : (Among l (last_of code b) → writes_in l (steps_of code b) ≡ n → ⊥) → IsEnd code slots why l b n (later slots (last_exit slots flow why (h l b) l b n (why l b n)) (last_entry slots why h b rs))
        parts silent = both (last_exit slots flow why (h l b) l b n (why l b n)) (last_entry slots why h b rs) (exit-part live silent) entry-part

        go : (u : Bool) → (h l b).is_read_last ≡ u → (v : Bool) → nat_eq n (length (h l b).segments) ≡ v → IsEnd code slots why l b n (cond (u && v) ends.Last (later slots (last_exit slots flow why (h l b) l b n (why l b n)) (last_entry slots why h b rs)))
        go true e true f = record { counts = inr (phi (sym (eqb-true n (length (h l b).segments) f ∙ pieces l b)) (has-among l (last_of code b) (sym last-is ∙ e))); last = λ p c. below-last c }
        go true e false f = parts (λ a k. absurd (let w : true ≡ false = sym (eq-eqb n (length (h l b).segments) (sym (pieces l b ∙ k))) ∙ f in cc))
        go false e v f = parts (λ a k. absurd (let w : true ≡ false = sym (among-has l (last_of code b) a) ∙ sym last-is ∙ e in cc))

    right : IsEnd code slots why l b n (right_end slots flow why h l b n)
    right = go (is_live (why l b n)) refl
      where
        go : (u : Bool) → is_live (why l b n) ≡ u → IsEnd code slots why l b n (cond u (live_end slots flow why h (h l b) l b n (why l b n) rs) ends.Never)
        go true e = live-end e
        go false e = dead-end e

pub right-law : RightLaw
right-law code slots flow rows t out grown l b n = right code slots flow rows t out grown l b n
