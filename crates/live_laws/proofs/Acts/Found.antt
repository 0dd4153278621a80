-- The writing and the reading of an instruction among the pieces of a lane in its block, whose numbers rise.
use Rattle.std.proofs.Common.{◌≡◌, ◌<◌, ◌≤◌, ℕ, zero, suc, Bool, true, false, cond, List, [], ◌∷◌, ◌++◌, Option, Some, None, map, refl, ap, ◌∙◌, arith, eq-eqb, ne_eqb}
use Rattle.std.specs.Prelude.{find, nat_eq, option_map, slice_get}
use Rattle.slot_index.specs.Order.{number_of}
use Rattle.mir_meaning.specs.declared.writing.LaneDef.{LaneDef}
use Rattle.mir_meaning.specs.Paths.{Step, Use, Unused, Certain, Into, is_present, is_written, use_of, writing_of}
use Rattle.live_lanes.specs.declared.row.LaneUse.{LaneUse}
use Rattle.live_lanes.specs.Entered.{Rises, Shape, Start, reading, reading_of, readings_until, start_of, starts}
use Rattle.live_lanes.specs.Graph.{writes_in}
use Rattle.live_lanes.specs.Lasting.{readings_of, start_readings}
use Rattle.live_lanes.specs.Ordered.{AreRising}
use Rattle.live_lanes.specs.Table.{Begun, Numbers, Seen, begun_readings, readings_in}
use Rattle.live_lanes.specs.Touching.{begun_by, reading_ids}

-- the pieces of a lane, from a step on
abbrev pub cut : Bool → ℕ → List Step → Shape
cut last l ss = record { is_read_last = last; readings = readings_until l ss; segments = starts l ss }

-- the piece that a step begins, if it writes the lane
abbrev pub begun_here : ℕ → List Step → ℕ → Option LaneDef → Option Start
begun_here l rest id o = option_map (λ w. record { start = id; early = w.early; from = w.from; readings = readings_until l rest }) o

-- its reading of the lane, if it uses it
abbrev pub used_here : ℕ → Use → Option LaneUse
used_here id Unused = None
used_here id Certain = Some (reading id None)
used_here id (Into a) = Some (reading id (Some a))

-- the pieces by what is seen of them

pub found-start : (id : ℕ) (ss : List Begun) → option_map start_of (begun_by id ss) ≡ find (λ s. nat_eq s.start id) (map start_of ss)
found-start id [] = refl
found-start id (s ∷ ss) = go (nat_eq s.start id) (found-start id ss)
  where
    go : (t : Bool) → option_map start_of (begun_by id ss) ≡ find (λ s. nat_eq s.start id) (map start_of ss) → option_map start_of (cond t (Some s) (begun_by id ss)) ≡ cond t (Some (start_of s)) (find (λ s. nat_eq s.start id) (map start_of ss))
    go true ih = refl
    go false ih = ih

pub readings-same : (v : Seen) (last : Bool) (m : ℕ) → readings_in v m ≡ readings_of (record { is_read_last = last; readings = v.readings; segments = map start_of v.segments }) m
readings-same v last zero = refl
readings-same v last (suc k) = go v.segments k
  where
    go : (ss : List Begun) (j : ℕ) → begun_readings (slice_get ss j) ≡ start_readings (slice_get (map start_of ss) j)
    go [] j = refl
    go (s ∷ ss) zero = refl
    go (s ∷ ss) (suc j) = go ss j

module _ (ranks : Numbers) (l id : ℕ) where
  abbrev is_start : Start → Bool
  is_start s = nat_eq s.start id

  abbrev is_reading : LaneUse → Bool
  is_reading r = nat_eq r.id id

  other-above : (a n : ℕ) → n < number_of ranks a → number_of ranks id ≤ n → nat_eq a id ≡ false
  other-above a n h le = ne_eqb a id (λ e. let z : number_of ranks a ≡ number_of ranks id = ap (number_of ranks) e in absurd (omega (arith, z, h, le)))

  other-below : (a : ℕ) → number_of ranks a < number_of ranks id → nat_eq a id ≡ false
  other-below a h = ne_eqb a id (λ e. let z : number_of ranks a ≡ number_of ranks id = ap (number_of ranks) e in absurd (omega (arith, z, h)))

  -- behind the instruction there is none of its id

  no-start : (n : ℕ) (ss : List Step) → Rises ranks n ss → number_of ranks id ≤ n → find is_start (starts l ss) ≡ None
  no-start n [] r le = refl
  no-start n (s ∷ ss) r le = go (writing_of l s.writes) (other-above s.id n r.0 le) (no-start (number_of ranks s.id) ss r.2 (let h = r.0 in omega (arith, h, le)))
    where
      go : (o : Option LaneDef) → nat_eq s.id id ≡ false → find is_start (starts l ss) ≡ None → find is_start (elim o [ None ↦ starts l ss | Some w ↦ record { start = s.id; early = w.early; from = w.from; readings = readings_until l ss } ∷ starts l ss ]) ≡ None
      go None e ih = ih
      go (Some w) e ih = ap (λ t. cond t (Some (record { start = s.id; early = w.early; from = w.from; readings = readings_until l ss })) (find is_start (starts l ss))) e ∙ ih

  -- readings of other instructions are passed over
  skip : (a : ℕ) (u : Use) (rs : List LaneUse) → nat_eq a id ≡ false → find is_reading (reading_of a u ++ rs) ≡ find is_reading rs
  skip a Unused rs e = refl
  skip a Certain rs e = ap (λ t. cond t (Some (reading a None)) (find is_reading rs)) e
  skip a (Into b) rs e = ap (λ t. cond t (Some (reading a (Some b))) (find is_reading rs)) e

  no-reading : (n : ℕ) (ss : List Step) → Rises ranks n ss → number_of ranks id ≤ n → find is_reading (readings_until l ss) ≡ None
  no-reading n [] r le = refl
  no-reading n (s ∷ ss) r le =
      skip s.id (use_of l s) (cond (is_written l s) [] (readings_until l ss)) (other-above s.id n r.0 le)
      ∙ go (is_written l s) (no-reading (number_of ranks s.id) ss r.2 (let h = r.0 in omega (arith, h, le)))
    where
      go : (t : Bool) → find is_reading (readings_until l ss) ≡ None → find is_reading (cond t [] (readings_until l ss)) ≡ None
      go true ih = refl
      go false ih = ih

  later-above : (n : ℕ) (before : List Step) (s : Step) (rest : List Step) → Rises ranks n (before ++ s ∷ rest) → n < number_of ranks s.id
  later-above n [] s rest r = r.0
  later-above n (b ∷ before) s rest r = let h = r.0 in let z = later-above (number_of ranks b.id) before s rest r.2 in omega (arith, h, z)

  module _ (s : Step) (rest : List Step) (named : s.id ≡ id) where
    same-number : number_of ranks s.id ≡ number_of ranks id
    same-number = ap (number_of ranks) named

    behind : number_of ranks id ≤ number_of ranks s.id
    behind = let z = same-number in omega (arith, z)

    -- the piece that it begins
    pub first-start : (n : ℕ) (before : List Step) → Rises ranks n (before ++ s ∷ rest) → find is_start (starts l (before ++ s ∷ rest)) ≡ begun_here l rest s.id (writing_of l s.writes)
    first-start n [] r = go (writing_of l s.writes) (no-start (number_of ranks s.id) rest r.2 behind)
      where
        go : (o : Option LaneDef) → find is_start (starts l rest) ≡ None → find is_start (elim o [ None ↦ starts l rest | Some w ↦ record { start = s.id; early = w.early; from = w.from; readings = readings_until l rest } ∷ starts l rest ]) ≡ begun_here l rest s.id o
        go None ih = ih
        go (Some w) ih = ap (λ t. cond t (Some (record { start = s.id; early = w.early; from = w.from; readings = readings_until l rest })) (find is_start (starts l rest))) (eq-eqb s.id id named)
    first-start n (b ∷ before) r = go (writing_of l b.writes) (other-below b.id (let z = later-above (number_of ranks b.id) before s rest r.2 in let e = same-number in omega (arith, z, e))) (first-start (number_of ranks b.id) before r.2)
      where
        go : (o : Option LaneDef) → nat_eq b.id id ≡ false → find is_start (starts l (before ++ s ∷ rest)) ≡ begun_here l rest s.id (writing_of l s.writes)
            → find is_start (elim o [ None ↦ starts l (before ++ s ∷ rest) | Some w ↦ record { start = b.id; early = w.early; from = w.from; readings = readings_until l (before ++ s ∷ rest) } ∷ starts l (before ++ s ∷ rest) ]) ≡ begun_here l rest s.id (writing_of l s.writes)
        go None e ih = ih
        go (Some w) e ih = ap (λ t. cond t (Some (record { start = b.id; early = w.early; from = w.from; readings = readings_until l (before ++ s ∷ rest) })) (find is_start (starts l (before ++ s ∷ rest)))) e ∙ ih

    -- its reading in the piece in which its entry lies
    pub first-reading : (last : Bool) (n : ℕ) (before : List Step) → Rises ranks n (before ++ s ∷ rest) → find is_reading (readings_of (cut last l (before ++ s ∷ rest)) (writes_in l before)) ≡ used_here s.id (use_of l s)
    first-reading last n [] r = go (use_of l s) (is_written l s) (no-reading (number_of ranks s.id) rest r.2 behind)
      where
        later : (t : Bool) → find is_reading (readings_until l rest) ≡ None → find is_reading (cond t [] (readings_until l rest)) ≡ None
        later true ih = refl
        later false ih = ih

        go : (u : Use) (t : Bool) → find is_reading (readings_until l rest) ≡ None → find is_reading (reading_of s.id u ++ cond t [] (readings_until l rest)) ≡ used_here s.id u
        go Unused t ih = later t ih
        go Certain t ih = ap (λ q. cond q (Some (reading s.id None)) (find is_reading (cond t [] (readings_until l rest)))) (eq-eqb s.id id named)
        go (Into a) t ih = ap (λ q. cond q (Some (reading s.id (Some a))) (find is_reading (cond t [] (readings_until l rest)))) (eq-eqb s.id id named)
    first-reading last n (b ∷ before) r = go (before ++ s ∷ rest) (writing_of l b.writes) (writes_in l before) (other-below b.id (let z = later-above (number_of ranks b.id) before s rest r.2 in let e = same-number in omega (arith, z, e))) (first-reading last (number_of ranks b.id) before r.2)
      where
        go : (on : List Step) (o : Option LaneDef) (m : ℕ) → nat_eq b.id id ≡ false → find is_reading (readings_of (cut last l on) m) ≡ used_here s.id (use_of l s)
            → find is_reading (readings_of (record { is_read_last = last; readings = reading_of b.id (use_of l b) ++ cond (is_present o) [] (readings_until l on); segments = elim o [ None ↦ starts l on | Some w ↦ record { start = b.id; early = w.early; from = w.from; readings = readings_until l on } ∷ starts l on ] }) (cond (is_present o) (suc m) m)) ≡ used_here s.id (use_of l s)
        go on None zero e ih = skip b.id (use_of l b) (readings_until l on) e ∙ ih
        go on None (suc k) e ih = ih
        go on (Some w) zero e ih = ih
        go on (Some w) (suc k) e ih = ih

-- readings rise along each piece

weaker : (ranks : Numbers) (n m : ℕ) (ids : List ℕ) → AreRising ranks m ids → n ≤ m → AreRising ranks n ids
weaker ranks n m [] a le = tt
weaker ranks n m (id ∷ ids) a le = (let h = a.0 in omega (arith, h, le), a.1, a.2)

rise-until : (ranks : Numbers) (l n : ℕ) (ss : List Step) → Rises ranks n ss → AreRising ranks n (reading_ids (readings_until l ss))
rise-until ranks l n [] r = tt
rise-until ranks l n (s ∷ ss) r = go (use_of l s) (is_written l s) (rise-until ranks l (number_of ranks s.id) ss r.2)
  where
    later : (t : Bool) → AreRising ranks (number_of ranks s.id) (reading_ids (readings_until l ss)) → AreRising ranks (number_of ranks s.id) (reading_ids (cond t [] (readings_until l ss)))
    later true a = tt
    later false a = a

    go : (u : Use) (t : Bool) → AreRising ranks (number_of ranks s.id) (reading_ids (readings_until l ss)) → AreRising ranks n (reading_ids (reading_of s.id u ++ cond t [] (readings_until l ss)))
    go Unused t a = weaker ranks n (number_of ranks s.id) (reading_ids (cond t [] (readings_until l ss))) (later t a) (let h = r.0 in omega (arith, h))
    go Certain t a = (r.0, r.1, later t a)
    go (Into b) t a = (r.0, r.1, later t a)

rise-starts : (ranks : Numbers) (l n : ℕ) (ss : List Step) → Rises ranks n ss → (k : ℕ) → AreRising ranks 0 (reading_ids (start_readings (slice_get (starts l ss) k)))
rise-starts ranks l n [] r k = tt
rise-starts ranks l n (s ∷ ss) r k = go (writing_of l s.writes) k (λ j. rise-starts ranks l (number_of ranks s.id) ss r.2 j)
  where
    own : AreRising ranks 0 (reading_ids (readings_until l ss))
    own = weaker ranks 0 (number_of ranks s.id) (reading_ids (readings_until l ss)) (rise-until ranks l (number_of ranks s.id) ss r.2) (omega arith)

    go : (o : Option LaneDef) (j : ℕ) → ((j : ℕ) → AreRising ranks 0 (reading_ids (start_readings (slice_get (starts l ss) j)))) → AreRising ranks 0 (reading_ids (start_readings (slice_get (elim o [ None ↦ starts l ss | Some w ↦ record { start = s.id; early = w.early; from = w.from; readings = readings_until l ss } ∷ starts l ss ]) j)))
    go None j ih = ih j
    go (Some w) zero ih = own
    go (Some w) (suc j) ih = ih j

pub rise-piece : (ranks : Numbers) (last : Bool) (l : ℕ) (ss : List Step) → Rises ranks 0 ss → (m : ℕ) → AreRising ranks 0 (reading_ids (readings_of (cut last l ss) m))
rise-piece ranks last l ss r zero = rise-until ranks l 0 ss r
rise-piece ranks last l ss r (suc k) = rise-starts ranks l 0 ss r k
