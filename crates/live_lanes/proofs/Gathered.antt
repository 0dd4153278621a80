-- The pieces of the first instructions of a block, and of one more.
use Rattle.std.proofs.Common.{◌≡◌, ℕ, Bool, true, false, cond, List, [], ◌∷◌, ◌++◌, Option, Some, None, map, refl, sym, ap, ◌∙◌, append-nil, append_assoc}
use Rattle.std.specs.Prelude.{nat_eq}
use Rattle.mir_meaning.specs.declared.writing.LaneDef.{LaneDef}
use Rattle.live_lanes.specs.declared.row.LaneUse.{LaneUse}
use Rattle.mir_meaning.specs.Paths.{Step, Use, Unused, Certain, Into, use_of, writing_of, is_present, is_written}
use Rattle.live_lanes.specs.Table.{Begun, Seen, ends_with, changed_last, is_none, starts_last, new_begun}
use Rattle.live_lanes.specs.Entered.{Start, Shape, start_of, reading, reading_of, readings_until, starts}
use Rattle.live_lanes.proofs.Stepped.{last_readings, appended, appended-ends, appended-starts, used, written, begun-ends, begun-starts}

-- pieces by their shapes

abbrev pub pieces : ℕ → List Step → Shape
pieces l ss = record { is_read_last = false; readings = readings_until l ss; segments = starts l ss }

abbrev pub more_readings : List LaneUse → Start → Start
more_readings rs s = record s { readings = s.readings ++ rs }

-- readings added to the last piece
abbrev pub with_readings : List LaneUse → Shape → Shape
with_readings rs v = cond (is_none v.segments) (record v { readings = v.readings ++ rs }) (record v { segments = changed_last (more_readings rs) v.segments })

abbrev pub new_start : ℕ → LaneDef → Start
new_start id w = record { start = id; early = w.early; from = w.from; readings = [] }

abbrev pub with_start : ℕ → Option LaneDef → Shape → Shape
with_start id None v = v
with_start id (Some w) v = record v { segments = v.segments ++ new_start id w ∷ [] }

abbrev pub added : ℕ → Step → Shape → Shape
added l s v = with_start s.id (writing_of l s.writes) (with_readings (reading_of s.id (use_of l s)) v)

-- one more instruction

module _ (l : ℕ) (s : Step) where
  abbrev R : List LaneUse
  R = reading_of s.id (use_of l s)

  abbrev new : Option LaneDef → List Start
  new None = []
  new (Some w) = new_start s.id w ∷ []

  abbrev rs-after : List LaneUse → List Start → List LaneUse
  rs-after rs ss = cond (is_none ss) (rs ++ R) rs

  start-split : (q : Option LaneDef) (v : Shape) → with_start s.id q v ≡ record v { segments = v.segments ++ new q }
  start-split None v = ap (λ ss. record v { segments = ss }) (sym (append-nil v.segments))
  start-split (Some w) v = refl

  added-is : (rs : List LaneUse) (ss : List Start) → added l s (record { is_read_last = false; readings = rs; segments = ss }) ≡ record { is_read_last = false; readings = rs-after rs ss; segments = changed_last (more_readings R) ss ++ new (writing_of l s.writes) }
  added-is rs [] = start-split (writing_of l s.writes) (record { is_read_last = false; readings = rs ++ R; segments = [] })
  added-is rs (x ∷ ss) = start-split (writing_of l s.writes) (record { is_read_last = false; readings = rs; segments = changed_last (more_readings R) (x ∷ ss) })

  one-start : (q : Option LaneDef) → elim q [ None ↦ [] | Some w ↦ record { start = s.id; early = w.early; from = w.from; readings = [] } ∷ [] ] ≡ new q
  one-start None = refl
  one-start (Some w) = refl

  last-readings : (q : Bool) → cond {A = List LaneUse} q [] [] ≡ []
  last-readings true = refl
  last-readings false = refl

  readings-more : (done : List Step) → readings_until l (done ++ s ∷ []) ≡ rs-after (readings_until l done) (starts l done)
  readings-more [] = ap (λ t. R ++ t) (last-readings (is_written l s)) ∙ append-nil R
  readings-more (x ∷ done) = go (writing_of l x.writes) (readings-more done)
    where
      go : (q : Option LaneDef) → readings_until l (done ++ s ∷ []) ≡ rs-after (readings_until l done) (starts l done) → reading_of x.id (use_of l x) ++ cond (is_present q) [] (readings_until l (done ++ s ∷ [])) ≡ rs-after (reading_of x.id (use_of l x) ++ cond (is_present q) [] (readings_until l done)) (elim q [ None ↦ starts l done | Some w ↦ record { start = x.id; early = w.early; from = w.from; readings = readings_until l done } ∷ starts l done ])
      go (Some w) ih = refl
      go None ih = ap (λ t. reading_of x.id (use_of l x) ++ t) ih ∙ by (is_none (starts l done))
        where
          by : (b : Bool) → reading_of x.id (use_of l x) ++ cond b (readings_until l done ++ R) (readings_until l done) ≡ cond b ((reading_of x.id (use_of l x) ++ readings_until l done) ++ R) (reading_of x.id (use_of l x) ++ readings_until l done)
          by true = sym (append_assoc (reading_of x.id (use_of l x)) (readings_until l done) R)
          by false = refl

  starts-more : (done : List Step) → starts l (done ++ s ∷ []) ≡ changed_last (more_readings R) (starts l done) ++ new (writing_of l s.writes)
  starts-more [] = one-start (writing_of l s.writes)
  starts-more (x ∷ done) = go (writing_of l x.writes) (starts-more done) (readings-more done)
    where
      go : (q : Option LaneDef) → starts l (done ++ s ∷ []) ≡ changed_last (more_readings R) (starts l done) ++ new (writing_of l s.writes) → readings_until l (done ++ s ∷ []) ≡ rs-after (readings_until l done) (starts l done)
          → elim q [ None ↦ starts l (done ++ s ∷ []) | Some w ↦ record { start = x.id; early = w.early; from = w.from; readings = readings_until l (done ++ s ∷ []) } ∷ starts l (done ++ s ∷ []) ]
          ≡ changed_last (more_readings R) (elim q [ None ↦ starts l done | Some w ↦ record { start = x.id; early = w.early; from = w.from; readings = readings_until l done } ∷ starts l done ]) ++ new (writing_of l s.writes)
      go None ih rs = ih
      go (Some w) ih rs = ap (λ t. record { start = x.id; early = w.early; from = w.from; readings = t } ∷ starts l (done ++ s ∷ [])) rs ∙ ap (λ t. record { start = x.id; early = w.early; from = w.from; readings = rs-after (readings_until l done) (starts l done) } ∷ t) ih ∙ by (starts l done)
        where
          by : (ss : List Start) → record { start = x.id; early = w.early; from = w.from; readings = rs-after (readings_until l done) ss } ∷ (changed_last (more_readings R) ss ++ new (writing_of l s.writes)) ≡ changed_last (more_readings R) (record { start = x.id; early = w.early; from = w.from; readings = readings_until l done } ∷ ss) ++ new (writing_of l s.writes)
          by [] = refl
          by (y ∷ ss) = refl

  pub pieces-more : (done : List Step) → pieces l (done ++ s ∷ []) ≡ added l s (pieces l done)
  pieces-more done = ap (λ rs. record { is_read_last = false; readings = rs; segments = starts l (done ++ s ∷ []) }) (readings-more done) ∙ ap (λ ss. record { is_read_last = false; readings = rs-after (readings_until l done) (starts l done); segments = ss }) (starts-more done) ∙ sym (added-is (readings_until l done) (starts l done))

-- a lane in a block without lives and the readings of phis

abbrev pub bare : Seen → Shape
bare v = record { is_read_last = false; readings = v.readings; segments = map start_of v.segments }

starts-longer : (r : LaneUse) (s : Begun) (ss : List Begun) → map start_of (changed_last (λ x. record x { readings = x.readings ++ r ∷ [] }) (s ∷ ss)) ≡ changed_last (more_readings (r ∷ [])) (map start_of (s ∷ ss))
starts-longer r s [] = refl
starts-longer r s (t ∷ ss) = ap (λ xs. start_of s ∷ xs) (starts-longer r t ss)

nothing-more : (s : Start) (ss : List Start) → changed_last (more_readings []) (s ∷ ss) ≡ s ∷ ss
nothing-more s [] = ap (λ rs. record s { readings = rs } ∷ []) (append-nil s.readings)
nothing-more s (t ∷ ss) = ap (λ xs. s ∷ xs) (nothing-more t ss)

no-readings : (w : Shape) → w.is_read_last ≡ false → with_readings [] w ≡ w
no-readings w e = go w.segments refl
  where
    go : (ss : List Start) → w.segments ≡ ss → cond (is_none ss) (record w { readings = w.readings ++ [] }) (record w { segments = changed_last (more_readings []) ss }) ≡ record w { segments = ss }
    go [] f = ap (λ rs. record w { readings = rs }) (append-nil w.readings) ∙ ap (λ ss. record w { segments = ss }) f
    go (s ∷ ss) f = ap (λ xs. record w { segments = xs }) (nothing-more s ss)

bare-in : (r : LaneUse) (v : Seen) (ss : List Begun) → v.segments ≡ ss → bare (appended r v) ≡ with_readings (r ∷ []) (bare v)
bare-in r v [] e = ap (λ ss. bare (cond (is_none ss) (record v { readings = v.readings ++ r ∷ [] }) (record v { segments = changed_last (λ x. record x { readings = x.readings ++ r ∷ [] }) ss }))) e ∙ ap (λ ss. record { is_read_last = false; readings = v.readings ++ r ∷ []; segments = map start_of ss }) e ∙ sym (ap (λ ss. with_readings (r ∷ []) (record { is_read_last = false; readings = v.readings; segments = map start_of ss })) e)
bare-in r v (s ∷ ss) e = ap (λ ss. bare (cond (is_none ss) (record v { readings = v.readings ++ r ∷ [] }) (record v { segments = changed_last (λ x. record x { readings = x.readings ++ r ∷ [] }) ss }))) e ∙ ap (λ xs. record { is_read_last = false; readings = v.readings; segments = xs }) (starts-longer r s ss) ∙ sym (ap (λ ss. with_readings (r ∷ []) (record { is_read_last = false; readings = v.readings; segments = map start_of ss })) e)

bare-used : (id : ℕ) (u : Use) (v : Seen) → bare (used id u v) ≡ with_readings (reading_of id u) (bare v)
bare-used id Unused v = sym (no-readings (bare v) refl)
bare-used id Certain v = bare-in (reading id None) v v.segments refl
bare-used id (Into a) v = bare-in (reading id (Some a)) v v.segments refl

starts-end : (xs : List Begun) (x : Begun) → map start_of (xs ++ x ∷ []) ≡ map start_of xs ++ start_of x ∷ []
starts-end [] x = refl
starts-end (y ∷ xs) x = ap (λ ys. start_of y ∷ ys) (starts-end xs x)

bare-written : (id : ℕ) (q : Option LaneDef) (v : Seen) → bare (written id q v) ≡ with_start id q (bare v)
bare-written id None v = refl
bare-written id (Some w) v = ap (λ ss. record { is_read_last = false; readings = v.readings; segments = ss }) (starts-end v.segments (new_begun id w.early w.from))

-- no reading and no writing of an instruction is the last one
pub record IsFresh (id : ℕ) (v : Seen) : Type 0 where
  pub reads : ends_with id (last_readings v) ≡ false
  pub begins : starts_last id v.segments ≡ false

abbrev pub after_step : ℕ → Step → Seen → Seen
after_step l s v = written s.id (writing_of l s.writes) (used s.id (use_of l s) v)

pub bare-step : (l : ℕ) (s : Step) (v : Seen) → bare (after_step l s v) ≡ added l s (bare v)
bare-step l s v = bare-written s.id (writing_of l s.writes) (used s.id (use_of l s) v) ∙ ap (with_start s.id (writing_of l s.writes)) (bare-used s.id (use_of l s) v)

ends-used : (id other : ℕ) (u : Use) (v : Seen) → nat_eq other id ≡ false → ends_with id (last_readings v) ≡ false → ends_with id (last_readings (used other u v)) ≡ false
ends-used id other Unused v e h = h
ends-used id other Certain v e h = appended-ends (reading other None) id v ∙ e
ends-used id other (Into a) v e h = appended-ends (reading other (Some a)) id v ∙ e

starts-used : (id other : ℕ) (u : Use) (v : Seen) → starts_last id (used other u v).segments ≡ starts_last id v.segments
starts-used id other Unused v = refl
starts-used id other Certain v = appended-starts (reading other None) id v
starts-used id other (Into a) v = appended-starts (reading other (Some a)) id v

pub fresh-step : (l id : ℕ) (s : Step) (v : Seen) → nat_eq s.id id ≡ false → IsFresh id v → IsFresh id (after_step l s v)
fresh-step l id s v e f = go (writing_of l s.writes)
  where
    go : (q : Option LaneDef) → IsFresh id (written s.id q (used s.id (use_of l s) v))
    go None = record { reads = ends-used id s.id (use_of l s) v e f.reads; begins = starts-used id s.id (use_of l s) v ∙ f.begins }
    go (Some w) = record { reads = begun-ends id s.id w (used s.id (use_of l s) v); begins = begun-starts id s.id w (used s.id (use_of l s) v) ∙ e }
