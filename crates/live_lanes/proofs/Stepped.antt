-- Entering one instruction changes a lane's pieces in its block as the instruction says.
use Rattle.std.proofs.Common.{◌≡◌, ℕ, Bool, true, false, cond, ◌&&◌, List, [], ◌∷◌, ◌++◌, Option, Some, None, refl, ap, ◌∙◌, eq-eqb}
use Rattle.std.specs.Prelude.{nat_eq}
use Rattle.mir_meaning.specs.declared.writing.LaneDef.{LaneDef}
use Rattle.live_lanes.specs.declared.row.Cause.{Cause}
use Rattle.live_lanes.specs.declared.row.PieceEnd.{PieceEnd}
use Rattle.live_lanes.specs.declared.row.LaneUse.{LaneUse}
use Rattle.mir_meaning.specs.Paths.{Step, has, Use, Unused, Certain, Into, move_of, use_of, writing_of, is_some_number}
use Rattle.live_lanes.specs.Table.{Begun, Seen, last_passes, ends_with, with_last, changed_last, is_none, with_reading, new_begun, starts_last, with_segment}
use Rattle.live_lanes.specs.Entered.{reading}
use Rattle.live_lanes.specs.Entering.{at_spot, reads_entered, moves_entered, writes_entered, source_entered}

-- the readings of the last piece
abbrev last_readings_in : List LaneUse → List Begun → List LaneUse
last_readings_in rs [] = rs
last_readings_in rs (s ∷ []) = s.readings
last_readings_in rs (s ∷ t ∷ ss) = last_readings_in rs (t ∷ ss)

abbrev pub last_readings : Seen → List LaneUse
last_readings v = last_readings_in v.readings v.segments

abbrev longer : LaneUse → Begun → Begun
longer r s = record s { readings = s.readings ++ r ∷ [] }

-- a reading behind the others of the last piece
abbrev pub appended : LaneUse → Seen → Seen
appended r v = cond (is_none v.segments) (record v { readings = v.readings ++ r ∷ [] }) (record v { segments = changed_last (longer r) v.segments })

abbrev renewed : LaneUse → Begun → Begun
renewed r s = record s { readings = with_last r s.readings }

last-of : {X : Type 0} (test : X → Bool) (xs : List X) (x : X) → last_passes test (xs ++ x ∷ []) ≡ test x
last-of test [] x = refl
last-of test (y ∷ []) x = refl
last-of test (y ∷ z ∷ xs) x = last-of test (z ∷ xs) x

-- a reading of an instruction that stands last already
same-last : (r : LaneUse) (rs : List LaneUse) → ends_with r.id rs ≡ true → with_last r rs ≡ rs
same-last r rs e = ap (λ t. cond t rs (rs ++ r ∷ [])) e

new-last : (r : LaneUse) (rs : List LaneUse) → ends_with r.id rs ≡ false → with_last r rs ≡ rs ++ r ∷ []
new-last r rs e = ap (λ t. cond t rs (rs ++ r ∷ [])) e

same-segments : (r : LaneUse) (rs : List LaneUse) (s : Begun) (ss : List Begun) → ends_with r.id (last_readings_in rs (s ∷ ss)) ≡ true → changed_last (renewed r) (s ∷ ss) ≡ s ∷ ss
same-segments r rs s [] e = ap (λ x. record s { readings = x } ∷ []) (same-last r s.readings e)
same-segments r rs s (t ∷ ss) e = ap (λ x. s ∷ x) (same-segments r rs t ss e)

new-segments : (r : LaneUse) (rs : List LaneUse) (s : Begun) (ss : List Begun) → ends_with r.id (last_readings_in rs (s ∷ ss)) ≡ false → changed_last (renewed r) (s ∷ ss) ≡ changed_last (longer r) (s ∷ ss)
new-segments r rs s [] e = ap (λ x. record s { readings = x } ∷ []) (new-last r s.readings e)
new-segments r rs s (t ∷ ss) e = ap (λ x. s ∷ x) (new-segments r rs t ss e)

abbrev seen : Bool → Cause → PieceEnd → List LaneUse → List Begun → Seen
seen q c e rs ss = record { is_read_last = q; cause = c; end = e; readings = rs; segments = ss }

done-in : (r : LaneUse) (q : Bool) (c : Cause) (e : PieceEnd) (rs : List LaneUse) (ss : List Begun) → ends_with r.id (last_readings_in rs ss) ≡ true → with_reading r (seen q c e rs ss) ≡ seen q c e rs ss
done-in r q c e rs [] h = ap (λ x. seen q c e x []) (same-last r rs h)
done-in r q c e rs (s ∷ ss) h = ap (λ x. seen q c e rs x) (same-segments r rs s ss h)

new-in : (r : LaneUse) (q : Bool) (c : Cause) (e : PieceEnd) (rs : List LaneUse) (ss : List Begun) → ends_with r.id (last_readings_in rs ss) ≡ false → with_reading r (seen q c e rs ss) ≡ appended r (seen q c e rs ss)
new-in r q c e rs [] h = ap (λ x. seen q c e x []) (new-last r rs h)
new-in r q c e rs (s ∷ ss) h = ap (λ x. seen q c e rs x) (new-segments r rs s ss h)

reading-done : (r : LaneUse) (v : Seen) → ends_with r.id (last_readings v) ≡ true → with_reading r v ≡ v
reading-done r v h = done-in r v.is_read_last v.cause v.end v.readings v.segments h

reading-new : (r : LaneUse) (v : Seen) → ends_with r.id (last_readings v) ≡ false → with_reading r v ≡ appended r v
reading-new r v h = new-in r v.is_read_last v.cause v.end v.readings v.segments h

longer-last : (r : LaneUse) (rs : List LaneUse) (s : Begun) (ss : List Begun) → last_readings_in rs (changed_last (longer r) (s ∷ ss)) ≡ last_readings_in rs (s ∷ ss) ++ r ∷ []
longer-last r rs s [] = refl
longer-last r rs s (t ∷ []) = refl
longer-last r rs s (t ∷ u ∷ ss) = longer-last r rs t (u ∷ ss)

appended-in : (r : LaneUse) (q : Bool) (c : Cause) (e : PieceEnd) (rs : List LaneUse) (ss : List Begun) → last_readings (appended r (seen q c e rs ss)) ≡ last_readings_in rs ss ++ r ∷ []
appended-in r q c e rs [] = refl
appended-in r q c e rs (s ∷ ss) = longer-last r rs s ss

pub appended-last : (r : LaneUse) (v : Seen) → last_readings (appended r v) ≡ last_readings v ++ r ∷ []
appended-last r v = appended-in r v.is_read_last v.cause v.end v.readings v.segments

pub appended-ends : (r : LaneUse) (id : ℕ) (v : Seen) → ends_with id (last_readings (appended r v)) ≡ nat_eq r.id id
appended-ends r id v = ap (λ rs. ends_with id rs) (appended-last r v) ∙ last-of (λ x. nat_eq x.id id) (last_readings v) r

-- the pieces begin where they did
longer-starts : (r : LaneUse) (id : ℕ) (ss : List Begun) → starts_last id (changed_last (longer r) ss) ≡ starts_last id ss
longer-starts r id [] = refl
longer-starts r id (s ∷ []) = refl
longer-starts r id (s ∷ t ∷ []) = refl
longer-starts r id (s ∷ t ∷ u ∷ ss) = longer-starts r id (t ∷ u ∷ ss)

starts-in : (r : LaneUse) (id : ℕ) (q : Bool) (c : Cause) (e : PieceEnd) (rs : List LaneUse) (ss : List Begun) → starts_last id (appended r (seen q c e rs ss)).segments ≡ starts_last id ss
starts-in r id q c e rs [] = refl
starts-in r id q c e rs (s ∷ ss) = longer-starts r id (s ∷ ss)

pub appended-starts : (r : LaneUse) (id : ℕ) (v : Seen) → starts_last id (appended r v).segments ≡ starts_last id v.segments
appended-starts r id v = starts-in r id v.is_read_last v.cause v.end v.readings v.segments

-- how an instruction uses the lane
abbrev pub used : ℕ → Use → Seen → Seen
used id Unused v = v
used id Certain v = appended (reading id None) v
used id (Into a) v = appended (reading id (Some a)) v

abbrev pub begun_by : ℕ → LaneDef → Seen → Seen
begun_by id w v = record v { segments = v.segments ++ new_begun id w.early w.from ∷ [] }

abbrev pub written : ℕ → Option LaneDef → Seen → Seen
written id None v = v
written id (Some w) v = begun_by id w v

module _ (l b block id : ℕ) (here : nat_eq block b ≡ true) where
  spot : (lane : ℕ) (g : Seen → Seen) (v : Seen) → at_spot lane block g l b v ≡ cond (nat_eq lane l) (g v) v
  spot lane g v = ap (λ t. cond (nat_eq lane l && t) (g v) v) here ∙ go (nat_eq lane l)
    where
      go : (t : Bool) → cond (t && true) (g v) v ≡ cond t (g v) v
      go true = refl
      go false = refl

  self : nat_eq id id ≡ true
  self = eq-eqb id id refl

  reads-done : (xs : List ℕ) (v : Seen) → ends_with id (last_readings v) ≡ true → reads_entered block id xs l b v ≡ v
  reads-done [] v d = refl
  reads-done (x ∷ xs) v d = ap (λ w. reads_entered block id xs l b w) (spot x (with_reading (reading id None)) v ∙ go (nat_eq x l)) ∙ reads-done xs v d
    where
      go : (t : Bool) → cond t (with_reading (reading id None) v) v ≡ v
      go true = reading-done (reading id None) v d
      go false = refl

  reads-new : (xs : List ℕ) (v : Seen) → ends_with id (last_readings v) ≡ false → reads_entered block id xs l b v ≡ cond (has l xs) (appended (reading id None) v) v
  reads-new [] v d = refl
  reads-new (x ∷ xs) v d = ap (λ w. reads_entered block id xs l b w) (spot x (with_reading (reading id None)) v) ∙ go (nat_eq x l) (reads-new xs v d)
    where
      go : (t : Bool) → reads_entered block id xs l b v ≡ cond (has l xs) (appended (reading id None) v) v → reads_entered block id xs l b (cond t (with_reading (reading id None) v) v) ≡ cond (cond t true (has l xs)) (appended (reading id None) v) v
      go true ih = ap (λ w. reads_entered block id xs l b w) (reading-new (reading id None) v d) ∙ reads-done xs (appended (reading id None) v) (appended-ends (reading id None) id v ∙ self)
      go false ih = ih

  source : (to : ℕ) (from : Option ℕ) (v : Seen) → source_entered block id l b to from v ≡ cond (is_some_number l from) (with_reading (reading id (Some to)) v) v
  source to None v = refl
  source to (Some lane) v = spot lane (with_reading (reading id (Some to))) v

  moves-done : (ws : List LaneDef) (v : Seen) → ends_with id (last_readings v) ≡ true → moves_entered block id ws l b v ≡ v
  moves-done [] v d = refl
  moves-done (w ∷ ws) v d = ap (λ u. moves_entered block id ws l b u) (source w.lane w.from v ∙ go (is_some_number l w.from)) ∙ moves-done ws v d
    where
      go : (t : Bool) → cond t (with_reading (reading id (Some w.lane)) v) v ≡ v
      go true = reading-done (reading id (Some w.lane)) v d
      go false = refl

  moves-new : (ws : List LaneDef) (v : Seen) → ends_with id (last_readings v) ≡ false → moves_entered block id ws l b v ≡ used id (move_of l ws) v
  moves-new [] v d = refl
  moves-new (w ∷ ws) v d = ap (λ u. moves_entered block id ws l b u) (source w.lane w.from v) ∙ go (is_some_number l w.from) (moves-new ws v d)
    where
      go : (t : Bool) → moves_entered block id ws l b v ≡ used id (move_of l ws) v → moves_entered block id ws l b (cond t (with_reading (reading id (Some w.lane)) v) v) ≡ used id (cond t (Into w.lane) (move_of l ws)) v
      go true ih = ap (λ u. moves_entered block id ws l b u) (reading-new (reading id (Some w.lane)) v d) ∙ moves-done ws (appended (reading id (Some w.lane)) v) (appended-ends (reading id (Some w.lane)) id v ∙ self)
      go false ih = ih

  writes-done : (ws : List LaneDef) (v : Seen) → starts_last id v.segments ≡ true → writes_entered block id ws l b v ≡ v
  writes-done [] v d = refl
  writes-done (w ∷ ws) v d = ap (λ u. writes_entered block id ws l b u) (spot w.lane (with_segment id w.early w.from) v ∙ go (nat_eq w.lane l)) ∙ writes-done ws v d
    where
      go : (t : Bool) → cond t (with_segment id w.early w.from v) v ≡ v
      go true = ap (λ t. cond t v (begun_by id w v)) d
      go false = refl

  writes-new : (ws : List LaneDef) (v : Seen) → starts_last id v.segments ≡ false → writes_entered block id ws l b v ≡ written id (writing_of l ws) v
  writes-new [] v d = refl
  writes-new (w ∷ ws) v d = ap (λ u. writes_entered block id ws l b u) (spot w.lane (with_segment id w.early w.from) v) ∙ go (nat_eq w.lane l) (writes-new ws v d)
    where
      go : (t : Bool) → writes_entered block id ws l b v ≡ written id (writing_of l ws) v → writes_entered block id ws l b (cond t (with_segment id w.early w.from v) v) ≡ written id (cond t (Some w) (writing_of l ws)) v
      go true ih = ap (λ u. writes_entered block id ws l b u) (ap (λ t. cond t v (begun_by id w v)) d) ∙ writes-done ws (begun_by id w v) (last-of (λ s. nat_eq s.start id) v.segments (new_begun id w.early w.from) ∙ self)
      go false ih = ih

  used-starts : (u : Use) (v : Seen) → starts_last id (used id u v).segments ≡ starts_last id v.segments
  used-starts Unused v = refl
  used-starts Certain v = appended-starts (reading id None) id v
  used-starts (Into a) v = appended-starts (reading id (Some a)) id v

  -- all that an instruction does to the lane
  pub step-is : (s : Step) (v : Seen) → ends_with id (last_readings v) ≡ false → starts_last id v.segments ≡ false
      → writes_entered block id s.writes l b (moves_entered block id s.writes l b (reads_entered block id s.reads l b v)) ≡ written id (writing_of l s.writes) (used id (use_of l s) v)
  step-is s v d e = ap (λ u. writes_entered block id s.writes l b u) (ap (λ u. moves_entered block id s.writes l b u) (reads-new s.reads v d) ∙ go (has l s.reads)) ∙ writes-new s.writes (used id (use_of l s) v) (used-starts (use_of l s) v ∙ e)
    where
      go : (t : Bool) → moves_entered block id s.writes l b (cond t (appended (reading id None) v) v) ≡ used id (cond t Certain (move_of l s.writes)) v
      go true = moves-done s.writes (appended (reading id None) v) (appended-ends (reading id None) id v ∙ self)
      go false = moves-new s.writes v d

last-begun : (rs : List LaneUse) (ss : List Begun) (s : Begun) → last_readings_in rs (ss ++ s ∷ []) ≡ s.readings
last-begun rs [] s = refl
last-begun rs (x ∷ []) s = refl
last-begun rs (x ∷ y ∷ ss) s = last-begun rs (y ∷ ss) s

-- behind a new piece
pub begun-ends : (id other : ℕ) (w : LaneDef) (v : Seen) → ends_with id (last_readings (begun_by other w v)) ≡ false
begun-ends id other w v = ap (λ rs. ends_with id rs) (last-begun v.readings v.segments (new_begun other w.early w.from))

pub begun-starts : (id other : ℕ) (w : LaneDef) (v : Seen) → starts_last id (begun_by other w v).segments ≡ nat_eq other id
begun-starts id other w v = last-of (λ s. nat_eq s.start id) v.segments (new_begun other w.early w.from)
