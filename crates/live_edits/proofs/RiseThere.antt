-- Pieces that are there, and stay so while causes and ends change.
use Rattle.std.proofs.Common.{◌≡◌, ◌<◌, ◌≤◌, ◌⊎◌, ℕ, zero, suc, Bool, true, false, cond, length, List, [], ◌∷◌, None, Some, inl, inr, refl, sym, ap, ◌∙◌, subst, arith}
use Rattle.std.proofs.lemmas.Bool.{cases_lt}
use Rattle.std.proofs.lemmas.List.{length-map}
use Rattle.std.proofs.lemmas.Option.{slice_get_past}
use Rattle.mir_meaning.specs.Paths.{Among, Code}
use Rattle.live_lanes.specs.declared.compute.flow.BlockFlow.{BlockFlow}
use Rattle.live_lanes.specs.declared.row.Cause.{Cause}
use Rattle.live_lanes.specs.declared.row.LaneRange.{LaneRange}
use Rattle.live_lanes.specs.declared.row.LaneUse.{LaneUse}
use Rattle.live_lanes.specs.Graph.{is_live}
use Rattle.live_lanes.specs.Table.{Numbers, Seen, unseen, leading, is_begun, begun_cause, begun_readings, readings_in, cause_in, exit_rank, entry_rank}
use Rattle.live_lanes.specs.Entered.{Shape, start_of, shape, rows_seen, causes, reading, IsTableOf}
use Rattle.live_lanes.specs.Growth.{piece_in_rows}
use Rattle.live_lanes.proofs.Basics.{none-among}
use Rattle.edit_laws.specs.Asked.{IsFound, found_phi, found_reading, found_move, found_exit, found_end}
use Rattle.edit_laws.specs.Chains.{Node}
use Rattle.edit_laws.specs.Needs.{IsNeed, need_end, need_exit, need_move}
use Rattle.edit_laws.specs.Update.{Request}
use Rattle.live_edits.specs.Pieces.{IsThere, KeepsPieces}
use Rattle.live_edits.proofs.KeptPieces.{live-there}
use Rattle.live_edits.proofs.Untold.{unseen-past}

-- as many pieces, where shapes are the same
pub same-count : (v w : Seen) → shape v ≡ shape w → length v.segments ≡ length w.segments
same-count v w e = sym (length-map v.segments start_of) ∙ (ap (λ (h : Shape). length h.segments) e ∙ length-map w.segments start_of)

module _ (old new : List LaneRange) (k : KeepsPieces old new) where
  pub there-kept : (n : Node) → IsThere old n → IsThere new n
  there-kept n t = record {
    lane = subst (λ m. n.0 < m) (sym k.lanes) t.lane;
    piece = subst (λ m. n.2 ≤ m) (sym (same-count (rows_seen new n.0 n.1) (rows_seen old n.0 n.1) (k.shapes n.0 n.1))) t.piece;
  }

  pub table-stays : (code : Code) (slots : Numbers) (flow : List BlockFlow) → IsTableOf code slots flow old → IsTableOf code slots flow new
  table-stays code slots flow t = record {
    entered = λ l b. k.shapes l b ∙ t.entered l b;
    numbered = t.numbered;
    ways = t.ways;
    matched = t.matched;
    few = subst (λ m. m < 4294967296) (sym k.lanes) t.few;
  }

-- nothing is known of a lane without row, nor of a piece behind the segments

no-readings : (v : Seen) (n : ℕ) → length v.segments < n → readings_in v n ≡ []
no-readings v zero h = absurd (omega arith)
no-readings v (suc k) h = ap begun_readings (slice_get_past v.segments k (omega arith))

no-cause : (v : Seen) (n : ℕ) → length v.segments < n → is_live (cause_in v n) ≡ false
no-cause v zero h = absurd (omega arith)
no-cause v (suc k) h = ap (λ q. is_live (begun_cause q)) (slice_get_past v.segments k (omega arith))

unseen-readings : (n : ℕ) → readings_in unseen n ≡ []
unseen-readings zero = refl
unseen-readings (suc n) = refl

unseen-cause : (n : ℕ) → is_live (cause_in unseen n) ≡ false
unseen-cause zero = refl
unseen-cause (suc n) = refl

lane-or-unseen : (rows : List LaneRange) (l b : ℕ) → (l < length rows) ⊎ (rows_seen rows l b ≡ unseen)
lane-or-unseen rows l b = go (cases_lt l (length rows))
  where
    go : (l < length rows) ⊎ (length rows ≤ l) → (l < length rows) ⊎ (rows_seen rows l b ≡ unseen)
    go (inl h) = inl h
    go (inr h) = inr (unseen-past rows l b h)

-- the piece is there, or its lane has no row, or it is behind the segments
pub there-or-past : (rows : List LaneRange) (l b n : ℕ) → IsThere rows (l, b, n) ⊎ ((rows_seen rows l b ≡ unseen) ⊎ (length (rows_seen rows l b).segments < n))
there-or-past rows l b n = go (lane-or-unseen rows l b) (cases_lt (length (rows_seen rows l b).segments) n)
  where
    go : (l < length rows) ⊎ (rows_seen rows l b ≡ unseen) → (length (rows_seen rows l b).segments < n) ⊎ (n ≤ length (rows_seen rows l b).segments) → IsThere rows (l, b, n) ⊎ ((rows_seen rows l b ≡ unseen) ⊎ (length (rows_seen rows l b).segments < n))
    go (inl h) (inr k) = inl (record { lane = h; piece = k })
    go (inl h) (inl k) = inr (inr k)
    go (inr e) k = inr (inl e)

-- the piece is there, or it isn't live and has no readings
pub there-or-nothing : (rows : List LaneRange) (l b n : ℕ) → IsThere rows (l, b, n) ⊎ ((is_live (causes rows l b n) ≡ false) × (readings_in (rows_seen rows l b) n ≡ []))
there-or-nothing rows l b n = go (there-or-past rows l b n)
  where
    go : IsThere rows (l, b, n) ⊎ ((rows_seen rows l b ≡ unseen) ⊎ (length (rows_seen rows l b).segments < n)) → IsThere rows (l, b, n) ⊎ ((is_live (causes rows l b n) ≡ false) × (readings_in (rows_seen rows l b) n ≡ []))
    go (inl t) = inl t
    go (inr (inr k)) = inr (no-cause (rows_seen rows l b) n k, no-readings (rows_seen rows l b) n k)
    go (inr (inl e)) = inr (ap (λ v. is_live (cause_in v n)) e ∙ unseen-cause n, ap (λ v. readings_in v n) e ∙ unseen-readings n)

pub reading-there : (rows : List LaneRange) (l b n : ℕ) (r : LaneUse) → Among r (readings_in (rows_seen rows l b) n) → IsThere rows (l, b, n)
reading-there rows l b n r a = go (there-or-nothing rows l b n)
  where
    go : IsThere rows (l, b, n) ⊎ ((is_live (causes rows l b n) ≡ false) × (readings_in (rows_seen rows l b) n ≡ [])) → IsThere rows (l, b, n)
    go (inl t) = t
    go (inr z) = absurd (none-among r (subst (Among r) z.1 a))

read-last-there : (rows : List LaneRange) (l b : ℕ) → (rows_seen rows l b).is_read_last ≡ true → l < length rows
read-last-there rows l b e = go (lane-or-unseen rows l b)
  where
    go : (l < length rows) ⊎ (rows_seen rows l b ≡ unseen) → l < length rows
    go (inl h) = h
    go (inr f) = absurd (let k : false ≡ true = sym (ap (λ (v : Seen). v.is_read_last) f) ∙ e in cc)

pub leading-within : {X : Type 0} (test : X → Bool) (xs : List X) → leading test xs ≤ length xs
leading-within test [] = omega arith
leading-within test (x ∷ xs) = go (test x) (leading-within test xs)
  where
    go : (t : Bool) → leading test xs ≤ length xs → cond t (suc (leading test xs)) 0 ≤ length (x ∷ xs)
    go true h = omega arith
    go false h = omega arith

-- in a lane that has a row, the last piece and the one at a point are there

pub last-there : (rows : List LaneRange) (l b : ℕ) → l < length rows → IsThere rows (l, b, length (rows_seen rows l b).segments)
last-there rows l b h = record { lane = h; piece = omega arith }

pub at-there : (slots : Numbers) (rows : List LaneRange) (l b at : ℕ) → l < length rows → IsThere rows (l, b, piece_in_rows slots rows l b at)
at-there slots rows l b at h = record { lane = h; piece = leading-within (is_begun slots at) (rows_seen rows l b).segments }

module _ (slots : Numbers) (flow : List BlockFlow) (rows : List LaneRange) where
  -- what leads to a piece that is there
  pub need-there : {m : Node} {r : Request} → IsNeed slots flow rows m r → IsThere rows m → IsThere rows r.node
  need-there (need_end {l = l} {b = b} {x = x} a) t = last-there rows l b t.lane
  need-there (need_exit {l = l} {b = b} {x = x} {id = id} a i) t = at-there slots rows l b (exit_rank slots id) t.lane
  need-there (need_move {l = l} {b = b} {n = n} {a = a} {id = id} m r) t = reading-there rows a b (piece_in_rows slots rows a b (entry_rank slots id)) (reading id (Some l)) r

  -- what has a reason that counts
  pub found-there : {n : Node} {c : Cause} → IsFound slots flow rows n c → IsThere rows n
  found-there (found_phi {l = l} {b = b} e) = last-there rows l b (read-last-there rows l b e)
  found-there (found_reading {l = l} {b = b} {n = n} {id = id} m) = reading-there rows l b n (reading id None) m
  found-there (found_move {l = l} {b = b} {n = n} {a = a} {id = id} m live) = reading-there rows l b n (reading id (Some a)) m
  found-there (found_exit {l = l} {b = b} {x = x} {id = id} i a live) = at-there slots rows l b (exit_rank slots id) (live-there rows l x 0 live).lane
  found-there (found_end {l = l} {b = b} {x = x} a live) = last-there rows l b (live-there rows l x 0 live).lane
