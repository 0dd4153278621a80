-- Readings of a piece that are changed in place, and what takes the changes back.
use Rattle.std.proofs.Common.{◌≡◌, ◌<◌, ◌≤◌, ◌-◌, ◌∙◌, ◌⊎◌, inl, inr, ℕ, zero, suc, cond, length, List, [], ◌∷◌, Option, map, get_or, set, refl, sym, ap, arith}
use Rattle.std.specs.List.{insert, remove}
use Rattle.std.proofs.lemmas.Bool.{le-leb, lt-leb, cases_lt}
use Rattle.live_lanes.specs.declared.row.LaneUse.{LaneUse}
use Rattle.live_lanes.specs.declared.row.DefPiece.{DefPiece}
use Rattle.live_lanes.specs.declared.row.Cell.{Cell}
use Rattle.live_lanes.specs.Table.{Seen, Begun, seen_cell, begun, changed_at}
use Rattle.live_edits.specs.CellChanges.{begun_with_readings, with_readings, piece_readings, readings_changed, reading_put, reading_into, reading_added, reading_removed}
use Rattle.live_edits.proofs.CellChanged.{remove-inserted, remove-past, put-readings, readings-past, changed-back}
use Rattle.live_edits.proofs.RenotePieces.{readings-at}

-- a piece that gets readings has them

read-given : (rs qs : List LaneUse) (ss : List Begun) (k : ℕ) → k < length ss → piece_readings rs (changed_at k (begun_with_readings qs) ss) (suc k) ≡ qs
read-given rs qs [] k h = absurd (omega arith)
read-given rs qs (s ∷ ss) zero h = refl
read-given rs qs (s ∷ ss) (suc k) h = read-given s.readings qs ss k (omega arith)

readings-given : (v : Seen) (k : ℕ) (rs : List LaneUse) → k ≤ length v.segments → piece_readings (with_readings v k rs).readings (with_readings v k rs).segments k ≡ rs
readings-given v zero rs h = refl
readings-given v (suc k) rs h = read-given v.readings rs v.segments k (omega arith)

twice-given : (rs qs : List LaneUse) (ss : List Begun) (k : ℕ) → changed_at k (begun_with_readings qs) (changed_at k (begun_with_readings rs) ss) ≡ changed_at k (begun_with_readings qs) ss
twice-given rs qs [] k = refl
twice-given rs qs (s ∷ ss) zero = refl
twice-given rs qs (s ∷ ss) (suc k) = ap (λ t. s ∷ t) (twice-given rs qs ss k)

readings-twice : (v : Seen) (k : ℕ) (rs qs : List LaneUse) → with_readings (with_readings v k rs) k qs ≡ with_readings v k qs
readings-twice v zero rs qs = refl
readings-twice v (suc k) rs qs = ap (λ ss. record v { segments = ss }) (twice-given rs qs v.segments k)

own-given : (rs : List LaneUse) (ss : List Begun) (k : ℕ) → changed_at k (begun_with_readings (piece_readings rs ss (suc k))) ss ≡ ss
own-given rs [] k = refl
own-given rs (s ∷ ss) zero = refl
own-given rs (s ∷ ss) (suc k) = ap (λ t. s ∷ t) (own-given s.readings ss k)

-- one that gets its own readings stays
pub own-readings : (v : Seen) (k : ℕ) → with_readings v k (piece_readings v.readings v.segments k) ≡ v
own-readings v zero = refl
own-readings v (suc k) = ap (λ ss. record v { segments = ss }) (own-given v.readings v.segments k)

-- a piece that isn't there has no readings that change
past-readings : (v : Seen) (k : ℕ) (rs : List LaneUse) → length v.segments < k → with_readings v k rs ≡ v
past-readings v k rs h = sym (readings-past v k rs (λ e. omega (arith, e, h)) h)

pub changed-past-readings : (change : List LaneUse → List LaneUse) (k : ℕ) (v : Seen) → length v.segments < k → readings_changed change k v ≡ v
changed-past-readings change k v h = past-readings v k (change (piece_readings v.readings v.segments k)) h

-- a change that is undone
pub changed-undone : (change back : List LaneUse → List LaneUse) (k : ℕ) (v : Seen) → back (change (piece_readings v.readings v.segments k)) ≡ piece_readings v.readings v.segments k → readings_changed back k (readings_changed change k v) ≡ v
changed-undone change back k v undone = go (cases_lt (length v.segments) k)
  where
    own : List LaneUse
    own = piece_readings v.readings v.segments k

    go : (length v.segments < k) ⊎ (k ≤ length v.segments) → readings_changed back k (readings_changed change k v) ≡ v
    go (inl h) = ap (readings_changed back k) (changed-past-readings change k v h) ∙ changed-past-readings back k v h
    go (inr h) =
        ap (λ rs. with_readings (with_readings v k (change own)) k (back rs)) (readings-given v k (change own) h)
        ∙ ap (λ rs. with_readings (with_readings v k (change own)) k rs) undone
        ∙ readings-twice v k (change own) own
        ∙ own-readings v k

put-removed : (at : ℕ) (r : LaneUse) (rs : List LaneUse) → remove (reading_put at r rs) at ≡ rs
put-removed at r rs = go (cases_lt (length rs) at)
  where
    go : (length rs < at) ⊎ (at ≤ length rs) → remove (reading_put at r rs) at ≡ rs
    go (inl h) = ap (λ t. remove (cond t (insert rs at r) rs) at) (lt-leb at (length rs) h) ∙ remove-past rs at (omega arith)
    go (inr h) = ap (λ t. remove (cond t (insert rs at r) rs) at) (le-leb at (length rs) h) ∙ remove-inserted rs at r h

-- a reading that came goes again
pub reading-back : (index at : ℕ) (r : LaneUse) (v : Seen) → reading_removed index at (reading_added index at r v) ≡ v
reading-back index at r v = changed-undone (reading_put at r) (λ rs. remove rs at) index v (put-removed at r (piece_readings v.readings v.segments index))

-- a cell whose piece has its readings changed
module _ (c : Cell) (x y : DefPiece) (index : ℕ) (change : List LaneUse → List LaneUse) (ne : index ≡ 0 → ⊥) (h : index - 1 < length c.segments.items) (e : x ≡ get_or c.segments.items (index - 1) x) where
  own-list : x.piece.readings.items ≡ piece_readings c.first.readings.items (map begun c.segments.items) index
  own-list = readings-at c.first.readings.items c.segments.items index x ne (omega (arith, h)) e

  pub piece-changed : begun y ≡ begun_with_readings (change x.piece.readings.items) (begun x) → record (seen_cell c) { segments = map begun (set c.segments.items (index - 1) y) } ≡ readings_changed change index (seen_cell c)
  piece-changed f = put-readings c x y index (change x.piece.readings.items) ne h e f ∙ ap (λ rs. with_readings (seen_cell c) index (change rs)) own-list

  pub piece-undone : (back : List LaneUse → List LaneUse) → begun y ≡ begun_with_readings (change x.piece.readings.items) (begun x) → back (change x.piece.readings.items) ≡ x.piece.readings.items → readings_changed back index (record (seen_cell c) { segments = map begun (set c.segments.items (index - 1) y) }) ≡ seen_cell c
  piece-undone back f undone = ap (readings_changed back index) (piece-changed f) ∙ changed-undone change back index (seen_cell c) (ap (λ rs. back (change rs)) (sym own-list) ∙ undone ∙ own-list)

-- a reading that moves its lane elsewhere

pub into-back : (rs : List LaneUse) (at : ℕ) (x : LaneUse) (into : Option ℕ) → at < length rs → x ≡ get_or rs at x → changed_at at (reading_into x.into) (changed_at at (reading_into into) rs) ≡ rs
into-back rs at x into h e = changed-back (reading_into into) (reading_into x.into) at rs x h e refl

pub set-changed : (change : LaneUse → LaneUse) (rs : List LaneUse) (at : ℕ) (x : LaneUse) → at < length rs → x ≡ get_or rs at x → set rs at (change x) ≡ changed_at at change rs
set-changed change [] at x h e = absurd (omega arith)
set-changed change (r ∷ rs) zero x h e = ap (λ t. change t ∷ rs) e
set-changed change (r ∷ rs) (suc at) x h e = ap (λ t. r ∷ t) (set-changed change rs at x (omega arith) e)
