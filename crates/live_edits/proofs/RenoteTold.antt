-- What the pieces of a cell tell, cut at one of them, and changed there.
use Rattle.std.proofs.Common.{◌≡◌, ◌<◌, ◌≤◌, ◌∙◌, ℕ, zero, suc, Bool, true, length, List, [], ◌∷◌, ◌++◌, Option, map, refl, sym, ap, arith, append_assoc, append-nil, eqb-true}
use Rattle.std.specs.Prelude.{nat_eq}
use Rattle.std.specs.List.{insert, remove}
use Rattle.live_lanes.specs.declared.row.LaneUse.{LaneUse}
use Rattle.live_lanes.specs.Table.{Seen, Begun, changed_at}
use Rattle.live_edits.specs.CellChanges.{begun_with_readings, with_readings, begun_with_writing}
use Rattle.live_edits.specs.Renoted.{Event, reads, writes, pieces_told, seen_told, piece_readings, is_begun_by}

abbrev pub writing : Begun → Event
writing s = writes s.start s.early s.from

-- what stands before a piece's readings, and behind them
abbrev pub told_before : List LaneUse → List Begun → ℕ → List Event
told_before rs ss zero = []
told_before rs [] (suc k) = []
told_before rs (s ∷ ss) (suc k) = map reads rs ++ writing s ∷ told_before s.readings ss k

abbrev pub told_rest : List Begun → List Event
told_rest [] = []
told_rest (s ∷ ss) = writing s ∷ pieces_told s.readings ss

abbrev pub told_after : List Begun → ℕ → List Event
told_after ss zero = told_rest ss
told_after [] (suc k) = []
told_after (s ∷ ss) (suc k) = told_after ss k

pub told-first : (rs : List LaneUse) (ss : List Begun) → pieces_told rs ss ≡ map reads rs ++ told_rest ss
told-first rs [] = sym (append-nil (map reads rs))
told-first rs (s ∷ ss) = refl

pub told-cut : (rs : List LaneUse) (ss : List Begun) (k : ℕ) → k ≤ length ss → pieces_told rs ss ≡ told_before rs ss k ++ (map reads (piece_readings rs ss k) ++ told_after ss k)
told-cut rs ss zero h = told-first rs ss
told-cut rs [] (suc k) h = absurd (omega arith)
told-cut rs (s ∷ ss) (suc k) h = ap (λ t. map reads rs ++ writing s ∷ t) (told-cut s.readings ss k (omega arith)) ∙ sym (append_assoc (map reads rs) (writing s ∷ told_before s.readings ss k) (map reads (piece_readings s.readings ss k) ++ told_after ss k))

-- a piece gets other readings
put-told : (rs : List LaneUse) (ss : List Begun) (k : ℕ) (new : List LaneUse) → k < length ss → pieces_told rs (changed_at k (begun_with_readings new) ss) ≡ told_before rs ss (suc k) ++ (map reads new ++ told_after ss (suc k))
put-told rs [] k new h = absurd (omega arith)
put-told rs (s ∷ ss) zero new h = ap (λ t. map reads rs ++ writing s ∷ t) (told-first new ss) ∙ sym (append_assoc (map reads rs) (writing s ∷ []) (map reads new ++ told_rest ss))
put-told rs (s ∷ ss) (suc k) new h = ap (λ t. map reads rs ++ writing s ∷ t) (put-told s.readings ss k new (omega arith)) ∙ sym (append_assoc (map reads rs) (writing s ∷ told_before s.readings ss (suc k)) (map reads new ++ told_after ss (suc k)))

pub with-told : (v : Seen) (k : ℕ) (new : List LaneUse) → k ≤ length v.segments → seen_told (with_readings v k new) ≡ told_before v.readings v.segments k ++ (map reads new ++ told_after v.segments k)
with-told v zero new h = told-first new v.segments
with-told v (suc k) new h = put-told v.readings v.segments k new (omega arith)

-- a piece is put behind it
before-insert : (rs : List LaneUse) (ss : List Begun) (k : ℕ) (p : Begun) → k ≤ length ss → told_before rs (insert ss k p) k ≡ told_before rs ss k
before-insert rs ss zero p h = refl
before-insert rs [] (suc k) p h = absurd (omega arith)
before-insert rs (s ∷ ss) (suc k) p h = ap (λ t. map reads rs ++ writing s ∷ t) (before-insert s.readings ss k p (omega arith))

after-insert : (ss : List Begun) (k : ℕ) (p : Begun) → k ≤ length ss → told_after (insert ss k p) k ≡ writing p ∷ (map reads p.readings ++ told_after ss k)
after-insert ss zero p h = ap (λ t. writing p ∷ t) (told-first p.readings ss)
after-insert [] (suc k) p h = absurd (omega arith)
after-insert (s ∷ ss) (suc k) p h = after-insert ss k p (omega arith)

insert-within : (ss : List Begun) (k : ℕ) (p : Begun) → k ≤ length ss → k ≤ length (insert ss k p)
insert-within ss zero p h = omega arith
insert-within [] (suc k) p h = absurd (omega arith)
insert-within (s ∷ ss) (suc k) p h = let r = insert-within ss k p (omega arith) in omega (arith, r)

pub begun-told : (v : Seen) (k : ℕ) (p : Begun) (new : List LaneUse) → k ≤ length v.segments → seen_told (with_readings (record v { segments = insert v.segments k p }) k new) ≡ told_before v.readings v.segments k ++ (map reads new ++ (writing p ∷ (map reads p.readings ++ told_after v.segments k)))
begun-told v k p new h =
    with-told (record v { segments = insert v.segments k p }) k new (insert-within v.segments k p h)
    ∙ (λ i. before-insert v.readings v.segments k p h i ++ (map reads new ++ after-insert v.segments k p h i))

-- a piece is joined to it
put-removed : (rs : List LaneUse) (ss : List Begun) (k : ℕ) (new : List LaneUse) → suc k < length ss → pieces_told rs (remove (changed_at k (begun_with_readings new) ss) (suc k)) ≡ told_before rs ss (suc k) ++ (map reads new ++ told_after ss (suc (suc k)))
put-removed rs [] k new h = absurd (omega arith)
put-removed rs (s ∷ []) zero new h = absurd (omega arith)
put-removed rs (s ∷ t ∷ ss) zero new h = ap (λ z. map reads rs ++ writing s ∷ z) (told-first new ss) ∙ sym (append_assoc (map reads rs) (writing s ∷ []) (map reads new ++ told_rest ss))
put-removed rs (s ∷ ss) (suc k) new h = ap (λ t. map reads rs ++ writing s ∷ t) (put-removed s.readings ss k new (omega arith)) ∙ sym (append_assoc (map reads rs) (writing s ∷ told_before s.readings ss (suc k)) (map reads new ++ told_after ss (suc (suc k))))

abbrev pub without_piece : Seen → ℕ → Seen
without_piece v k = record v { segments = remove v.segments k }

pub joined-told : (v : Seen) (k : ℕ) (new : List LaneUse) → k < length v.segments → seen_told (without_piece (with_readings v k new) k) ≡ told_before v.readings v.segments k ++ (map reads new ++ told_after v.segments (suc k))
joined-told v zero new h = go v.segments h
  where
    go : (ss : List Begun) → 0 < length ss → pieces_told new (remove ss 0) ≡ map reads new ++ told_after ss 1
    go [] h = absurd (omega arith)
    go (s ∷ ss) h = told-first new ss
joined-told v (suc k) new h = put-removed v.readings v.segments k new h

-- the writing behind it
pub begun-within : (id : ℕ) (ss : List Begun) (k : ℕ) → is_begun_by id ss k ≡ true → k < length ss
begun-within id [] k e = absurd (cc)
begun-within id (s ∷ ss) zero e = omega arith
begun-within id (s ∷ ss) (suc k) e = let r = begun-within id ss k e in omega (arith, r)

pub after-begun : (rs : List LaneUse) (ss : List Begun) (k : ℕ) → k < length ss → (s : Begun) × (told_after ss k ≡ writing s ∷ (map reads (piece_readings rs ss (suc k)) ++ told_after ss (suc k))) × ((id : ℕ) → is_begun_by id ss k ≡ nat_eq s.start id)
after-begun rs [] k h = absurd (omega arith)
after-begun rs (s ∷ ss) zero h = (s, ap (λ t. writing s ∷ t) (told-first s.readings ss), λ id. refl)
after-begun rs (s ∷ ss) (suc k) h = after-begun s.readings ss k (omega arith)

-- it becomes another one
pub rewritten-told : (id : ℕ) (rs : List LaneUse) (ss : List Begun) (k : ℕ) (early : Bool) (from : Option ℕ) → is_begun_by id ss k ≡ true
    → pieces_told rs (changed_at k (begun_with_writing early from) ss) ≡ told_before rs ss k ++ (map reads (piece_readings rs ss k) ++ (writes id early from ∷ (map reads (piece_readings rs ss (suc k)) ++ told_after ss (suc k))))
rewritten-told id rs [] k early from e = absurd (cc)
rewritten-told id rs (s ∷ ss) zero early from e = λ i. map reads rs ++ writes (eqb-true s.start id e i) early from ∷ told-first s.readings ss i
rewritten-told id rs (s ∷ ss) (suc k) early from e =
    ap (λ t. map reads rs ++ writing s ∷ t) (rewritten-told id s.readings ss k early from e)
    ∙ sym (append_assoc (map reads rs) (writing s ∷ told_before s.readings ss k) (map reads (piece_readings s.readings ss k) ++ (writes id early from ∷ (map reads (piece_readings s.readings ss (suc k)) ++ told_after ss (suc k)))))
