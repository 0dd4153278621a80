-- Where only ends of pieces change, their causes stay.
use Rattle.std.proofs.Common.{◌≡◌, ◌<◌, ℕ, zero, suc, Bool, true, false, cond, length, List, [], ◌∷◌, Option, None, Some, map, refl, ap, ◌∙◌, get_or, set, eqb-true, length-set}
use Rattle.std.specs.Prelude.{slice_get, nat_eq}
use Rattle.live_lanes.specs.declared.row.Cell.{Cell}
use Rattle.live_lanes.specs.declared.row.PieceEnd.{PieceEnd}
use Rattle.live_lanes.specs.declared.row.LaneRange.{LaneRange}
use Rattle.live_lanes.specs.Table.{Begun, Seen, seen_in, cause_in, begun_cause, begun_with_end, changed_at, with_end, with_end_at}
use Rattle.live_lanes.specs.Entered.{start_of, shape, rows_seen}
use Rattle.live_lanes.specs.Marks.{KeepsCauses}
use Rattle.live_lanes.proofs.Rows.{rows-set, row-of}

changed-cause : (k m : ℕ) (e : PieceEnd) (ss : List Begun) → begun_cause (slice_get (changed_at k (begun_with_end e) ss) m) ≡ begun_cause (slice_get ss m)
changed-cause k m e [] = refl
changed-cause zero zero e (s ∷ ss) = refl
changed-cause zero (suc m) e (s ∷ ss) = refl
changed-cause (suc k) zero e (s ∷ ss) = refl
changed-cause (suc k) (suc m) e (s ∷ ss) = changed-cause k m e ss

changed-start : (k : ℕ) (e : PieceEnd) (ss : List Begun) → map start_of (changed_at k (begun_with_end e) ss) ≡ map start_of ss
changed-start k e [] = refl
changed-start zero e (s ∷ ss) = refl
changed-start (suc k) e (s ∷ ss) = ap (λ xs. start_of s ∷ xs) (changed-start k e ss)

end-cause : (v : Seen) (index : ℕ) (e : PieceEnd) (n : ℕ) → cause_in (with_end v index e) n ≡ cause_in v n
end-cause v zero e zero = refl
end-cause v zero e (suc n) = refl
end-cause v (suc k) e zero = refl
end-cause v (suc k) e (suc n) = changed-cause k n e v.segments

end-shape : (v : Seen) (index : ℕ) (e : PieceEnd) → shape (with_end v index e) ≡ shape v
end-shape v zero e = refl
end-shape v (suc k) e = ap (λ ss. record { is_read_last = v.is_read_last; readings = v.readings; segments = ss }) (changed-start k e v.segments)

at-cause : (q : Option Cell) (index : ℕ) (e : PieceEnd) (v : Seen) (b n : ℕ) → cause_in (with_end_at q index e v b) n ≡ cause_in v n
at-cause None index e v b n = refl
at-cause (Some c) index e v b n = go (nat_eq c.block b)
  where
    go : (t : Bool) → cause_in (cond t (with_end v index e) v) n ≡ cause_in v n
    go true = end-cause v index e n
    go false = refl

at-shape : (q : Option Cell) (index : ℕ) (e : PieceEnd) (v : Seen) (b : ℕ) → shape (with_end_at q index e v b) ≡ shape v
at-shape None index e v b = refl
at-shape (Some c) index e v b = go (nat_eq c.block b)
  where
    go : (t : Bool) → shape (cond t (with_end v index e) v) ≡ shape v
    go true = end-shape v index e
    go false = refl

pub keeps-none : (rows : List LaneRange) → KeepsCauses rows rows
keeps-none rows = record { causes = λ l b n. refl; shapes = λ l b. refl; lanes = refl }

pub keeps-both : (old mid new : List LaneRange) → KeepsCauses old mid → KeepsCauses mid new → KeepsCauses old new
keeps-both old mid new x y = record {
  causes = λ l b n. y.causes l b n ∙ x.causes l b n;
  shapes = λ l b. y.shapes l b ∙ x.shapes l b;
  lanes = y.lanes ∙ x.lanes;
}

-- one row, a piece of whose cell gets an end
pub keeps-row : (rows : List LaneRange) (lane : ℕ) (x y : LaneRange) (place index : ℕ) (e : PieceEnd) → lane < length rows → x ≡ get_or rows lane x → ((b : ℕ) → seen_in y.cells.items b ≡ with_end_at (slice_get x.cells.items place) index e (seen_in x.cells.items b) b) → KeepsCauses rows (set rows lane y)
keeps-row rows lane x y place index e within own ended = record {
  causes = λ l b n. ap (λ v. cause_in v n) (rows-set rows lane l b y within) ∙ cause l b n (nat_eq lane l) refl;
  shapes = λ l b. ap shape (rows-set rows lane l b y within) ∙ shaped l b (nat_eq lane l) refl;
  lanes = length-set rows lane y;
}
  where
    cause : (l b n : ℕ) (t : Bool) → nat_eq lane l ≡ t → cause_in (cond (nat_eq lane l) (seen_in y.cells.items b) (rows_seen rows l b)) n ≡ cause_in (rows_seen rows l b) n
    cause l b n true f = ap (λ t. cause_in (cond t (seen_in y.cells.items b) (rows_seen rows l b)) n) f ∙ ap (λ v. cause_in v n) (ended b) ∙ at-cause (slice_get x.cells.items place) index e (seen_in x.cells.items b) b n ∙ ap (λ v. cause_in v n) (row-of rows lane b x within own) ∙ ap (λ k. cause_in (rows_seen rows k b) n) (eqb-true lane l f)
    cause l b n false f = ap (λ t. cause_in (cond t (seen_in y.cells.items b) (rows_seen rows l b)) n) f

    shaped : (l b : ℕ) (t : Bool) → nat_eq lane l ≡ t → shape (cond (nat_eq lane l) (seen_in y.cells.items b) (rows_seen rows l b)) ≡ shape (rows_seen rows l b)
    shaped l b true f = ap (λ t. shape (cond t (seen_in y.cells.items b) (rows_seen rows l b))) f ∙ ap shape (ended b) ∙ at-shape (slice_get x.cells.items place) index e (seen_in x.cells.items b) b ∙ ap shape (row-of rows lane b x within own) ∙ ap (λ k. shape (rows_seen rows k b)) (eqb-true lane l f)
    shaped l b false f = ap (λ t. shape (cond t (seen_in y.cells.items b) (rows_seen rows l b))) f
