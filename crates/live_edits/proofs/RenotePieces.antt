-- Pieces of cells as the code finds them.
use Rattle.std.proofs.Common.{take, drop, ◌≡◌, ◌<◌, ◌≤◌, ◌-◌, ◌∙◌, ℕ, zero, suc, false, length, List, [], ◌∷◌, map, get_or, refl, ap, arith}
use Rattle.std.specs.Prelude.{nat_eq}
use Rattle.live_lanes.specs.declared.row.DefPiece.{DefPiece}
use Rattle.live_lanes.specs.declared.row.LaneUse.{LaneUse}
use Rattle.live_lanes.specs.Table.{begun}
use Rattle.live_edits.specs.Renoted.{is_begun_by, piece_readings}

pub begun-past : (id : ℕ) (ps : List DefPiece) (at : ℕ) → length ps ≤ at → false ≡ is_begun_by id (map begun ps) at
begun-past id [] at h = refl
begun-past id (p ∷ ps) zero h = absurd (omega arith)
begun-past id (p ∷ ps) (suc at) h = begun-past id ps at (omega arith)

pub begun-at : (id : ℕ) (ps : List DefPiece) (at : ℕ) (x : DefPiece) → at < length ps → x ≡ get_or ps at x → nat_eq x.start id ≡ is_begun_by id (map begun ps) at
begun-at id [] at x h e = absurd (omega arith)
begun-at id (p ∷ ps) zero x h e = ap (λ (q : DefPiece). nat_eq q.start id) e
begun-at id (p ∷ ps) (suc at) x h e = begun-at id ps at x (omega arith) e

readings-here : (rs : List LaneUse) (ps : List DefPiece) (k : ℕ) (x : DefPiece) → k < length ps → x ≡ get_or ps k x → x.piece.readings.items ≡ piece_readings rs (map begun ps) (suc k)
readings-here rs [] k x h e = absurd (omega arith)
readings-here rs (p ∷ ps) zero x h e = ap (λ (q : DefPiece). q.piece.readings.items) e
readings-here rs (p ∷ ps) (suc k) x h e = readings-here p.piece.readings.items ps k x (omega arith) e

pub readings-at : (rs : List LaneUse) (ps : List DefPiece) (index : ℕ) (x : DefPiece) → (index ≡ 0 → ⊥) → index ≤ length ps → x ≡ get_or ps (index - 1) x → x.piece.readings.items ≡ piece_readings rs (map begun ps) index
readings-at rs ps zero x ne h e = absurd (ne refl)
readings-at rs ps (suc k) x ne h e =
    let one : suc k - 1 ≡ k = omega arith in
    readings-here rs ps k x (omega arith) (e ∙ ap (λ n. get_or ps n x) one)

pub take-whole : {X : Type 0} (xs : List X) → take (length xs) xs ≡ xs
take-whole [] = refl
take-whole (x ∷ xs) = ap (λ t. x ∷ t) (take-whole xs)

-- a slice from a place on
pub take-rest : {X : Type 0} (xs : List X) (n : ℕ) → n ≤ length xs → take (length xs - n) (drop n xs) ≡ drop n xs
take-rest xs zero h = let e : length xs - 0 ≡ length xs = omega arith in ap (λ k. take k xs) e ∙ take-whole xs
take-rest [] (suc n) h = absurd (omega arith)
take-rest (x ∷ xs) (suc n) h = let e : suc (length xs) - suc n ≡ length xs - n = omega arith in ap (λ k. take k (drop n xs)) e ∙ take-rest xs n (omega arith)
