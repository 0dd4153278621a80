-- A piece that begins with an instruction, and what it takes of the readings of the one before.
use Rattle.std.proofs.Common.{◌≡◌, ◌≤◌, ◌+◌, ◌∙◌, ℕ, zero, suc, Bool, cond, length, List, [], ◌∷◌, Option, take, drop, refl, sym, ap, arith}
use Rattle.std.specs.List.{insert}
use Rattle.live_lanes.specs.declared.row.DefPiece.{DefPiece}
use Rattle.live_lanes.specs.declared.row.LaneUse.{LaneUse}
use Rattle.live_lanes.specs.Table.{Seen, Begun, begun, new_begun}
use Rattle.live_edits.specs.CellChanges.{begun_with_readings, with_readings, piece_readings, has_place}
use Rattle.live_edits.specs.Renoted.{piece_begun}
use Rattle.live_edits.proofs.CellChanged.{placed}
use Rattle.live_edits.proofs.RenotePieces.{take-whole}
use Rattle.live_edits.proofs.ReadingsChanged.{own-readings}

-- the piece before a new one has the readings that it had
readings-before : (rs : List LaneUse) (ss : List Begun) (k : ℕ) (p : Begun) → k ≤ length ss → piece_readings rs (insert ss k p) k ≡ piece_readings rs ss k
readings-before rs ss zero p h = refl
readings-before rs [] (suc k) p h = absurd (omega arith)
readings-before rs (s ∷ ss) (suc k) p h = readings-before s.readings ss k p (omega arith)

module _ (v : Seen) (k id : ℕ) (early : Bool) (from : Option ℕ) (piece : DefPiece) (count : ℕ) (within : k ≤ length v.segments) (more : count ≡ length v.segments + 1) where
  abbrev own : List LaneUse
  own = piece_readings v.readings v.segments k

  abbrev with_piece : Begun → Seen
  with_piece p = record v { segments = insert v.segments k p }

  abbrev put : Seen
  put = cond (has_place k count (length v.segments)) (with_piece (begun piece)) v

  put-is : (behind : List LaneUse) → begun piece ≡ begun_with_readings behind (new_begun id early from) → put ≡ with_piece (begun_with_readings behind (new_begun id early from))
  put-is behind is =
      ap (λ t. cond t (with_piece (begun piece)) v) (placed k count (length v.segments) within (omega (arith, more)))
      ∙ ap with_piece is

  -- the new piece takes some
  pub begins-taking : (at : ℕ) (before behind : List LaneUse) → before ≡ take at own → behind ≡ drop at own → begun piece ≡ begun_with_readings behind (new_begun id early from) → with_readings put k before ≡ piece_begun k id early from (take at own) (drop at own) v
  begins-taking at before behind e f is =
      ap (λ w. with_readings w k before) (put-is behind is) ∙ (λ i. with_readings (with_piece (begun_with_readings (f i) (new_begun id early from))) k (e i))

  -- it takes none
  pub begins-whole : (at : ℕ) (behind : List LaneUse) → at ≡ length own → behind ≡ drop at own → begun piece ≡ begun_with_readings behind (new_begun id early from) → put ≡ piece_begun k id early from (take at own) (drop at own) v
  begins-whole at behind e f is =
      let p = begun_with_readings (drop at own) (new_begun id early from) in
      put-is behind is
      ∙ ap (λ rs. with_piece (begun_with_readings rs (new_begun id early from))) f
      ∙ sym (own-readings (with_piece p) k)
      ∙ ap (with_readings (with_piece p) k) (readings-before v.readings v.segments k p within ∙ sym (ap (λ n. take n own) e ∙ take-whole own))
