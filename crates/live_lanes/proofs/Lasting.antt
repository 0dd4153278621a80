-- Pieces by their shapes, and the last elements that pass a test.
use Rattle.std.proofs.Common.{◌≡◌, ◌<◌, ◌≤◌, ℕ, zero, suc, Bool, true, false, cond, length, List, [], ◌∷◌, Option, None, Some, refl, sym, ap, ◌∙◌, arith, drop, get_or, map}
use Rattle.std.specs.Prelude.{slice_get, option_map, nat_le}
use Rattle.live_lanes.specs.declared.compute.flow.BlockFlow.{BlockFlow}
use Rattle.live_lanes.specs.declared.row.Cause.TheVariants as why
use Rattle.live_lanes.specs.declared.row.Cell.{Cell}
use Rattle.live_lanes.specs.declared.row.PieceEnd.{PieceEnd}
use Rattle.live_lanes.specs.declared.row.PieceEnd.TheVariants as ends
use Rattle.live_lanes.specs.declared.row.Piece.{Piece}
use Rattle.live_lanes.specs.declared.row.LaneRange.{LaneRange}
use Rattle.live_lanes.specs.declared.row.DefPiece.{DefPiece}
use Rattle.live_lanes.specs.Graph.{is_live}
use Rattle.live_lanes.specs.Table.{Numbers, exit_rank, Seen, begun, seen, seen_in, seen_cell, unseen, begun_cause, cause_in, piece_at, piece_in}
use Rattle.live_lanes.specs.Entered.{Start, start_of, shape, rows_seen, cells_of, causes}
use Rattle.live_lanes.specs.Lasting.{shapes, piece_of, start_readings, readings_of, later_of, last_with, live_end, cell_end}
use Rattle.live_lanes.proofs.Cells.{is-found}
use Rattle.live_lanes.proofs.Segments.{leading-map}

-- the piece at a point, by the shape
pub piece-shape : (slots : Numbers) (at : ℕ) (v : Seen) → piece_at slots at v.segments ≡ piece_of slots at (shape v)
piece-shape slots at v = sym (leading-map start_of (λ (s : Start). nat_le (exit_rank slots s.start) at) v.segments)

segment-piece : (ss : List DefPiece) (k : ℕ) (p : Piece) → option_map (λ (s : DefPiece). s.piece) (slice_get ss k) ≡ Some p → (p.cause ≡ begun_cause (slice_get (map begun ss) k)) × (p.readings.items ≡ start_readings (slice_get (map start_of (map begun ss)) k))
segment-piece [] k p e = absurd (cc)
segment-piece (s ∷ ss) zero p e = let same : s.piece ≡ p = cc in (ap (λ x. x.cause) (sym same), ap (λ x. x.readings.items) (sym same))
segment-piece (s ∷ ss) (suc k) p e = segment-piece ss k p e

-- a piece of a cell, by its number
pub cell-piece : (c : Cell) (n : ℕ) (p : Piece) → Some p ≡ piece_in c n → (p.cause ≡ cause_in (seen_cell c) n) × (p.readings.items ≡ readings_of (shape (seen_cell c)) n)
cell-piece c zero p e = let same : p ≡ c.first = cc in (ap (λ x. x.cause) same, ap (λ x. x.readings.items) same)
cell-piece c (suc k) p e = segment-piece c.segments.items k p (sym e)

segment-none : (ss : List DefPiece) (k : ℕ) → option_map (λ (s : DefPiece). s.piece) (slice_get ss k) ≡ None → begun_cause (slice_get (map begun ss) k) ≡ why.None
segment-none [] k e = refl
segment-none (s ∷ ss) zero e = absurd (cc)
segment-none (s ∷ ss) (suc k) e = segment-none ss k e

pub cell-none : (c : Cell) (n : ℕ) → None ≡ piece_in c n → cause_in (seen_cell c) n ≡ why.None
cell-none c zero e = absurd (cc)
cell-none c (suc k) e = segment-none c.segments.items k (sym e)

-- a cell of a row is what is seen of the lane in the cell's block
pub cell-in : (rows : List LaneRange) (lane place : ℕ) (c : Cell) → slice_get (cells_of rows lane) place ≡ Some c → rows_seen rows lane c.block ≡ seen_cell c
cell-in rows lane place c e = go (slice_get rows lane) e
  where
    go : (q : Option LaneRange) → slice_get (elim q [ None ↦ [] | Some r ↦ r.cells.items ]) place ≡ Some c → elim q [ None ↦ unseen | Some r ↦ seen_in r.cells.items c.block ] ≡ seen_cell c
    go None f = absurd (cc)
    go (Some r) f = ap seen (is-found r.cells.items place c r.sorted f)

-- going down a list from its end

pub last-past : {X : Type 0} (test : X → Bool) (xs : List X) (k : ℕ) → length xs ≤ k → last_with test (drop k xs) ≡ None
last-past test [] zero h = refl
last-past test [] (suc k) h = refl
last-past test (x ∷ xs) zero h = absurd (omega arith)
last-past test (x ∷ xs) (suc k) h = last-past test xs k (omega arith)

pub last-here : {X : Type 0} (test : X → Bool) (xs : List X) (k : ℕ) (d : X) → k < length xs → test (get_or xs k d) ≡ true → last_with test (drop (suc k) xs) ≡ None → last_with test xs ≡ Some (get_or xs k d)
last-here test [] k d h t n = absurd (omega arith)
last-here test (x ∷ xs) zero d h t n = ap (λ q. later_of q (cond (test x) (Some x) None)) n ∙ ap (λ u. cond u (Some x) None) t
last-here test (x ∷ xs) (suc k) d h t n = ap (λ q. later_of q (cond (test x) (Some x) None)) (last-here test xs k d (omega arith) t n)

-- the end of a piece of a cell of the rows
module _ (slots : Numbers) (flow : List BlockFlow) (rows : List LaneRange) (lane place index : ℕ) (c : Cell) (there : slice_get (cells_of rows lane) place ≡ Some c) where
  abbrev of_seen : Seen → PieceEnd
  of_seen v = cond (is_live (cause_in v index)) (live_end slots flow (causes rows) (shapes rows) (shape v) lane c.block index (cause_in v index) (readings_of (shape v) index)) ends.Never

  told : cell_end slots flow (causes rows) (shapes rows) lane index (slice_get (cells_of rows lane) place) ≡ of_seen (seen_cell c)
  told = ap (cell_end slots flow (causes rows) (shapes rows) lane index) there ∙ ap of_seen (cell-in rows lane place c there)

  pub dead-cell : is_live (cause_in (seen_cell c) index) ≡ false → ends.Never ≡ cell_end slots flow (causes rows) (shapes rows) lane index (slice_get (cells_of rows lane) place)
  dead-cell e = sym (told ∙ ap (λ u. cond u (live_end slots flow (causes rows) (shapes rows) (shape (seen_cell c)) lane c.block index (cause_in (seen_cell c) index) (readings_of (shape (seen_cell c)) index)) ends.Never) e)

  pub live-cell : (p : Piece) → Some p ≡ piece_in c index → is_live p.cause ≡ true → live_end slots flow (causes rows) (shapes rows) (shape (seen_cell c)) lane c.block index p.cause p.readings.items ≡ cell_end slots flow (causes rows) (shapes rows) lane index (slice_get (cells_of rows lane) place)
  live-cell p e live =
      let z = cell-piece c index p e in
      let live' : is_live (cause_in (seen_cell c) index) ≡ true = ap is_live (sym z.0) ∙ live in
      ap (λ x. live_end slots flow (causes rows) (shapes rows) (shape (seen_cell c)) lane c.block index x p.readings.items) z.0
      ∙ ap (λ x. live_end slots flow (causes rows) (shapes rows) (shape (seen_cell c)) lane c.block index (cause_in (seen_cell c) index) x) z.1
      ∙ sym (told ∙ ap (λ u. cond u (live_end slots flow (causes rows) (shapes rows) (shape (seen_cell c)) lane c.block index (cause_in (seen_cell c) index) (readings_of (shape (seen_cell c)) index)) ends.Never) live')
