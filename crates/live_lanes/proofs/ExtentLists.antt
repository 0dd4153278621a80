-- The extents of a cell: that of the piece that begins with the block, if it has points, and then those of the pieces that begin with writings.
use Rattle.std.proofs.Common.{◌≡◌, ℕ, suc, ◌+◌, Bool, true, false, cond, List, [], ◌∷◌, Option, None, Some, map, length, refl, sym, ap, ◌∙◌, add-one, arith}
use Rattle.std.specs.Prelude.{nat_eq, slice_get, option_map, find}
use Rattle.std.specs.List.{cons_option, filter_map}
use Rattle.mir_meaning.specs.Registers.{numbers}
use Rattle.live_lanes.specs.declared.ask.extent.Extent.{Extent}
use Rattle.live_lanes.specs.declared.row.Cell.{Cell}
use Rattle.live_lanes.specs.declared.row.DefPiece.{DefPiece}
use Rattle.live_lanes.specs.declared.table.Table.{Table}
use Rattle.live_lanes.specs.Table.{Begun, Seen, begun, find_cell, seen}
use Rattle.live_lanes.specs.Entered.{cells_of, rows_seen}
use Rattle.live_lanes.specs.Extents.{begins_with, block_extent, cell_extents, extent_in, extents_in, segment_extent, some_extents}
use Rattle.live_lanes.specs.Reach.{is_never}
use Rattle.live_lanes.proofs.Alike.{seen-cells}

tail-extents : (c : Cell) (k : ℕ) (rest : List DefPiece) → ((j : ℕ) → slice_get c.segments.items (k + j) ≡ slice_get rest j) → filter_map (extent_in (Some c)) (numbers (suc k) (length rest)) ≡ map segment_extent rest
tail-extents c k [] h = refl
tail-extents c k (s ∷ rest) h =
    let here : k ≡ k + 0 = omega arith in
    let at : slice_get c.segments.items k ≡ Some s = ap (slice_get c.segments.items) here ∙ h 0 in
    ap (λ q. cons_option (option_map segment_extent q) (filter_map (extent_in (Some c)) (numbers (suc (suc k)) (length rest)))) at
    ∙ ap (λ es. segment_extent s ∷ es) (tail-extents c (suc k) rest (λ j. let e : suc k + j ≡ k + suc j = omega arith in ap (slice_get c.segments.items) e ∙ h (suc j)))

pub extents-list : (c : Cell) → cell_extents c ≡ cons_option (block_extent c.first.end) (map segment_extent c.segments.items)
extents-list c =
    let ss = c.segments.items in
    ap (λ n. filter_map (extent_in (Some c)) (numbers 0 n)) (add-one (length ss))
    ∙ ap (λ es. cons_option (block_extent c.first.end) es) (tail-extents c 0 ss (λ j. let e : 0 + j ≡ j = omega arith in ap (slice_get ss) e))

-- the points of a piece that begins with a writing, by what is seen of it
abbrev pub begun_extent : Begun → Extent
begun_extent s = record { start = Some s.start; early = s.early; end = s.end }

-- the extents of a cell, by what is seen of it
abbrev pub seen_extents : Seen → List Extent
seen_extents v = cons_option (block_extent v.end) (map begun_extent v.segments)

map-begun : (ss : List DefPiece) → map segment_extent ss ≡ map begun_extent (map begun ss)
map-begun [] = refl
map-begun (s ∷ ss) = ap (λ es. segment_extent s ∷ es) (map-begun ss)

pub extents-seen : (q : Option Cell) → some_extents q ≡ seen_extents (seen q)
extents-seen None = refl
extents-seen (Some c) = extents-list c ∙ ap (λ es. cons_option (block_extent c.first.end) es) (map-begun c.segments.items)

-- those of a lane in a block of a table
pub extents-rows : (x : Table) (l b : ℕ) → extents_in x l b ≡ seen_extents (rows_seen x.rows.rows.items l b)
extents-rows x l b = extents-seen (find_cell b (cells_of x.rows.rows.items l)) ∙ ap seen_extents (sym (seen-cells x.rows.rows.items l b))

-- the extent that begins with an instruction is that of the piece which it begins

segment-found : (id : ℕ) (ss : List Begun) → find (begins_with (Some id)) (map begun_extent ss) ≡ option_map begun_extent (find (λ s. nat_eq s.start id) ss)
segment-found id [] = refl
segment-found id (s ∷ ss) = go (nat_eq s.start id) (segment-found id ss)
  where
    go : (t : Bool) → find (begins_with (Some id)) (map begun_extent ss) ≡ option_map begun_extent (find (λ s. nat_eq s.start id) ss) → cond t (Some (begun_extent s)) (find (begins_with (Some id)) (map begun_extent ss)) ≡ option_map begun_extent (cond t (Some s) (find (λ s. nat_eq s.start id) ss))
    go true ih = refl
    go false ih = ih

no-segment : (ss : List Begun) → find (begins_with None) (map begun_extent ss) ≡ None
no-segment [] = refl
no-segment (s ∷ ss) = no-segment ss

pub start-found : (v : Seen) (id : ℕ) → find (begins_with (Some id)) (seen_extents v) ≡ option_map begun_extent (find (λ s. nat_eq s.start id) v.segments)
start-found v id = go (is_never v.end)
  where
    go : (t : Bool) → find (begins_with (Some id)) (cons_option (cond t None (Some (record { start = None; early = false; end = v.end }))) (map begun_extent v.segments)) ≡ option_map begun_extent (find (λ s. nat_eq s.start id) v.segments)
    go true = segment-found id v.segments
    go false = segment-found id v.segments

pub block-found : (v : Seen) → find (begins_with None) (seen_extents v) ≡ block_extent v.end
block-found v = go (is_never v.end)
  where
    go : (t : Bool) → find (begins_with None) (cons_option (cond t None (Some (record { start = None; early = false; end = v.end }))) (map begun_extent v.segments)) ≡ cond t None (Some (record { start = None; early = false; end = v.end }))
    go true = no-segment v.segments
    go false = refl
