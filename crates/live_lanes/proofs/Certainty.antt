-- Raising all pieces that need no other lane: of a cell, of a lane, of all lanes.
use Rattle.std.proofs.Common.{◌≡◌, ◌<◌, ◌≤◌, ℕ, zero, suc, ◌+◌, Bool, true, false, cond, length, List, [], ◌∷◌, ◌++◌, ◌⊎◌, Option, None, Some, refl, sym, ap, ◌∙◌, subst, inl, inr, arith, get_or, eqb-true}
use Rattle.std.specs.Prelude.{slice_get, nat_eq}
use Rattle.std.proofs.lemmas.List.{length-map}
use Rattle.std.proofs.lemmas.Bool.{cases_lt}
use Rattle.std.proofs.lemmas.Option.{slice_get_cases}
use Rattle.live_lanes.specs.declared.compute.flow.BlockFlow.{BlockFlow}
use Rattle.live_lanes.specs.declared.row.Cell.{Cell}
use Rattle.live_lanes.specs.declared.row.LaneRange.{LaneRange}
use Rattle.live_lanes.specs.declared.table.PieceSpot.{PieceSpot}
use Rattle.mir_meaning.specs.Paths.{Code}
use Rattle.live_lanes.specs.Graph.{is_live}
use Rattle.live_lanes.specs.Table.{Numbers, Seen, unseen, find_cell, seen, seen_in, seen_cell, certain_cause, begun, begun_readings, cause_of, is_certain}
use Rattle.live_lanes.specs.Certain.{blocks_of}
use Rattle.live_lanes.specs.Entered.{rows_seen, cells_of, piece_count, causes, IsTableOf}
use Rattle.live_lanes.specs.Growth.{Grew, row_blocks, KeepsBlocks, Done, RaisesPiece, RaisesCell, RaisesRow}
use Rattle.live_lanes.proofs.Cells.{is-found, found-block}
use Rattle.live_lanes.proofs.Exits.{table-kept}
use Rattle.live_lanes.proofs.Growth.{grew-refl, grew-trans}
use Rattle.live_lanes.proofs.Pieces.{done-kept, same-length}

some-inj : {X : Type 0} (x y : X) → Some x ≡ Some y → x ≡ y
some-inj x y e = cc

-- as far as the loop over the pieces of a cell has come
pub record SomePieces (code : Code) (old new : List LaneRange) (lane place k : ℕ) (x y : List PieceSpot) : Type 0 where
  pub grew : Grew code old new x y
  pub done : (b n : ℕ) → slice_get (row_blocks old lane) place ≡ Some b → n < k → n ≤ length (rows_seen old lane b).segments → Done new lane b n

pub lt-cases : (n k : ℕ) → n < k + 1 → (n < k) ⊎ (n ≡ k)
lt-cases n k h = go (cases_lt n k)
  where
    go : ((n < k) ⊎ (k ≤ n)) → (n < k) ⊎ (n ≡ k)
    go (inl l) = inl l
    go (inr g) = inr (omega arith)

pub pieces-more : (code : Code) (slots : Numbers) (flow : List BlockFlow) (old mid new : List LaneRange) (lane place k : ℕ) (x y z : List PieceSpot) → IsTableOf code slots flow old → KeepsBlocks old mid → SomePieces code old mid lane place k x y → RaisesPiece mid new lane place k y z → SomePieces code old new lane place (k + 1) x z
pieces-more code slots flow old mid new lane place k x y z t keeps so r = record {
  grew = grew-trans code old mid new x y z so.grew step.0;
  done = λ b n e h w. go b n e w (lt-cases n k h);
}
  where
    step : Grew code mid new y z × ((b : ℕ) → slice_get (row_blocks mid lane) place ≡ Some b → k ≤ length (rows_seen mid lane b).segments → Done new lane b k)
    step = r code slots flow (table-kept code slots flow old mid x y t so.grew)

    go : (b n : ℕ) → slice_get (row_blocks old lane) place ≡ Some b → n ≤ length (rows_seen old lane b).segments → (n < k) ⊎ (n ≡ k) → Done new lane b n
    go b n e w (inl l) = done-kept code mid new y z lane b n step.0 (so.done b n e l w)
    go b n e w (inr f) = subst (Done new lane b) (sym f) (step.1 b (ap (λ bs. slice_get bs place) (keeps lane) ∙ e) (let s = same-length code old mid x y lane b so.grew in omega arith))

-- the cell at a place whose block is b
pub block-cell : (cells : List Cell) (p b : ℕ) → slice_get (blocks_of cells) p ≡ Some b → (c : Cell) × (slice_get cells p ≡ Some c) × (c.block ≡ b)
block-cell [] p b e = absurd (cc)
block-cell (c ∷ cells) zero b e = (c, refl, some-inj c.block b e)
block-cell (c ∷ cells) (suc p) b e = block-cell cells p b e

abbrev cells_in : Option LaneRange → List Cell
cells_in o = elim o [ None ↦ [] | Some r ↦ r.cells.items ]

abbrev seen_of : Option LaneRange → ℕ → Seen
seen_of o b = elim o [ None ↦ unseen | Some r ↦ seen_in r.cells.items b ]

-- what is seen in a block is what the cell at its place tells
pub cell-tells : (rows : List LaneRange) (lane p b : ℕ) → slice_get (row_blocks rows lane) p ≡ Some b → (c : Cell) × (slice_get (cells_of rows lane) p ≡ Some c) × (rows_seen rows lane b ≡ seen_cell c)
cell-tells rows lane p b e = go (slice_get rows lane) e
  where
    go : (o : Option LaneRange) → slice_get (blocks_of (cells_in o)) p ≡ Some b → (c : Cell) × (slice_get (cells_in o) p ≡ Some c) × (seen_of o b ≡ seen_cell c)
    go None f = absurd (cc)
    go (Some r) f = let z = block-cell r.cells.items p b f in (z.0, z.1, ap (seen_in r.cells.items) (sym z.2) ∙ ap seen (is-found r.cells.items p z.0 r.sorted z.1))

count-at : (rows : List LaneRange) (lane p b n : ℕ) → slice_get (row_blocks rows lane) p ≡ Some b → n ≤ length (rows_seen rows lane b).segments → n < piece_count (slice_get (cells_of rows lane) p)
count-at rows lane p b n e w =
    let z = cell-tells rows lane p b e in
    let long = ap (λ v. length v.segments) z.2 ∙ length-map z.0.segments.items begun in
    let count = ap piece_count z.1 in
    omega arith

pub pieces-all : (code : Code) (old new : List LaneRange) (lane place k : ℕ) (x y : List PieceSpot) → piece_count (slice_get (cells_of old lane) place) ≤ k → SomePieces code old new lane place k x y → Grew code old new x y × ((b n : ℕ) → slice_get (row_blocks old lane) place ≡ Some b → n ≤ length (rows_seen old lane b).segments → Done new lane b n)
pieces-all code old new lane place k x y h so = (so.grew, λ b n e w. so.done b n e (let c = count-at old lane place b n e w in omega arith) w)

-- as far as the loop over the cells of a lane has come
pub record SomeCells (code : Code) (old new : List LaneRange) (lane k : ℕ) (x y : List PieceSpot) : Type 0 where
  pub grew : Grew code old new x y
  pub done : (p b n : ℕ) → p < k → slice_get (row_blocks old lane) p ≡ Some b → n ≤ length (rows_seen old lane b).segments → Done new lane b n

pub cells-more : (code : Code) (slots : Numbers) (flow : List BlockFlow) (old mid new : List LaneRange) (lane k : ℕ) (x y z : List PieceSpot) → IsTableOf code slots flow old → KeepsBlocks old mid → SomeCells code old mid lane k x y → RaisesCell mid new lane k y z → SomeCells code old new lane (k + 1) x z
cells-more code slots flow old mid new lane k x y z t keeps so r = record {
  grew = grew-trans code old mid new x y z so.grew step.0;
  done = λ p b n h e w. go p b n e w (lt-cases p k h);
}
  where
    step : Grew code mid new y z × ((b n : ℕ) → slice_get (row_blocks mid lane) k ≡ Some b → n ≤ length (rows_seen mid lane b).segments → Done new lane b n)
    step = r code slots flow (table-kept code slots flow old mid x y t so.grew)

    go : (p b n : ℕ) → slice_get (row_blocks old lane) p ≡ Some b → n ≤ length (rows_seen old lane b).segments → (p < k) ⊎ (p ≡ k) → Done new lane b n
    go p b n e w (inl l) = done-kept code mid new y z lane b n step.0 (so.done p b n l e w)
    go p b n e w (inr f) = step.1 b n (ap (λ bs. slice_get bs k) (keeps lane) ∙ ap (slice_get (row_blocks old lane)) (sym f) ∙ e) (let s = same-length code old mid x y lane b so.grew in omega arith)

-- nothing is certain where nothing is seen
unseen-done : (rows : List LaneRange) (l b n : ℕ) → rows_seen rows l b ≡ unseen → n ≤ length (rows_seen rows l b).segments → Done rows l b n
unseen-done rows l b n e w c = absurd (go n (subst (λ v. n ≤ length v.segments) e w) (ap (λ v. is_live (certain_cause v n)) (sym e) ∙ c))
  where
    go : (n : ℕ) → n ≤ 0 → is_live (certain_cause unseen n) ≡ true → ⊥
    go zero h f = cc
    go (suc n) h f = omega arith

find-place : (cells : List Cell) (b : ℕ) (c : Cell) → find_cell b cells ≡ Some c → (p : ℕ) × (p < length cells) × (slice_get (blocks_of cells) p ≡ Some b)
find-place [] b c e = absurd (cc)
find-place (d ∷ cells) b c e = go (nat_eq d.block b) refl e (λ f. find-place cells b c f)
  where
    go : (t : Bool) → nat_eq d.block b ≡ t → cond t (Some d) (find_cell b cells) ≡ Some c → (find_cell b cells ≡ Some c → (p : ℕ) × (p < length cells) × (slice_get (blocks_of cells) p ≡ Some b)) → (p : ℕ) × (p < length (d ∷ cells)) × (slice_get (blocks_of (d ∷ cells)) p ≡ Some b)
    go true f g ih = (0, omega arith, ap Some (eqb-true d.block b f))
    go false f g ih = let z = ih g in (suc z.0, (let h = z.1 in omega arith), z.2)

-- a block with a cell has a place; elsewhere nothing is seen
pub place-or-unseen : (rows : List LaneRange) (l b : ℕ) → ((p : ℕ) × (p < length (cells_of rows l)) × (slice_get (row_blocks rows l) p ≡ Some b)) ⊎ (rows_seen rows l b ≡ unseen)
place-or-unseen rows l b = go (slice_get rows l)
  where
    inside : (cells : List Cell) → ((p : ℕ) × (p < length cells) × (slice_get (blocks_of cells) p ≡ Some b)) ⊎ (seen_in cells b ≡ unseen)
    inside cells = at (find_cell b cells) refl
      where
        at : (o : Option Cell) → find_cell b cells ≡ o → ((p : ℕ) × (p < length cells) × (slice_get (blocks_of cells) p ≡ Some b)) ⊎ (seen_in cells b ≡ unseen)
        at None e = inr (ap seen e)
        at (Some c) e = inl (find-place cells b c e)

    go : (o : Option LaneRange) → ((p : ℕ) × (p < length (cells_in o)) × (slice_get (blocks_of (cells_in o)) p ≡ Some b)) ⊎ (seen_of o b ≡ unseen)
    go None = inr refl
    go (Some r) = inside r.cells.items

pub cells-all : (code : Code) (old new : List LaneRange) (lane k : ℕ) (x y : List PieceSpot) → length (cells_of old lane) ≤ k → SomeCells code old new lane k x y → Grew code old new x y × ((b n : ℕ) → n ≤ length (rows_seen old lane b).segments → Done new lane b n)
cells-all code old new lane k x y h so = (so.grew, λ b n w. go b n w (place-or-unseen old lane b))
  where
    go : (b n : ℕ) → n ≤ length (rows_seen old lane b).segments → ((p : ℕ) × (p < length (cells_of old lane)) × (slice_get (row_blocks old lane) p ≡ Some b)) ⊎ (rows_seen old lane b ≡ unseen) → Done new lane b n
    go b n w (inl z) = so.done z.0 b n (let q = z.1 in omega arith) z.2 w
    go b n w (inr e) = done-kept code old new x y lane b n so.grew (unseen-done old lane b n e w)

-- as far as the loop over the lanes has come
pub record SomeLanes (code : Code) (old new : List LaneRange) (k : ℕ) (x y : List PieceSpot) : Type 0 where
  pub grew : Grew code old new x y
  pub done : (l b n : ℕ) → l < k → n ≤ length (rows_seen old l b).segments → Done new l b n

pub lanes-more : (code : Code) (slots : Numbers) (flow : List BlockFlow) (old mid new : List LaneRange) (k : ℕ) (x y z : List PieceSpot) → IsTableOf code slots flow old → SomeLanes code old mid k x y → RaisesRow mid new k y z → SomeLanes code old new (k + 1) x z
lanes-more code slots flow old mid new k x y z t so r = record {
  grew = grew-trans code old mid new x y z so.grew step.0;
  done = λ l b n h w. go l b n w (lt-cases l k h);
}
  where
    step : Grew code mid new y z × ((b n : ℕ) → n ≤ length (rows_seen mid k b).segments → Done new k b n)
    step = r code slots flow (table-kept code slots flow old mid x y t so.grew)

    go : (l b n : ℕ) → n ≤ length (rows_seen old l b).segments → (l < k) ⊎ (l ≡ k) → Done new l b n
    go l b n w (inl h) = done-kept code mid new y z l b n step.0 (so.done l b n h w)
    go l b n w (inr f) = subst (λ i. Done new i b n) (sym f) (step.1 b n (let s = same-length code old mid x y l b so.grew in let u : length (rows_seen mid k b).segments ≡ length (rows_seen mid l b).segments = ap (λ i. length (rows_seen mid i b).segments) (sym f) in omega arith))

pub lanes-all : (code : Code) (old new : List LaneRange) (k : ℕ) (x y : List PieceSpot) → length old ≤ k → SomeLanes code old new k x y → Grew code old new x y × ((l b n : ℕ) → n ≤ length (rows_seen old l b).segments → Done new l b n)
lanes-all code old new k x y h so = (so.grew, λ l b n w. go l b n w (slice_get_cases old l).1)
  where
    go : (l b n : ℕ) → n ≤ length (rows_seen old l b).segments → ((r : LaneRange) × (l < length old) × (slice_get old l ≡ Some r) × (get_or old l r ≡ r)) ⊎ ((length old ≤ l) × (slice_get old l ≡ None)) → Done new l b n
    go l b n w (inl z) = so.done l b n (let q = z.1 in omega arith) w
    go l b n w (inr z) = done-kept code old new x y l b n so.grew (unseen-done old l b n (ap (λ o. seen_of o b) z.1) w)
