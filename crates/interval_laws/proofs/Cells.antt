-- The extents of the cells of a lane, block by block.
use Rattle.std.proofs.Common.{◌≡◌, ◌<◌, ◌≤◌, ℕ, zero, suc, ◌+◌, ◌-◌, ◌*◌, Bool, true, false, cond, List, [], ◌∷◌, ◌++◌, length, map, Option, None, Some, refl, sym, ap, ◌∙◌, arith, append_assoc, append-nil}
use Rattle.std.specs.Prelude.{nat_eq, slice_get, option_map}
use Rattle.std.specs.List.{filter_map, cons_option}
use Rattle.std.proofs.lemmas.Bool.{ltb-true, eqb-true, ne_eqb, eq-eqb, lt-ltb}
use Rattle.mir_func.specs.declared.func.Block.{Block}
use Rattle.mir_meaning.specs.Registers.{numbers}
use Rattle.live_lanes.specs.declared.ask.extent.Extent.{Extent}
use Rattle.live_lanes.specs.declared.row.DefPiece.{DefPiece as Part}
use Rattle.live_lanes.specs.declared.row.Cell.{Cell}
use Rattle.live_lanes.specs.Table.{Numbers, Seen, seen_cell, begun, find_cell, is_below, descends}
use Rattle.live_lanes.specs.Reach.{is_never}
use Rattle.live_lanes.specs.Extents.{block_extent, segment_extent, extent_in, cell_extents}
use Rattle.live_lanes.proofs.Cells.{both-left, both-right}
use Rattle.point_laws.proofs.Pieces.{from_start, from_writing}
use Rattle.interval_laws.specs.Segments.{Segment, Facts, block_segments, behind, segments_from}
use Rattle.interval_laws.specs.Told.{start_number, cell_segments, cells_segments}

-- the extents of a cell are those of its pieces, in order

module _ (c : Cell) where
  there : (pre : List Part) (s : Part) (xs : List Part) → slice_get (pre ++ s ∷ xs) (length pre) ≡ Some s
  there [] s xs = refl
  there (y ∷ pre) s xs = there pre s xs

  length-more : (pre : List Part) (s : Part) → length (pre ++ s ∷ []) ≡ suc (length pre)
  length-more [] s = refl
  length-more (y ∷ pre) s = ap suc (length-more pre s)

  from-place : (pre xs : List Part) → c.segments.items ≡ pre ++ xs → filter_map (extent_in (Some c)) (numbers (suc (length pre)) (length xs)) ≡ map segment_extent xs
  from-place pre [] e = refl
  from-place pre (s ∷ xs) e =
      ap (λ o. cons_option (option_map segment_extent o) (filter_map (extent_in (Some c)) (numbers (suc (suc (length pre))) (length xs)))) (ap (λ ps. slice_get ps (length pre)) e ∙ there pre s xs)
      ∙ ap (λ es. segment_extent s ∷ es) (ap (λ n. filter_map (extent_in (Some c)) (numbers (suc n) (length xs))) (sym (length-more pre s)) ∙ from-place (pre ++ s ∷ []) xs (e ∙ sym (append_assoc pre (s ∷ []) xs)))

  all-extents : cell_extents c ≡ cons_option (block_extent c.first.end) (map segment_extent c.segments.items)
  all-extents =
      ap (λ n. filter_map (extent_in (Some c)) (numbers 0 n)) (let one : length c.segments.items + 1 ≡ suc (length c.segments.items) = omega arith in one)
      ∙ ap (cons_option (block_extent c.first.end)) (from-place [] c.segments.items refl)

module _ (g : Extent → Segment) where
  -- what is made of the pieces of a lane in a block
  abbrev pub of_pieces : Seen → List Segment
  of_pieces v = cond (is_never v.end) [] (g (from_start v.end) ∷ []) ++ map (λ s. g (from_writing s)) v.segments

  of-parts : (xs : List Part) → map g (map segment_extent xs) ≡ map (λ s. g (from_writing s)) (map begun xs)
  of-parts [] = refl
  of-parts (s ∷ xs) = ap (λ ys. g (segment_extent s) ∷ ys) (of-parts xs)

  pub of-cell : (c : Cell) → map g (cell_extents c) ≡ of_pieces (seen_cell c)
  of-cell c = ap (map g) (all-extents c) ∙ go (is_never c.first.end)
    where
      go : (b : Bool) → map g (cons_option (cond b None (Some (from_start c.first.end))) (map segment_extent c.segments.items)) ≡ cond b [] (g (from_start c.first.end) ∷ []) ++ map (λ s. g (from_writing s)) (map begun c.segments.items)
      go true = of-parts c.segments.items
      go false = ap (λ ys. g (from_start c.first.end) ∷ ys) (of-parts c.segments.items)

-- what is at positions one after the other

abbrev pub upto : {X : Type 0} → (ℕ → List X) → ℕ → List X
upto f zero = []
upto f (suc m) = upto f m ++ f m

pub upto-same : {X : Type 0} (f g : ℕ → List X) (m : ℕ) → ((p : ℕ) → p < m → f p ≡ g p) → upto f m ≡ upto g m
upto-same f g zero h = refl
upto-same f g (suc m) h = ap (λ xs. xs ++ f m) (upto-same f g m (λ p lt. h p (omega (arith, lt)))) ∙ ap (λ xs. upto g m ++ xs) (h m (omega arith))

upto-first : {X : Type 0} (f : ℕ → List X) (m : ℕ) → upto f (suc m) ≡ f 0 ++ upto (λ p. f (suc p)) m
upto-first f zero = sym (append-nil (f 0))
upto-first f (suc m) = ap (λ xs. xs ++ f (suc m)) (upto-first f m) ∙ append_assoc (f 0) (upto (λ p. f (suc p)) m) (f (suc m))

-- nothing more comes
pub upto-all : {X : Type 0} (f : ℕ → List X) (k n : ℕ) → ((p : ℕ) → k ≤ p → f p ≡ []) → upto f (n + k) ≡ upto f k
upto-all f k zero h = let z : 0 + k ≡ k = omega arith in ap (upto f) z
upto-all f k (suc n) h = let z : suc n + k ≡ suc (n + k) = omega arith in ap (upto f) z ∙ ap (λ xs. upto f (n + k) ++ xs) (h (n + k) (omega arith)) ∙ append-nil (upto f (n + k)) ∙ upto-all f k n h

none-to : {X : Type 0} (f : ℕ → List X) (m : ℕ) → ((p : ℕ) → f p ≡ []) → upto f m ≡ []
none-to f zero h = refl
none-to f (suc m) h = ap (λ xs. upto f m ++ xs) (h m) ∙ append-nil (upto f m) ∙ none-to f m h

-- the cells of a lane, which stand from the last block to the first

none-above : (m b : ℕ) (cs : List Cell) → is_below m cs ≡ true → descends cs ≡ true → m ≤ b → find_cell b cs ≡ None
none-above m b [] low d le = refl
none-above m b (c ∷ cs) low d le =
    let below = ltb-true c.block m low in
    ap (λ u. cond u (Some c) (find_cell b cs)) (ne_eqb c.block b (λ q. omega (arith, q, below, le)))
    ∙ none-above c.block b cs (both-left (is_below c.block cs) (descends cs) d) (both-right (is_below c.block cs) (descends cs) d) (omega (arith, below, le))

pub found-block : (p : ℕ) (cs : List Cell) (c : Cell) → find_cell p cs ≡ Some c → c.block ≡ p
found-block p [] c e = absurd (cc)
found-block p (d ∷ cs) c e = go (nat_eq d.block p) refl e (found-block p cs c)
  where
    go : (u : Bool) → nat_eq d.block p ≡ u → cond u (Some d) (find_cell p cs) ≡ Some c → (find_cell p cs ≡ Some c → c.block ≡ p) → c.block ≡ p
    go true f g ih = let same : d ≡ c = cc in ap (λ x. x.block) (sym same) ∙ eqb-true d.block p f
    go false f g ih = ih g

module _ (slots : Numbers) (bs : List Block) where
  abbrev pub at_position : List Cell → ℕ → List Segment
  at_position cs p = elim (find_cell p cs) [ None ↦ [] | Some c ↦ cell_segments slots bs c ]

  cells-upto : (m : ℕ) (cs : List Cell) → is_below m cs ≡ true → descends cs ≡ true → upto (at_position cs) m ≡ cells_segments slots bs cs
  cells-upto m [] low d = none-to (at_position []) m (λ p. refl)
  cells-upto m (c ∷ cs) low d =
      let lower = both-left (is_below c.block cs) (descends cs) d in
      let rest = both-right (is_below c.block cs) (descends cs) d in
      let below = ltb-true c.block m low in
      ap (upto (at_position (c ∷ cs))) (let same : m ≡ (m - suc c.block) + suc c.block = omega (arith, below) in same)
      ∙ upto-all (at_position (c ∷ cs)) (suc c.block) (m - suc c.block) (λ p le. ap (λ o. elim o [ None ↦ [] | Some x ↦ cell_segments slots bs x ]) (none-above (suc c.block) p (c ∷ cs) (lt-ltb c.block (suc c.block) (omega arith)) d le))
      ∙ ap (λ xs. xs ++ at_position (c ∷ cs) c.block) (upto-same (at_position (c ∷ cs)) (at_position cs) c.block (λ p lt. ap (λ u. elim (cond u (Some c) (find_cell p cs)) [ None ↦ [] | Some x ↦ cell_segments slots bs x ]) (ne_eqb c.block p (λ q. omega (arith, q, lt)))) ∙ cells-upto c.block cs lower rest)
      ∙ ap (λ u. cells_segments slots bs cs ++ elim (cond u (Some c) (find_cell c.block cs)) [ None ↦ [] | Some x ↦ cell_segments slots bs x ]) (eq-eqb c.block c.block refl)

  -- at the positions of a function's blocks stand all segments, where there are none at others
  pub cells-blocks : (f : ℕ → List Segment) (cs : List Cell) → descends cs ≡ true → ((p : ℕ) → f p ≡ at_position cs p) → ((p : ℕ) → length bs ≤ p → f p ≡ []) → cells_segments slots bs cs ≡ upto f (length bs)
  cells-blocks f cs d same none =
      sym (cells-upto (top-of cs + length bs) cs (below cs) d)
      ∙ upto-same (at_position cs) f (top-of cs + length bs) (λ p lt. sym (same p))
      ∙ upto-all f (length bs) (top-of cs) none
    where
      top-of : List Cell → ℕ
      top-of [] = 0
      top-of (c ∷ cs) = suc c.block

      below : (cs : List Cell) → is_below (top-of cs + length bs) cs ≡ true
      below [] = refl
      below (c ∷ cs) = lt-ltb c.block (suc c.block + length bs) (omega arith)

-- the segments of blocks by their positions

abbrev pub in_block : Facts → List Block → ℕ → ℕ → List Segment
in_block s bs n p = elim (slice_get bs p) [ None ↦ [] | Some b ↦ block_segments s (n + start_number bs p) (n + start_number bs (suc p)) b ]

pub blocks-upto : (s : Facts) (n : ℕ) (bs : List Block) → upto (in_block s bs n) (length bs) ≡ segments_from s n bs
blocks-upto s n [] = refl
blocks-upto s n (b ∷ bs) =
    upto-first (in_block s (b ∷ bs) n) (length bs)
    ∙ ap (λ xs. xs ++ upto (λ p. in_block s (b ∷ bs) n (suc p)) (length bs)) (ap (λ k. block_segments s k (n + start_number (b ∷ bs) 1) b) (omega arith) ∙ ap (λ k. block_segments s n k b) (first-end bs))
    ∙ ap (λ xs. block_segments s n (behind n b) b ++ xs) (upto-same (λ p. in_block s (b ∷ bs) n (suc p)) (in_block s bs (behind n b)) (length bs) (λ p lt. go p (slice_get bs p)) ∙ blocks-upto s (behind n b) bs)
  where
    first-end : (bs : List Block) → n + (16 * suc (length b.instrs) + start_number bs 0) ≡ behind n b
    first-end [] = omega arith
    first-end (d ∷ bs) = omega arith

    go : (p : ℕ) (o : Option Block) → ◌≡◌ {A = List Segment} (elim o [ None ↦ [] | Some d ↦ block_segments s (n + (16 * suc (length b.instrs) + start_number bs p)) (n + (16 * suc (length b.instrs) + start_number bs (suc p))) d ]) (elim o [ None ↦ [] | Some d ↦ block_segments s (behind n b + start_number bs p) (behind n b + start_number bs (suc p)) d ])
    go p None = refl
    go p (Some d) = ap (λ k. block_segments s k (n + (16 * suc (length b.instrs) + start_number bs (suc p))) d) (omega arith) ∙ ap (λ k. block_segments s (behind n b + start_number bs p) k d) (omega arith)
