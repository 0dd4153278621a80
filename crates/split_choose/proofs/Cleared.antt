-- A register is clear for a range along stretches of a block just where it clashes with nothing at points of the block.
use Rattle.std.proofs.Common.{◌≡◌, ◌∙◌, ◌⊎◌, inl, inr, ℕ, zero, suc, ◌+◌, ◌-◌, ◌*◌, ◌<◌, ◌≤◌, Bool, true, false, cond, List, [], ◌∷◌, ◌++◌, refl, sym, ap, subst, arith, eq-eqb, length, map, Option, None, Some}
use Rattle.std.specs.Prelude.{nat_le, nat_eq, filter, flat_map, slice_get, slice_index, not, ◌&&◌, ◌||◌}
use Rattle.std.specs.List.{list_all, list_any}
use Rattle.std.proofs.lemmas.Bool.{false≢true, true≢false, and_parts, or_left, or_right, or_from, or_parts, or_cases}
use Rattle.target_base.specs.declared.types.Unit.{Unit as UnitNumber}
use Rattle.target_base.specs.declared.types.Reg.{Reg}
use Rattle.target_base.specs.Registers.{units_of}
use Rattle.meaning.specs.Live.{Among, here, there}
use Rattle.mir_func.specs.declared.func.Instr.{Instr}
use Rattle.mir_func.specs.declared.func.Block.{Block}
use Rattle.mir_func.specs.Value.{Function}
use Rattle.mir_meaning.specs.Points.{Point, Start, Entry, Exit, block_points, touches}
use Rattle.live_lanes.specs.declared.ask.extent.Stretch.{Stretch}
use Rattle.live_lanes.specs.declared.row.Cell.{Cell}
use Rattle.live_lanes.specs.declared.row.LaneRange.{LaneRange}
use Rattle.live_lanes.specs.declared.row.DefPiece.{DefPiece}
use Rattle.live_lanes.specs.declared.row.PieceEnd.{PieceEnd}
use Rattle.live_lanes.specs.declared.row.PieceEnd.TheVariants as ends
use Rattle.live_lanes.specs.declared.table.Table.{Table}
use Rattle.mir_meaning.specs.Paths.{has}
use Rattle.live_lanes.specs.Graph.{is_live}
use Rattle.live_lanes.specs.Table.{Numbers, Seen, seen_cell, unseen, begun, find_cell, end_in, piece_at}
use Rattle.live_lanes.specs.Entered.{rows_seen, cells_of, causes}
use Rattle.live_lanes.specs.Ordered.{ids_of}
use Rattle.live_lanes.specs.Held.{held_at, writes_at}
use Rattle.live_lanes.specs.Reach.{reaches, seen_at}
use Rattle.live_lanes.specs.Extents.{is_met_in}
use Rattle.live_lanes.specs.Touching.{some_lane, names_range, names_lane, names_cell, names_segment, reads_in, AreTouched}
use Rattle.live_lanes.specs.Tells.{touching_ids}
use Rattle.interference.specs.declared.matrix.Matrix.{Matrix}
use Rattle.interference.specs.Clashes.{is_held}
use Rattle.split_choose.specs.declared.spans.Span.{Span}
use Rattle.split_choose.specs.Offers.{Border, In, Out, live_at, borders, clashes_not, is_clear}
use Rattle.split_choose.specs.Seen.{rank_of, only, view_of, begins_here, seen_live, at_home, FindsPlaces, FindsPoints}
use Rattle.split_choose.specs.Spans.{AreStretches, AreSpans, is_clear_in}
use Rattle.split_choose.specs.Spanned.{is_covered, is_rank_in, begins_at_point, is_cell, is_in_block, IsSpan, HasSpan, AreSpansOf}
use Rattle.split_choose.specs.Clearing.{cut, points_between, is_part_clear, is_clear_between}
use Rattle.split_choose.proofs.Covers.{among-cases, only-held}
use Rattle.split_choose.proofs.Spread.{among-place, place-among, has-cases}
use Rattle.split_choose.proofs.Neighbours.{has-among}
use Rattle.split_choose.proofs.Clearing.{all-of, all-among, some-among, some-of, among-filter, clear-cut, clear-all, rank-point}
use Rattle.split_choose.proofs.Pointed.{OneOf, lane-one, lane-same, cell-or-not, cell-among, held-wider, held-meets, lane_at, clashes-is, all-clear}

module _ (m : Matrix) (v : ℕ) (finds : FindsPoints m) (places : FindsPlaces m.live.target m.live.func m.live.table v) (parents : List ℕ) (q : Reg) where
  abbrev slots : Numbers
  slots = m.live.table.order.slots

  abbrev rows : List LaneRange
  rows = m.live.table.rows.rows.items

  abbrev units : List UnitNumber
  units = units_of m.live.target q

  abbrev clashes : Point → Bool
  clashes = clashes_not m.live.target m.live.func v (view_of m v parents) q

  -- in the block of a span

  module _ (freqs : List ℕ) (s : Span) (is : IsSpan m v freqs s) where
    abbrev held : UnitNumber → Stretch → Bool
    held u at = is_held m u.0 v s.position at

    abbrev InBlock : ℕ → Type 0
    InBlock r = is_rank_in slots is.block.instrs r ≡ true

    starts-in : (at : Stretch) → Among at s.stretches.items → InBlock at.first
    starts-in at n = all-among (begins_at_point slots is.block.instrs) s.stretches.items at is.begun n

    tests : (p : Point) → Among p (block_points is.block) → clashes p ≡ (not (is_covered s.stretches.items (rank_of slots p)) || list_all (λ (u : UnitNumber). not (held u (only (rank_of slots p)))) units)
    tests p n =
        clashes-is m v s.position is.block is.found finds places parents q p (is_covered s.stretches.items (rank_of slots p)) n
        (lane-same m.live.table v (λ l. held_at slots (rows_seen rows l s.position) (rank_of slots p)) (λ l. is_met_in slots (rows_seen rows l s.position) (only (rank_of slots p))) (λ l. sym (only-held slots (rows_seen rows l s.position) (rank_of slots p)))
        ∙ sym (is.covered (rank_of slots p)))

    -- between two ranks, the first of which is one of the block
    pub clear-between : (low high : ℕ) → InBlock low → is_clear_between m v q s.position s.stretches.items low high ≡ list_all clashes (points_between slots low high is.block)
    clear-between low high first =
        clear-cut held units InBlock (held-wider m v s.position is.block is.found finds) (held-meets m v s.position is.block is.found finds)
        Point (rank_of slots) (block_points is.block) (rank-point slots is.block) s.stretches.items low high clashes first starts-in tests

    -- everywhere
    pub clear-in : AreStretches s.stretches.items → is_clear_in m v q s ≡ is_clear m.live.target m.live.func v (view_of m v parents) q is.block
    clear-in full =
        clear-all held units InBlock (held-wider m v s.position is.block is.found finds) (held-meets m v s.position is.block is.found finds)
        Point (rank_of slots) (block_points is.block) (rank-point slots is.block) s.stretches.items clashes full starts-in tests

  -- in a block without one

  none-there : (k : ℕ) → is_in_block m.live.table v k ≡ false → (r : ℕ) → some_lane m.live.table v (λ l. held_at slots (rows_seen rows l k) r) ≡ false
  none-there k none r = go (some_lane m.live.table v (λ l. held_at slots (rows_seen rows l k) r)) refl
    where
      at_lane : (l : ℕ) → ((f : ℕ → Bool) → f l ≡ true → some_lane m.live.table v f ≡ true) → held_at slots (rows_seen rows l k) r ≡ true
          → ((c : Cell) × (rows_seen rows l k ≡ seen_cell c) × (find_cell k (cells_of rows l) ≡ Some c)) ⊎ (rows_seen rows l k ≡ unseen) → ⊥
      at_lane l every h (inl (c, e, f)) = true≢false (sym (every (λ l. is_cell (find_cell k (cells_of rows l))) (ap is_cell f)) ∙ none)
      at_lane l every h (inr e) = true≢false (sym h ∙ ap (λ w. held_at slots w r) e)

      go : (b : Bool) → some_lane m.live.table v (λ l. held_at slots (rows_seen rows l k) r) ≡ b → some_lane m.live.table v (λ l. held_at slots (rows_seen rows l k) r) ≡ false
      go false e = e
      go true e = let o = lane-one m.live.table v (λ l. held_at slots (rows_seen rows l k) r) e in absurd (at_lane o.lane o.every o.passes (cell-or-not rows o.lane k))

  pub clear-without : (k : ℕ) (b : Block) → slice_get m.live.func.blocks k ≡ Some b → is_in_block m.live.table v k ≡ false → is_clear m.live.target m.live.func v (view_of m v parents) q b ≡ true
  clear-without k b at none = all-clear m v k b at finds places parents q (none-there k none) (block_points b) (λ p n. n)

  pub between-without : (k : ℕ) (b : Block) (low high : ℕ) → slice_get m.live.func.blocks k ≡ Some b → is_in_block m.live.table v k ≡ false → list_all clashes (points_between slots low high b) ≡ true
  between-without k b low high at none =
      all-clear m v k b at finds places parents q (none-there k none) (points_between slots low high b)
      (λ p n. (among-filter (λ x. nat_le low (rank_of slots x) && nat_le (rank_of slots x) high) (block_points b) p n).0)

  -- in a block that the range is neither touched in nor live at the start of

  module _ (named : AreTouched m.live.table v (touching_ids m.live.func v)) (k : ℕ) (b : Block) (at : slice_get m.live.func.blocks k ≡ Some b) (untouched : list_any (touches v) b.instrs ≡ false) where
    -- an instruction that touches the range
    toucher : (is : List Instr) (id : ℕ) → has id (map (λ i. i.id) (filter (touches v) is)) ≡ true → (i : Instr) × Among i is × (touches v i ≡ true) × (i.id ≡ id)
    toucher [] id h = absurd (false≢true h)
    toucher (i ∷ is) id h = go (touches v i) refl (toucher is id)
      where
        later : ((j : Instr) × Among j is × (touches v j ≡ true) × (j.id ≡ id)) → (j : Instr) × Among j (i ∷ is) × (touches v j ≡ true) × (j.id ≡ id)
        later r = (r.0, there r.1, r.2, r.3)

        first : touches v i ≡ true → (i.id ≡ id) ⊎ (has id (map (λ j. j.id) (filter (touches v) is)) ≡ true) → (has id (map (λ j. j.id) (filter (touches v) is)) ≡ true → (j : Instr) × Among j is × (touches v j ≡ true) × (j.id ≡ id)) → (j : Instr) × Among j (i ∷ is) × (touches v j ≡ true) × (j.id ≡ id)
        first t (inl e) ih = (i, here, t, e)
        first t (inr g) ih = later (ih g)

        go : (c : Bool) → touches v i ≡ c → (has id (map (λ j. j.id) (filter (touches v) is)) ≡ true → (j : Instr) × Among j is × (touches v j ≡ true) × (j.id ≡ id)) → (j : Instr) × Among j (i ∷ is) × (touches v j ≡ true) × (j.id ≡ id)
        go true t ih = first t (has-cases id i.id (map (λ (j : Instr). j.id) (filter (touches v) is)) (sym (ap (λ c. has id (map (λ (j : Instr). j.id) (cond c (i ∷ filter (touches v) is) (filter (touches v) is)))) t) ∙ h)) ih
        go false t ih = later (ih (sym (ap (λ c. has id (map (λ (j : Instr). j.id) (cond c (i ∷ filter (touches v) is) (filter (touches v) is)))) t) ∙ h))

    in-blocks : (bs : List Block) (i : Instr) → Among i (flat_map (λ c. c.instrs) bs) → (c : Block) × Among c bs × Among i c.instrs
    in-blocks [] i n = elim n [ ]
    in-blocks (c ∷ bs) i n = go (parts c.instrs n) (in-blocks bs i)
      where
        parts : (is : List Instr) → Among i (is ++ flat_map (λ (d : Block). d.instrs) bs) → Among i is ⊎ Among i (flat_map (λ (d : Block). d.instrs) bs)
        parts [] x = inr x
        parts (j ∷ is) x = by_place (among-cases i j (is ++ flat_map (λ (d : Block). d.instrs) bs) x) (parts is)
          where
            more : Among i is ⊎ Among i (flat_map (λ (d : Block). d.instrs) bs) → Among i (j ∷ is) ⊎ Among i (flat_map (λ (d : Block). d.instrs) bs)
            more (inl y) = inl (there y)
            more (inr y) = inr y

            by_place : (i ≡ j) ⊎ Among i (is ++ flat_map (λ (d : Block). d.instrs) bs) → (Among i (is ++ flat_map (λ (d : Block). d.instrs) bs) → Among i is ⊎ Among i (flat_map (λ (d : Block). d.instrs) bs)) → Among i (j ∷ is) ⊎ Among i (flat_map (λ (d : Block). d.instrs) bs)
            by_place (inl e) ih = let P : Instr → Type 0 = λ y. Among i (y ∷ is) in inl (subst P e here)
            by_place (inr y) ih = more (ih y)

        later : ((d : Block) × Among d bs × Among i d.instrs) → (d : Block) × Among d (c ∷ bs) × Among i d.instrs
        later r = (r.0, there r.1, r.2)

        go : Among i c.instrs ⊎ Among i (flat_map (λ (d : Block). d.instrs) bs) → (Among i (flat_map (λ (d : Block). d.instrs) bs) → (d : Block) × Among d bs × Among i d.instrs) → (d : Block) × Among d (c ∷ bs) × Among i d.instrs
        go (inl x) ih = (c, here, x)
        go (inr x) ih = later (ih x)

    -- none of the block's instructions is named
    not-named : (id : ℕ) → has id (ids_of b.instrs) ≡ true → names_range m.live.table v id ≡ true → ⊥
    not-named id mine h = by_instr (toucher (flat_map (λ (c : Block). c.instrs) m.live.func.blocks) id (named.named id ∙ h))
      where
        by_place : (i : Instr) → touches v i ≡ true → i.id ≡ id → (c : Block) → Among i c.instrs → ((j : ℕ) × (slice_get m.live.func.blocks j ≡ Some c) × (j < length m.live.func.blocks)) → ⊥
        by_place i t e c n (j, g, lt) =
            let own : slice_index m.live.table.order.block_of.items id ≡ k = places.instrs.homes k b id at mine in
            let has_it : has id (ids_of c.instrs) ≡ true = ap (λ x. has x (ids_of c.instrs)) (sym e) ∙ has-among i c.instrs n in
            let other : slice_index m.live.table.order.block_of.items id ≡ j = places.instrs.homes j c id g has_it in
            let same : j ≡ k = sym other ∙ own in
            let both : Some c ≡ Some b = sym g ∙ (ap (slice_get m.live.func.blocks) same ∙ at) in
            let block : c ≡ b = cc in
            let there_too : Among i b.instrs = (let P : Block → Type 0 = λ x. Among i x.instrs in subst P block n) in
            true≢false (sym (some-of (touches v) b.instrs i there_too t) ∙ untouched)

        by_block : (i : Instr) → touches v i ≡ true → i.id ≡ id → ((c : Block) × Among c m.live.func.blocks × Among i c.instrs) → ⊥
        by_block i t e (c, n, x) = by_place i t e c x (among-place c m.live.func.blocks n)

        by_instr : ((i : Instr) × Among i (flat_map (λ (c : Block). c.instrs) m.live.func.blocks) × (touches v i ≡ true) × (i.id ≡ id)) → ⊥
        by_instr (i, n, t, e) = by_block i t e (in-blocks m.live.func.blocks i n)

    -- a lane that has a point in the block is live at its start
    lane-live : (l r : ℕ) → ((f : ℕ → Bool) → f l ≡ true → some_lane m.live.table v f ≡ true) → held_at slots (rows_seen rows l k) r ≡ true → is_live (causes rows l k 0) ≡ true
    lane-live l r every h = go (cell-or-not rows l k)
      where
        -- it has no piece that begins with a writing
        alone : (c : Cell) (ps : List DefPiece) → c.segments.items ≡ ps → rows_seen rows l k ≡ seen_cell c → find_cell k (cells_of rows l) ≡ Some c → is_live (causes rows l k 0) ≡ true
        alone c [] none e f = by_cause (is_live (causes rows l k 0)) refl
          where
            unheld : (w : Seen) → w.segments ≡ [] → w.end ≡ ends.Never → held_at slots w r ≡ false
            unheld w g d = ap (λ ss. reaches slots (end_in w (piece_at slots r ss)) r || list_any (writes_at slots r) ss) g ∙ ap (λ u. reaches slots u r || false) d

            by_cause : (u : Bool) → is_live (causes rows l k 0) ≡ u → is_live (causes rows l k 0) ≡ true
            by_cause true d = d
            by_cause false d = absurd (true≢false (sym h ∙ unheld (rows_seen rows l k) (ap (λ (w : Seen). w.segments) e ∙ ap (map begun) none) (finds.dead l k d)))
        alone c (s ∷ ps) some e f = absurd (not-named s.start start (every (names_lane s.start rows) (some-of (names_cell s.start) (cells_of rows l) c (cell-among k (cells_of rows l) c f) named_in)))
          where
            named_in : names_cell s.start c ≡ true
            named_in =
                or_right (reads_in s.start c.first.readings.items) (list_any (names_segment s.start) c.segments.items)
                (ap (list_any (names_segment s.start)) some ∙ or_left (names_segment s.start s) (list_any (names_segment s.start) ps) (or_left (nat_eq s.start s.start) (reads_in s.start s.piece.readings.items) (eq-eqb s.start s.start refl)))

            start : has s.start (ids_of b.instrs) ≡ true
            start = (and_parts (has s.start (ids_of b.instrs)) (list_all (λ p. has p.start (ids_of b.instrs)) (map begun ps))
                (sym (ap (λ xs. list_all (λ p. has p.start (ids_of b.instrs)) (map begun xs)) some) ∙ (ap (begins_here b.instrs) (sym e) ∙ finds.begun l k b at))).0

        go : ((c : Cell) × (rows_seen rows l k ≡ seen_cell c) × (find_cell k (cells_of rows l) ≡ Some c)) ⊎ (rows_seen rows l k ≡ unseen) → is_live (causes rows l k 0) ≡ true
        go (inl (c, e, f)) = alone c c.segments.items refl e f
        go (inr e) = absurd (true≢false (sym h ∙ ap (λ w. held_at slots w r) e))

    none-passed : some_lane m.live.table v (λ l. is_live (causes rows l k 0)) ≡ false → (r : ℕ) → some_lane m.live.table v (λ l. held_at slots (rows_seen rows l k) r) ≡ false
    none-passed dead r = go (some_lane m.live.table v (λ l. held_at slots (rows_seen rows l k) r)) refl
      where
        go : (u : Bool) → some_lane m.live.table v (λ l. held_at slots (rows_seen rows l k) r) ≡ u → some_lane m.live.table v (λ l. held_at slots (rows_seen rows l k) r) ≡ false
        go false e = e
        go true e =
            let o = lane-one m.live.table v (λ l. held_at slots (rows_seen rows l k) r) e in
            absurd (true≢false (sym (o.every (λ l. is_live (causes rows l k 0)) (lane-live o.lane r o.every o.passes)) ∙ dead))

    border-in : (bs : List Block) → Among b bs → Among (In b.number) (flat_map (λ c. In c.number ∷ Out c.number ∷ []) bs)
    border-in [] n = elim n [ ]
    border-in (c ∷ bs) n = go (among-cases b c bs n) (border-in bs)
      where
        go : (b ≡ c) ⊎ Among b bs → (Among b bs → Among (In b.number) (flat_map (λ (d : Block). In d.number ∷ Out d.number ∷ []) bs)) → Among (In b.number) (flat_map (λ (d : Block). In d.number ∷ Out d.number ∷ []) (c ∷ bs))
        go (inl e) ih = let P : Block → Type 0 = λ y. Among (In b.number) (flat_map (λ (d : Block). In d.number ∷ Out d.number ∷ []) (y ∷ bs)) in subst P e here
        go (inr x) ih = there (there (ih x))

    -- where it is live at no border, none of the block's points clashes
    pub clear-passed : list_any (live_at m.live.target m.live.func v (view_of m v parents)) (borders m.live.target m.live.func v (view_of m v parents)) ≡ false → list_all clashes (block_points b) ≡ true
    clear-passed unbordered = all-clear m v k b at finds places parents q (none-passed (start (some_lane m.live.table v (λ l. is_live (causes rows l k 0))) refl)) (block_points b) (λ p n. n)
      where
        there_is : live_at m.live.target m.live.func v (view_of m v parents) (In b.number) ≡ some_lane m.live.table v (λ l. is_live (causes rows l k 0))
        there_is = ap (at_home (λ j. some_lane m.live.table v (λ l. is_live (causes rows l j 0)))) (places.placed k b at)

        start : (u : Bool) → some_lane m.live.table v (λ l. is_live (causes rows l k 0)) ≡ u → some_lane m.live.table v (λ l. is_live (causes rows l k 0)) ≡ false
        start false e = e
        start true e =
            absurd (true≢false (sym (some-of (live_at m.live.target m.live.func v (view_of m v parents)) (borders m.live.target m.live.func v (view_of m v parents)) (In b.number) (border-in m.live.func.blocks (place-among b m.live.func.blocks k at)) (there_is ∙ e)) ∙ unbordered))
