-- A computed table tells the segments of each lane.
use Rattle.std.proofs.Common.{◌≡◌, ◌≤◌, ℕ, zero, suc, ◌+◌, Bool, true, false, cond, not, List, [], ◌∷◌, ◌++◌, length, Option, None, Some, map, refl, sym, ap, ◌∙◌, arith}
use Rattle.std.specs.Prelude.{slice_get}
use Rattle.target_base.specs.declared.types.Target.{Target}
use Rattle.meaning.specs.declared.types.Lane.TheVariants.{VirtualLane}
use Rattle.meaning.specs.Live.{Among as Member}
use Rattle.mir_func.specs.declared.func.Block.{Block}
use Rattle.mir_func.specs.declared.func.Instr.{Instr}
use Rattle.mir_func.specs.Value.{Function}
use Rattle.mir_meaning.specs.Points.{Point, Start, Entry, Exit}
use Rattle.mir_meaning.specs.Rules.{V8}
use Rattle.mir_meaning.specs.Paths.{is_written}
use Rattle.instr_effects.specs.declared.owner.Owner.TheVariants as owners
use Rattle.instr_effects.specs.Numbered.{number_in}
use Rattle.live_laws.specs.Effects.Coded.{is_early, KeepsRules}
use Rattle.live_laws.proofs.Effects.Blocks.{slice-member}
use Rattle.live_laws.proofs.Exact.Inside.{all, numbered}
use Rattle.live_laws.proofs.Exact.Occupied.{occupied-law}
use Rattle.live_lanes.specs.declared.ask.extent.Extent.{Extent}
use Rattle.live_lanes.specs.declared.row.Cell.{Cell}
use Rattle.live_lanes.specs.declared.row.LaneRange.{LaneRange}
use Rattle.live_lanes.specs.declared.table.Table.{Table}
use Rattle.live_lanes.specs.Table.{Seen, seen, find_cell, descends, end_in, entry_rank, exit_rank}
use Rattle.live_lanes.specs.Entered.{rows_seen, cells_of, causes}
use Rattle.live_lanes.specs.Graph.{writes_in}
use Rattle.live_lanes.specs.Ends.{IsEnd}
use Rattle.live_lanes.specs.Ordered.{ids_of, AreRising}
use Rattle.live_lanes.specs.Extents.{cell_extents}
use Rattle.live_lanes.specs.Reach.{is_never, reaches}
use Rattle.live_lanes.specs.Doing.{lane_code, IsComputed}
use Rattle.point_laws.proofs.Covered.{seen-is}
use Rattle.point_laws.proofs.Pieces.{from_start, from_writing}
use Rattle.interval_laws.specs.Segments.{Segment, Facts, facts_of, at_border, last_live, points_until, block_segments, started_segments, written_segments, lane_segments}
use Rattle.interval_laws.specs.Told.{start_number, extent_segment, cell_segments, told_segments, number_live, told_live}
use Rattle.interval_laws.specs.Laws.{SegmentsLaw}
use Rattle.interval_laws.proofs.Cells.{of_pieces, of-cell, at_position, found-block, cells-blocks, in_block, blocks-upto}
use Rattle.interval_laws.proofs.Pieces.{written-all, started}
use Rattle.interval_laws.proofs.Written.{written-is, early-is, Agrees, agrees, same-points, same-written}
use Rattle.interval_laws.proofs.Live.{step, tests, steps-are, pieces-are, live-entry, live-exit, live-start}

-- cells stand from the last block to the first
in-order : (rows : List LaneRange) (l : ℕ) → descends (cells_of rows l) ≡ true
in-order rows l = go (slice_get rows l)
  where
    go : (o : Option LaneRange) → descends (elim o [ None ↦ [] | Some r ↦ r.cells.items ]) ≡ true
    go None = refl
    go (Some r) = r.sorted

module _ (t : Target) (f : Function) (x : Table) (computed : IsComputed t f x) (rules : KeepsRules t f) (last : (b : Block) (j : ℕ) (i : Instr) → Member b f.blocks → slice_get b.instrs j ≡ Some i → V8 t b j i ≡ true) (v k n : ℕ) (e : number_in x.lanes (owners.Range v k) ≡ Some n) where
  abbrev rows : List LaneRange
  rows = x.rows.rows.items

  abbrev cells : List Cell
  cells = cells_of rows n

  abbrev live : Point → Bool
  live = told_live x f.blocks v k

  abbrev facts : Facts
  facts = facts_of t f (VirtualLane v k) live

  abbrev starting : ℕ → ℕ
  starting p = start_number f.blocks p

  live-is : (p : Point) → live p ≡ number_live x f.blocks n p
  live-is p = ap (λ q. elim q [ None ↦ false | Some m ↦ number_live x f.blocks m p ]) e

  module _ (p : ℕ) (b : Block) (at : slice_get f.blocks p ≡ Some b) where
    abbrev start : ℕ
    start = starting p

    abbrev end : ℕ
    end = starting (suc p)

    abbrev writes : Instr → Bool
    writes i = is_written n (step t f x computed rules last i)

    abbrev early : Instr → Bool
    early i = is_early n (step t f x computed rules last i)

    abbrev here : Seen
    here = rows_seen rows n p

    alike : (i : Instr) → Member i b.instrs → (facts.writes b i ≡ writes i) × (facts.early b i ≡ early i)
    alike i m = (
      written-is t f (number_in x.lanes) rules (numbered t f x computed rules last) (VirtualLane v k) n refl e live b i (slice-member f.blocks p b at) m,
      early-is t f (number_in x.lanes) rules (numbered t f x computed rules last) (VirtualLane v k) n refl e live b i (slice-member f.blocks p b at) m,
    )

    abbrev made : Extent → Segment
    made = extent_segment x.order.slots start end b.instrs

    same : Agrees (facts.writes b) (facts.early b) writes early b.instrs
    same = agrees (facts.writes b) (facts.early b) writes early b.instrs b.instrs alike (λ i m. m)

    entering : (u : List Instr) (i : Instr) (w : List Instr) → b.instrs ≡ u ++ i ∷ w → live (Entry i.id) ≡ reaches x.order.slots (end_in here (writes_in n (map (step t f x computed rules last) u))) (entry_rank x.order.slots i.id)
    entering u i w g = live-is (Entry i.id) ∙ live-entry t f x computed rules last n p b at u i w g

    leaving : (u : List Instr) (i : Instr) (w : List Instr) → b.instrs ≡ u ++ i ∷ w → live (Exit i.id) ≡ reaches x.order.slots (end_in here (writes_in n (map (step t f x computed rules last) (u ++ i ∷ [])))) (exit_rank x.order.slots i.id)
    leaving u i w g = live-is (Exit i.id) ∙ live-exit t f x computed rules last n p b at u i w g

    ended : (m : ℕ) → IsEnd (lane_code t f (number_in x.lanes)) x.order.slots (causes rows) n p m (end_in here m)
    ended m = computed.ended (all t f x computed rules last) n p m

    rising : AreRising x.order.slots 0 (ids_of b.instrs)
    rising = (occupied-law t f x computed rules last).ranked p b at

    first-told : started_segments live (facts.writes b) start end b ≡ cond (is_never here.end) [] (made (from_start here.end) ∷ [])
    first-told =
        ap (λ u. cond u ((at_border start, last_live live (at_border end) (points_until (facts.writes b) end (start + 16) b.instrs)) ∷ []) []) (live-is (Start b.number) ∙ live-start t f x computed rules last n p b at)
        ∙ ap (λ ps. cond (not (is_never here.end)) ((at_border start, last_live live (at_border end) ps) ∷ []) []) (same-points live (facts.writes b) (facts.early b) writes early end (start + 16) b.instrs same)
        ∙ go (is_never here.end) refl
      where
        go : (u : Bool) → is_never here.end ≡ u → cond (not u) ((at_border start, last_live live (at_border end) (points_until writes end (start + 16) b.instrs)) ∷ []) [] ≡ cond u [] (made (from_start here.end) ∷ [])
        go true h = refl
        go false h = ap (λ s. s ∷ []) (sym (started n (step t f x computed rules last) (λ i. refl) (lane_code t f (number_in x.lanes)) x.order.slots (causes rows) p b.instrs (steps-are t f x computed rules last n p b at) rising here (pieces-are t f x computed rules last n p b at) ended live entering leaving start end h))

    rest-told : written_segments live (facts.writes b) (facts.early b) end (start + 16) b.instrs ≡ map (λ s. made (from_writing s)) here.segments
    rest-told =
        same-written live (facts.writes b) (facts.early b) writes early end (start + 16) b.instrs same
        ∙ sym (written-all n (step t f x computed rules last) (λ i. refl) (lane_code t f (number_in x.lanes)) x.order.slots (causes rows) p b.instrs (steps-are t f x computed rules last n p b at) rising here (pieces-are t f x computed rules last n p b at) ended live entering leaving start end)

    block-told : block_segments facts start end b ≡ of_pieces made here
    block-told = ap (λ ss. ss ++ written_segments live (facts.writes b) (facts.early b) end (start + 16) b.instrs) first-told ∙ ap (λ ss. cond (is_never here.end) [] (made (from_start here.end) ∷ []) ++ ss) rest-told

  -- what the cell of a block tells
  cell-told : (p : ℕ) (b : Block) → slice_get f.blocks p ≡ Some b → at_position x.order.slots f.blocks cells p ≡ of_pieces (extent_segment x.order.slots (starting p) (starting (suc p)) b.instrs) (rows_seen rows n p)
  cell-told p b at = go (find_cell p cells) refl (seen-is rows n p)
    where
      go : (o : Option Cell) → find_cell p cells ≡ o → seen o ≡ rows_seen rows n p → elim o [ None ↦ [] | Some c ↦ cell_segments x.order.slots f.blocks c ] ≡ of_pieces (extent_segment x.order.slots (starting p) (starting (suc p)) b.instrs) (rows_seen rows n p)
      go None g h = ap (of_pieces (extent_segment x.order.slots (starting p) (starting (suc p)) b.instrs)) h
      go (Some c) g h =
          ap (λ q. elim (slice_get f.blocks q) [ None ↦ [] | Some d ↦ map (extent_segment x.order.slots (starting q) (starting (suc q)) d.instrs) (cell_extents c) ]) (found-block p cells c g)
          ∙ ap (λ o. elim o [ None ↦ [] | Some d ↦ map (extent_segment x.order.slots (starting p) (starting (suc p)) d.instrs) (cell_extents c) ]) at
          ∙ of-cell (extent_segment x.order.slots (starting p) (starting (suc p)) b.instrs) c
          ∙ ap (of_pieces (extent_segment x.order.slots (starting p) (starting (suc p)) b.instrs)) h

  position-told : (p : ℕ) → in_block facts f.blocks 0 p ≡ at_position x.order.slots f.blocks cells p
  position-told p = go (slice_get f.blocks p) refl
    where
      outside : (o : Option Cell) → find_cell p cells ≡ o → slice_get f.blocks p ≡ None → ◌≡◌ {A = List Segment} [] (elim o [ None ↦ [] | Some c ↦ cell_segments x.order.slots f.blocks c ])
      outside None g h = refl
      outside (Some c) g h = sym (ap (λ o. elim o [ None ↦ [] | Some d ↦ map (extent_segment x.order.slots (starting c.block) (starting (suc c.block)) d.instrs) (cell_extents c) ]) (ap (slice_get f.blocks) (found-block p cells c g) ∙ h))

      go : (o : Option Block) → slice_get f.blocks p ≡ o → elim o [ None ↦ [] | Some b ↦ block_segments facts (0 + start_number f.blocks p) (0 + start_number f.blocks (suc p)) b ] ≡ at_position x.order.slots f.blocks cells p
      go None h = outside (find_cell p cells) refl h
      go (Some b) h =
          ap (λ m. block_segments facts m (0 + start_number f.blocks (suc p)) b) (let z : 0 + start_number f.blocks p ≡ start_number f.blocks p = omega arith in z)
          ∙ ap (λ m. block_segments facts (start_number f.blocks p) m b) (let z : 0 + start_number f.blocks (suc p) ≡ start_number f.blocks (suc p) = omega arith in z)
          ∙ block-told p b h
          ∙ sym (cell-told p b h)

  none-behind : (bs : List Block) (p : ℕ) → length bs ≤ p → slice_get bs p ≡ None
  none-behind [] p le = refl
  none-behind (b ∷ bs) zero le = absurd (omega (arith, le))
  none-behind (b ∷ bs) (suc p) le = none-behind bs p (omega (arith, le))

  segments : told_segments x f.blocks n ≡ lane_segments t f (VirtualLane v k) live
  segments =
      cells-blocks x.order.slots f.blocks (in_block facts f.blocks 0) cells (in-order rows n) position-told
      (λ p le. ap (λ o. elim o [ None ↦ [] | Some b ↦ block_segments facts (0 + start_number f.blocks p) (0 + start_number f.blocks (suc p)) b ]) (none-behind f.blocks p le))
      ∙ blocks-upto facts 0 f.blocks

pub segments-law : SegmentsLaw
segments-law t f x computed rules last = record {
  live = λ v k. tests t f x computed rules last v k;
  segments = λ v k n e. segments t f x computed rules last v k n e;
}
