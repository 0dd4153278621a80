-- What is told of the pieces of lanes in a computed table.
use Rattle.std.proofs.Common.{◌≡◌, ◌<◌, ◌⊎◌, inl, inr, ℕ, true, false, List, [], Option, None, Some, map, refl, sym, ap, ◌∙◌, subst, arith}
use Rattle.std.specs.Prelude.{slice_get}
use Rattle.std.proofs.lemmas.Bool.{leb-false}
use Rattle.target_base.specs.declared.types.Target.{Target}
use Rattle.meaning.specs.Live.{Among as Member}
use Rattle.mir_func.specs.declared.func.Block.{Block}
use Rattle.mir_func.specs.declared.func.Instr.{Instr}
use Rattle.mir_func.specs.Value.{Function}
use Rattle.mir_meaning.specs.Rules.{V8}
use Rattle.instr_effects.specs.Numbered.{number_in}
use Rattle.instr_effects.specs.Steps.{Numbering}
use Rattle.live_laws.specs.Effects.Coded.{KeepsRules}
use Rattle.live_lanes.specs.declared.row.PieceEnd.{PieceEnd}
use Rattle.live_lanes.specs.declared.row.PieceEnd.TheVariants as ends
use Rattle.live_lanes.specs.declared.row.LaneRange.{LaneRange}
use Rattle.live_lanes.specs.declared.table.Table.{Table}
use Rattle.mir_meaning.specs.Paths.{Code, has, steps_of, last_of}
use Rattle.live_lanes.specs.Graph.{is_live, IsGrown}
use Rattle.live_lanes.specs.Table.{Numbers, Begun, Seen, entry_rank, exit_rank, end_rank, end_in, is_begun, piece_at, descends}
use Rattle.live_lanes.specs.Entered.{start_of, starts, rows_seen, cells_of, causes, IsTableOf}
use Rattle.live_lanes.specs.Ordered.{place_of, ids_of}
use Rattle.live_lanes.specs.Ends.{Counts, reads, moves, leaves, goes, phi, AreEnds}
use Rattle.live_lanes.specs.Doing.{doing_of, lane_code, IsComputed}
use Rattle.live_lanes.proofs.Numbered.{entry-piece, exit-piece, last-piece}
use Rattle.live_laws.proofs.Exact.Inside.{all}
use Rattle.live_laws.proofs.Touch.Stepped.{steps-there}
use Rattle.split_choose.specs.Seen.{begins_here, ends_in_turn, reads_here}
use Rattle.alloc_laws.specs.Offers.{PiecesFoundLaw}
use Rattle.alloc_laws.proofs.Offers.Begun.{AreOf, of-own, begins as begins-by, reads as reads-by}
use Rattle.alloc_laws.proofs.Offers.Turns.{leading-ends, in-turn}

-- cells stand from the last block to the first
in-order : (rows : List LaneRange) (l : ℕ) → descends (cells_of rows l) ≡ true
in-order rows l = go (slice_get rows l)
  where
    go : (o : Option LaneRange) → descends (elim o [ None ↦ [] | Some r ↦ r.cells.items ]) ≡ true
    go None = refl
    go (Some r) = r.sorted

module _ (t : Target) (f : Function) (x : Table) (computed : IsComputed t f x) (rules : KeepsRules t f) (last : (b : Block) (j : ℕ) (i : Instr) → Member b f.blocks → slice_get b.instrs j ≡ Some i → V8 t b j i ≡ true) where
  abbrev num : Numbering
  num = number_in x.lanes

  abbrev code : Code
  code = lane_code t f num

  abbrev slots : Numbers
  slots = x.order.slots

  abbrev rows : List LaneRange
  rows = x.rows.rows.items

  table : IsTableOf code slots x.flow.items rows
  table = computed.table (all t f x computed rules last)

  grown : IsGrown code (causes rows)
  grown = computed.grown (all t f x computed rules last)

  ended : AreEnds code slots rows
  ended = computed.ended (all t f x computed rules last)

  module _ (l k : ℕ) where
    abbrev v : Seen
    v = rows_seen rows l k

    -- each piece is over before the next one begins

    are : map start_of v.segments ≡ starts l (steps_of code k)
    are = ap (λ h. h.segments) (table.entered l k)

    over : (n : ℕ) (e : PieceEnd) → (e ≡ ends.Never) ⊎ Counts code (causes rows) l k n e → (s : Begun) → slice_get v.segments n ≡ Some s → end_rank slots e < exit_rank slots s.start
    over n e (inl never) s there = let z = ap (end_rank slots) never in omega (arith, z)
    over n e (inr counts) s there = go e counts
      where
        behind : (at : ℕ) → piece_at slots at v.segments ≡ n → at < exit_rank slots s.start
        behind at piece = leb-false (exit_rank slots s.start) at (leading-ends (is_begun slots at) v.segments s (ap (slice_get v.segments) piece ∙ there))

        go : (e : PieceEnd) → Counts code (causes rows) l k n e → end_rank slots e < exit_rank slots s.start
        go e (reads before step rest split piece used) = behind (entry_rank slots step.id) (entry-piece code slots table.numbered l k v.segments are before step rest split ∙ piece)
        go e (moves a before step rest split piece used live) = behind (entry_rank slots step.id) (entry-piece code slots table.numbered l k v.segments are before step rest split ∙ piece)
        go e (leaves y before step rest split piece out a live) = behind (exit_rank slots step.id) (exit-piece code slots table.numbered l k v.segments are before step rest split ∙ piece)
        go e (goes y piece a live) = behind 340282366920938463463374607431768211455 (last-piece code slots table.numbered l k v.segments are ∙ piece)
        go e (phi piece a) = behind 340282366920938463463374607431768211455 (last-piece code slots table.numbered l k v.segments are ∙ piece)

    turn : ends_in_turn slots v ≡ true
    turn = in-turn slots v (λ n s there. over n (end_in v n) (ended l k n).counts s there)

    -- a piece in which a point counts is live

    counted : (n : ℕ) (e : PieceEnd) → Counts code (causes rows) l k n e → is_live (causes rows l k n) ≡ true
    counted n e (reads before s rest split piece used) = subst (λ m. is_live (causes rows l k m) ≡ true) piece (grown.closed.reading k l before s rest split used)
    counted n e (moves a before s rest split piece used live) = subst (λ m. is_live (causes rows l k m) ≡ true) piece (grown.closed.move k l a before s rest split used live)
    counted n e (leaves y before s rest split piece out a live) = subst (λ m. is_live (causes rows l k m) ≡ true) piece (grown.closed.exit k l y before s rest split out a live)
    counted n e (goes y piece a live) = subst (λ m. is_live (causes rows l k m) ≡ true) piece (grown.closed.end k l y a live)
    counted n e (phi piece a) = subst (λ m. is_live (causes rows l k m) ≡ true) piece (grown.closed.phi k l a)

    dead : is_live (causes rows l k 0) ≡ false → v.end ≡ ends.Never
    dead h = go (ended l k 0).counts
      where
        go : (v.end ≡ ends.Never) ⊎ Counts code (causes rows) l k 0 v.end → v.end ≡ ends.Never
        go (inl e) = e
        go (inr c) = absurd (let z : true ≡ false = sym (counted 0 v.end c) ∙ h in cc)

    -- instructions of the block

    module _ (b : Block) (at : slice_get f.blocks k ≡ Some b) where
      own : AreOf (ids_of b.instrs) (steps_of code k)
      own = subst (AreOf (ids_of b.instrs)) (sym (steps-there (doing_of t f num) (λ m. place_of m f.blocks) f.blocks 0 f.blocks k b at)) (of-own (λ (i : Instr). (doing_of t f num i).0) (λ i. i.id) (λ i. refl) b.instrs)

      begins : begins_here b.instrs v ≡ true
      begins = begins-by (ids_of b.instrs) l (steps_of code k) own v (has l (last_of code k)) (table.entered l k)

      is-read : reads_here b.instrs v ≡ true
      is-read = reads-by (ids_of b.instrs) l (steps_of code k) own v (has l (last_of code k)) (table.entered l k)

pub pieces-found : PiecesFoundLaw
pieces-found t f x computed rules last = record {
  begun = λ l k b at. begins t f x computed rules last l k b at;
  turns = λ l k. turn t f x computed rules last l k;
  apart = λ l. in-order x.rows.rows.items l;
  read = λ l k b at. is-read t f x computed rules last l k b at;
  dead = λ l k h. dead t f x computed rules last l k h;
}
