-- A matrix whose lists are kept is exact, and extents come one behind the other.
use Rattle.std.proofs.Common.{◌≡◌, ◌≤◌, ◌<◌, ◌+◌, ◌*◌, ◌⊎◌, ℕ, zero, suc, Bool, true, false, cond, List, [], ◌∷◌, Option, None, Some, map, max, length, inl, inr, refl, sym, ap, ◌∙◌, subst, arith, eqb-true, eq-eqb}
use Rattle.std.specs.Prelude.{nat_eq, nat_le, nat_lt, slice_get}
use Rattle.std.specs.List.{cons_option}
use Rattle.std.proofs.lemmas.Bool.{leb-true, ltb-true}
use Rattle.std.proofs.lemmas.Option.{slice_get_within}
use Rattle.target_base.specs.declared.types.Reg.{Reg}
use Rattle.target_base.specs.declared.types.Target.{Target}
use Rattle.target_base.specs.declared.types.Unit.{Unit as UnitNumber}
use Rattle.target_base.specs.Registers.{units_of}
use Rattle.meaning.specs.Live.{Among as Member, here as first, there as later}
use Rattle.mir_func.specs.declared.func.Block.{Block}
use Rattle.mir_func.specs.declared.func.Instr.{Instr}
use Rattle.mir_meaning.specs.Rules.{V8}
use Rattle.live_laws.specs.Effects.Coded.{KeepsRules}
use Rattle.slot_index.specs.Order.{number_of}
use Rattle.instr_effects.specs.declared.owner.Owner.TheVariants as owners
use Rattle.instr_effects.specs.Numbered.{number_in}
use Rattle.instr_effects.proofs.Members.{member-none, member-elim, in-either, left-in, right-in}
use Rattle.live_lanes.specs.declared.ask.extent.Extent.{Extent}
use Rattle.live_lanes.specs.declared.row.Cell.{Cell}
use Rattle.live_lanes.specs.declared.row.DefPiece.{DefPiece}
use Rattle.live_lanes.specs.declared.row.LaneRange.{LaneRange}
use Rattle.live_lanes.specs.declared.row.PieceEnd.{PieceEnd}
use Rattle.live_lanes.specs.declared.table.Table.{Table}
use Rattle.live_lanes.specs.Table.{Numbers, Seen, begun, find_cell, seen, seen_cell, seen_in, unseen, entry_rank, exit_rank, end_rank, rises_from}
use Rattle.live_lanes.specs.Extents.{some_extents, segment_extent, last_rank}
use Rattle.live_lanes.specs.Held.{hold_rank}
use Rattle.live_lanes.specs.Doing.{IsComputed}
use Rattle.live_lanes.specs.Looks.{InOrder}
use Rattle.live_lanes.specs.Reach.{is_never}
use Rattle.live_lanes.proofs.Cells.{both-left, both-right}
use Rattle.interference.specs.declared.held.RangeExtent.{RangeExtent}
use Rattle.interference.specs.declared.matrix.Matrix.{Matrix}
use Rattle.interference.specs.Clashes.{register_in, holds}
use Rattle.interference.specs.Changes.{own_of}
use Rattle.interference.specs.Listed.{AreInTurn, KeepsLists, LiesInTurn, extents_by, has_some, lane_extents, range_extents}
use Rattle.interference.proofs.Starts.{cell-list}
use Rattle.split_choose.specs.Seen.{turns_from, ends_in_turn}
use Rattle.point_laws.proofs.Covered.{covered-law}
use Rattle.alloc_laws.specs.Clashes.Holds.{IsHolding, Holds}
use Rattle.alloc_laws.specs.Clashes.Kept.{KeptLaw}
use Rattle.alloc_laws.proofs.Offers.Pieces.{pieces-found}

-- what a list has of a range

own-of : (v : ℕ) (hs : List RangeExtent) (e : Extent) → Member (record { range = v; extent = e }) hs → Member e (own_of v hs)
own-of v [] e m = absurd (member-none (record { range = v; extent = e }) m)
own-of v (h ∷ hs) e m = member-elim (record { range = v; extent = e }) h hs here (λ k. behind (nat_eq h.range v) (own-of v hs e k)) m
  where
    behind : (t : Bool) → Member e (own_of v hs) → Member e (cond t (h.extent ∷ own_of v hs) (own_of v hs))
    behind true k = later k
    behind false k = k

    here : record { range = v; extent = e } ≡ h → Member e (cond (nat_eq h.range v) (h.extent ∷ own_of v hs) (own_of v hs))
    here q =
        let r : h.range ≡ v = ap (λ (g : RangeExtent). g.range) (sym q) in
        let s : e ≡ h.extent = ap (λ (g : RangeExtent). g.extent) q in
        subst (λ t. Member e (cond t (h.extent ∷ own_of v hs) (own_of v hs))) (sym (eq-eqb h.range v r)) (subst (λ z. Member e (z ∷ own_of v hs)) s first)

own-in : (v : ℕ) (hs : List RangeExtent) (e : Extent) → Member e (own_of v hs) → Member (record { range = v; extent = e }) hs
own-in v [] e m = absurd (member-none e m)
own-in v (h ∷ hs) e m = go (nat_eq h.range v) refl (λ k. own-in v hs e k) m
  where
    go : (t : Bool) → nat_eq h.range v ≡ t → (Member e (own_of v hs) → Member (record { range = v; extent = e }) hs) → Member e (cond t (h.extent ∷ own_of v hs) (own_of v hs)) → Member (record { range = v; extent = e }) (h ∷ hs)
    go true q ih k = member-elim e h.extent (own_of v hs) (λ s. subst (λ z. Member (record { range = v; extent = e }) (z ∷ hs)) (same s) first) (λ j. later (ih j)) k
      where
        same : e ≡ h.extent → record { range = v; extent = e } ≡ h
        same s = ap (λ n. record { range = n; extent = e }) (sym (eqb-true h.range v q)) ∙ ap (λ z. record { range = h.range; extent = z }) s
    go false q ih k = later (ih k)

-- what a range has by lanes and units

range-of : (x : Table) (v j : ℕ) (us : List UnitNumber) (u b : ℕ) (e : Extent) → Member e (range_extents x v j us u b) → (k : ℕ) × (slice_get (map (λ n. n.0) us) k ≡ Some u) × Member e (lane_extents x (number_in x.lanes (owners.Range v (j + k))) b)
range-of x v j [] u b e m = absurd (member-none e m)
range-of x v j (w ∷ us) u b e m = pick (nat_eq w.0 u) refl (λ k. range-of x v (suc j) us u b e k) (in-either e (cond (nat_eq w.0 u) (lane_extents x (number_in x.lanes (owners.Range v j)) b) []) (range_extents x v (suc j) us u b) m)
  where
    pick : (t : Bool) → nat_eq w.0 u ≡ t → (Member e (range_extents x v (suc j) us u b) → (k : ℕ) × (slice_get (map (λ n. n.0) us) k ≡ Some u) × Member e (lane_extents x (number_in x.lanes (owners.Range v (suc j + k))) b)) → Member e (cond (nat_eq w.0 u) (lane_extents x (number_in x.lanes (owners.Range v j)) b) []) ⊎ Member e (range_extents x v (suc j) us u b) → (k : ℕ) × (slice_get (map (λ n. n.0) (w ∷ us)) k ≡ Some u) × Member e (lane_extents x (number_in x.lanes (owners.Range v (j + k))) b)
    pick t q ih (inr k) = let z = ih k in let same : suc j + z.0 ≡ j + suc z.0 = omega arith in (suc z.0, z.1, subst (λ i. Member e (lane_extents x (number_in x.lanes (owners.Range v i)) b)) same z.2)
    pick true q ih (inl k) =
        let same : j ≡ j + 0 = omega arith in
        (0, ap Some (eqb-true w.0 u q), subst (λ i. Member e (lane_extents x (number_in x.lanes (owners.Range v i)) b)) same (subst (λ t. Member e (cond t (lane_extents x (number_in x.lanes (owners.Range v j)) b) [])) q k))
    pick false q ih (inl k) = absurd (member-none e (subst (λ t. Member e (cond t (lane_extents x (number_in x.lanes (owners.Range v j)) b) [])) q k))

range-in : (x : Table) (v j : ℕ) (us : List UnitNumber) (u b : ℕ) (e : Extent) (k : ℕ) → slice_get (map (λ n. n.0) us) k ≡ Some u → Member e (lane_extents x (number_in x.lanes (owners.Range v (j + k))) b) → Member e (range_extents x v j us u b)
range-in x v j [] u b e k at m = absurd (cc)
range-in x v j (w ∷ us) u b e zero at m =
    let unit : w.0 ≡ u = cc in
    let same : j + 0 ≡ j = omega arith in
    left-in e (cond (nat_eq w.0 u) (lane_extents x (number_in x.lanes (owners.Range v j)) b) []) (range_extents x v (suc j) us u b)
    (subst (λ t. Member e (cond t (lane_extents x (number_in x.lanes (owners.Range v j)) b) [])) (sym (eq-eqb w.0 u unit)) (subst (λ i. Member e (lane_extents x (number_in x.lanes (owners.Range v i)) b)) same m))
range-in x v j (w ∷ us) u b e (suc k) at m =
    let same : j + suc k ≡ suc j + k = omega arith in
    right-in e (cond (nat_eq w.0 u) (lane_extents x (number_in x.lanes (owners.Range v j)) b) []) (range_extents x v (suc j) us u b)
    (range-in x v (suc j) us u b e k at (subst (λ i. Member e (lane_extents x (number_in x.lanes (owners.Range v i)) b)) same m))

module _ (m : Matrix) where
  abbrev t : Target
  t = m.live.target

  abbrev x : Table
  x = m.live.table

  -- what a range has by its register it holds
  pub whole-holding : (u b v : ℕ) (e : Extent) → Member e (extents_by t x v (register_in m.registers.items v) u b) → IsHolding m u b (record { range = v; extent = e })
  whole-holding u b v e k = go (register_in m.registers.items v) refl k
    where
      go : (q : Option Reg) → register_in m.registers.items v ≡ q → Member e (extents_by t x v q u b) → IsHolding m u b (record { range = v; extent = e })
      go None r j = absurd (member-none e j)
      go (Some p) r j =
          let z = range-of x v 0 (units_of t p) u b e j in
          let same : 0 + z.0 ≡ z.0 = omega arith in
          (z.0, (p, r, z.1), subst (λ i. Member e (lane_extents x (number_in x.lanes (owners.Range v i)) b)) same z.2)

module _ (m : Matrix) (keeps : KeepsLists m) where
  held-forth : (u b v : ℕ) (e : Extent) → Member (record { range = v; extent = e }) (holds m u b) → IsHolding m u b (record { range = v; extent = e })
  held-forth u b v e k = whole-holding m u b v e (subst (Member e) (keeps.listed v u b) (own-of v (holds m u b) e k))

  held-back : (u b v : ℕ) (e : Extent) → IsHolding m u b (record { range = v; extent = e }) → Member (record { range = v; extent = e }) (holds m u b)
  held-back u b v e (k, (p, r, at), j) =
      let same : k ≡ 0 + k = omega arith in
      own-in v (holds m u b) e (subst (Member e) (sym (keeps.listed v u b ∙ ap (λ q. extents_by m.live.target m.live.table v q u b) r))
      (range-in m.live.table v 0 (units_of m.live.target p) u b e k at (subst (λ i. Member e (lane_extents m.live.table (number_in m.live.table.lanes (owners.Range v i)) b)) same j)))

  pub listed-holds : Holds m
  listed-holds u b h = (held-forth u b h.range h.extent, held-back u b h.range h.extent)

-- extents of a cell that come one behind the other

module _ (slots : Numbers) where
  segments-turn : (n low : ℕ) (e : PieceEnd) (ss : List DefPiece) → rises_from slots n (map begun ss) ≡ true → turns_from slots e (map begun ss) ≡ true → low ≤ max (end_rank slots e) (n * 2 + 1) → AreInTurn slots low (map segment_extent ss)
  segments-turn n low e [] r t le = tt
  segments-turn n low e (s ∷ ss) r t le = (
    starts (ltb-true n (number_of slots s.start) (both-left (nat_lt n (number_of slots s.start)) (rises_from slots (number_of slots s.start) (map begun ss)) r)) (leb-true (end_rank slots e) (hold_rank slots (begun s)) (both-left (nat_le (end_rank slots e) (hold_rank slots (begun s))) (turns_from slots s.piece.end (map begun ss)) t)) s.early,
    segments-turn (number_of slots s.start) (last_rank slots (segment_extent s)) s.piece.end ss (both-right (nat_lt n (number_of slots s.start)) (rises_from slots (number_of slots s.start) (map begun ss)) r) (both-right (nat_le (end_rank slots e) (hold_rank slots (begun s))) (turns_from slots s.piece.end (map begun ss)) t) (omega arith),
  )
    where
      starts : n < number_of slots s.start → end_rank slots e ≤ hold_rank slots (begun s) → (u : Bool) → low ≤ hold_rank slots (begun s)
      starts up end u = below s.early end
        where
          below : (w : Bool) → end_rank slots e ≤ cond w (entry_rank slots s.start) (exit_rank slots s.start) → low ≤ cond w (entry_rank slots s.start) (exit_rank slots s.start)
          below true q = omega (arith, up, le)
          below false q = omega (arith, up, le)

  cell-turn : (c : Cell) → rises_from slots 0 (seen_cell c).segments ≡ true → ends_in_turn slots (seen_cell c) ≡ true → AreInTurn slots 0 (some_extents (Some c))
  cell-turn c r t = subst (AreInTurn slots 0) (sym (cell-list c)) (go (is_never c.first.end))
    where
      go : (u : Bool) → AreInTurn slots 0 (cons_option (cond u None (Some (record { start = None; early = false; end = c.first.end }))) (map segment_extent c.segments.items))
      go true = segments-turn 0 0 c.first.end c.segments.items r t (omega arith)
      go false = (omega arith, segments-turn 0 (end_rank slots c.first.end) c.first.end c.segments.items r t (omega arith))

some-member : (es : List Extent) → has_some es ≡ true → (e : Extent) × Member e es
some-member [] h = absurd (cc)
some-member (e ∷ es) h = (e, first)

-- the extents of the lanes of a computed table in order come one behind the other
pub lies-in-turn : (m : Matrix) → IsComputed m.live.target m.live.func m.live.table → KeepsRules m.live.target m.live.func
    → ((b : Block) (j : ℕ) (i : Instr) → Member b m.live.func.blocks → slice_get b.instrs j ≡ Some i → V8 m.live.target b j i ≡ true) → InOrder m.live.table → LiesInTurn m
lies-in-turn m computed rules last order = record { turns = turns; within = within }
  where
    turns : (l b : ℕ) → AreInTurn m.live.table.order.slots 0 (lane_extents m.live.table (Some l) b)
    turns l b = go (slice_get m.live.table.rows.rows.items l) (order l b) ((pieces-found m.live.target m.live.func m.live.table computed rules last).turns l b)
      where
        in-cell : (o : Option Cell) → rises_from m.live.table.order.slots 0 (seen o).segments ≡ true → ends_in_turn m.live.table.order.slots (seen o) ≡ true → AreInTurn m.live.table.order.slots 0 (some_extents o)
        in-cell None r t = tt
        in-cell (Some c) r t = cell-turn m.live.table.order.slots c r t

        go : (o : Option LaneRange) → rises_from m.live.table.order.slots 0 (elim o as (λ t. Seen) [ None ↦ unseen | Some r ↦ seen_in r.cells.items b ]).segments ≡ true
            → ends_in_turn m.live.table.order.slots (elim o as (λ t. Seen) [ None ↦ unseen | Some r ↦ seen_in r.cells.items b ]) ≡ true
            → AreInTurn m.live.table.order.slots 0 (some_extents (find_cell b (elim o as (λ t. List Cell) [ None ↦ [] | Some r ↦ r.cells.items ])))
        go None r t = tt
        go (Some w) r t = in-cell (find_cell b w.cells.items) r t

    within : (l b : ℕ) → has_some (lane_extents m.live.table (Some l) b) ≡ true → b < length m.live.func.blocks
    within l b h =
        let e = some-member (lane_extents m.live.table (Some l) b) h in
        let z = (covered-law m.live.target m.live.func m.live.table computed rules last).begins l b e.0 e.1 in
        slice_get_within m.live.func.blocks b z.0 z.1

pub kept-law : KeptLaw
kept-law m computed rules last keeps = (record { computed = computed; rules = rules; last = last; holds = listed-holds m keeps }, lies-in-turn m computed rules last keeps.ordered.table)
