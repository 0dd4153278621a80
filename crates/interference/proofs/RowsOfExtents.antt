-- The extents of a lane in a block stand in a row, where a table is in order and they lie in turn.
use Rattle.std.proofs.Common.{◌≡◌, ◌∙◌, ◌<◌, ◌≤◌, ◌+◌, ◌*◌, ◌⊎◌, inl, inr, ℕ, Bool, true, false, cond, map, List, [], ◌∷◌, Option, None, Some, sym, ap, subst, arith, ne_eqb}
use Rattle.std.specs.Prelude.{nat_lt}
use Rattle.std.specs.List.{cons_option}
use Rattle.std.proofs.lemmas.Bool.{ltb-true}
use Rattle.mir_meaning.specs.Paths.{Among}
use Rattle.slot_index.specs.Order.{number_of}
use Rattle.live_lanes.specs.declared.ask.extent.Extent.{Extent}
use Rattle.live_lanes.specs.Entered.{rows_seen}
use Rattle.live_lanes.specs.Extents.{first_rank, last_rank, is_same_start}
use Rattle.live_lanes.specs.Looks.{InOrder}
use Rattle.live_lanes.specs.Reach.{is_never}
use Rattle.live_lanes.specs.Table.{Begun, Numbers, Seen, entry_rank, exit_rank, rises_from}
use Rattle.live_lanes.proofs.Basics.{none-among}
use Rattle.live_lanes.proofs.Cells.{both-left, both-right}
use Rattle.live_lanes.proofs.ExtentLists.{begun_extent, extents-rows, seen_extents}
use Rattle.live_lanes.proofs.Numbered.{among-cases}
use Rattle.interference.specs.declared.matrix.Matrix.{Matrix}
use Rattle.interference.specs.Clashes.{register_in}
use Rattle.interference.specs.EditedLists.{AreInRow, ClashesNowhere, ComesBehind}
use Rattle.interference.specs.EditedMatrix.{NoneClash}
use Rattle.interference.specs.HeldLanes.{holding_lane}
use Rattle.interference.specs.Listed.{AreInTurn, LiesInTurn, lane_extents}
use Rattle.interference.proofs.Parts.{extent-le}
use Rattle.interference.proofs.Ranks.{whole-is}

module _ (slots : Numbers) where
  -- all begin at the point or behind it
  turn-low : (n : ℕ) (es : List Extent) → AreInTurn slots n es → (f : Extent) → Among f es → n ≤ first_rank slots f
  turn-low n [] t f m = absurd (none-among f m)
  turn-low n (e ∷ es) t f m = go (among-cases f e es m) (turn-low (last_rank slots e) es t.1 f)
    where
      go : (f ≡ e) ⊎ Among f es → (Among f es → last_rank slots e ≤ first_rank slots f) → n ≤ first_rank slots f
      go (inl same) ih = subst (λ y. n ≤ first_rank slots y) (sym same) t.0
      go (inr a) ih = let z = ih a in let le = extent-le slots e in let low = t.0 in omega arith

  -- it begins with an instruction of a number above n
  record BeginsAbove (n : ℕ) (f : Extent) : Type 0 where
    piece : Begun
    is : f ≡ begun_extent piece
    above : n < number_of slots piece.start

  begin-above : (n : ℕ) (ss : List Begun) → rises_from slots n ss ≡ true → (f : Extent) → Among f (map begun_extent ss) → BeginsAbove n f
  begin-above n [] r f m = absurd (none-among f m)
  begin-above n (s ∷ ss) r f m = go (among-cases f (begun_extent s) (map begun_extent ss) m) (begin-above (number_of slots s.start) ss (both-right (nat_lt n (number_of slots s.start)) (rises_from slots (number_of slots s.start) ss) r) f)
    where
      up : n < number_of slots s.start
      up = ltb-true n (number_of slots s.start) (both-left (nat_lt n (number_of slots s.start)) (rises_from slots (number_of slots s.start) ss) r)

      go : (f ≡ begun_extent s) ⊎ Among f (map begun_extent ss) → (Among f (map begun_extent ss) → BeginsAbove (number_of slots s.start) f) → BeginsAbove n f
      go (inl same) ih = record { piece = s; is = same; above = up }
      go (inr a) ih = let z = ih a in record { piece = z.piece; is = z.is; above = let more = z.above in omega (arith, up, more) }

  first-low : (s : Begun) → number_of slots s.start * 2 ≤ first_rank slots (begun_extent s)
  first-low s = go s.early
    where
      go : (t : Bool) → number_of slots s.start * 2 ≤ cond t (entry_rank slots s.start) (exit_rank slots s.start)
      go true = omega arith
      go false = omega arith

  first-high : (s : Begun) → first_rank slots (begun_extent s) ≤ number_of slots s.start * 2 + 1
  first-high s = go s.early
    where
      go : (t : Bool) → cond t (entry_rank slots s.start) (exit_rank slots s.start) ≤ number_of slots s.start * 2 + 1
      go true = omega arith
      go false = omega arith

  begun-row : (n m : ℕ) (ss : List Begun) → rises_from slots n ss ≡ true → AreInTurn slots m (map begun_extent ss) → AreInRow slots (map begun_extent ss)
  begun-row n m [] r t = tt
  begun-row n m (s ∷ ss) r t = (behind, begun-row (number_of slots s.start) (last_rank slots (begun_extent s)) ss rise t.1)
    where
      rise : rises_from slots (number_of slots s.start) ss ≡ true
      rise = both-right (nat_lt n (number_of slots s.start)) (rises_from slots (number_of slots s.start) ss) r

      behind : (f : Extent) → Among f (map begun_extent ss) → ComesBehind slots (begun_extent s) f
      behind f a =
          let z = begin-above (number_of slots s.start) ss rise f a in
          let above = z.above in
          let later : first_rank slots (begun_extent s) < first_rank slots (begun_extent z.piece) = omega (arith, first-high s, first-low z.piece, above) in
          record {
            later = subst (λ y. first_rank slots (begun_extent s) < first_rank slots y) (sym z.is) later;
            behind = turn-low (last_rank slots (begun_extent s)) (map begun_extent ss) t.1 f a;
            starts = ap (λ (y : Extent). is_same_start y.start (Some s.start)) z.is ∙ ne_eqb z.piece.start s.start (λ e. let same : number_of slots z.piece.start ≡ number_of slots s.start = ap (number_of slots) e in omega (arith, same, above));
          }

  seen-row : (v : Seen) → rises_from slots 0 v.segments ≡ true → AreInTurn slots 0 (seen_extents v) → AreInRow slots (seen_extents v)
  seen-row v r t = go (is_never v.end) t
    where
      first : Extent
      first = record { start = None; early = false; end = v.end }

      behind : AreInTurn slots (last_rank slots first) (map begun_extent v.segments) → (f : Extent) → Among f (map begun_extent v.segments) → ComesBehind slots first f
      behind turn f a =
          let z = begin-above 0 v.segments r f a in
          let above = z.above in
          let later : 0 < first_rank slots (begun_extent z.piece) = omega (arith, first-low z.piece, above) in
          record {
            later = subst (λ y. 0 < first_rank slots y) (sym z.is) later;
            behind = turn-low (last_rank slots first) (map begun_extent v.segments) turn f a;
            starts = ap (λ (y : Extent). is_same_start y.start None) z.is;
          }

      go : (u : Bool) → AreInTurn slots 0 (cons_option (cond u None (Some first)) (map begun_extent v.segments)) → AreInRow slots (cons_option (cond u None (Some first)) (map begun_extent v.segments))
      go true turn = begun-row 0 0 v.segments r turn
      go false turn = (behind turn.1, begun-row 0 (last_rank slots first) v.segments r turn.1)

-- where no two ranges hold a unit at one point, and each lane's extents lie in turn, nothing clashes
pub clashes-nowhere : (m : Matrix) → InOrder m.live.table → LiesInTurn m → NoneClash m → ClashesNowhere m
clashes-nowhere m order lies none u b = record {
  rows = λ v. subst (AreInRow slots) (sym (whole-is m.live.target m.live.table v (register_in m.registers.items v) u b)) (lane-row (holding_lane m v u));
  clear = none u b;
}
  where
    slots : Numbers
    slots = m.live.table.order.slots

    lane-row : (q : Option ℕ) → AreInRow m.live.table.order.slots (lane_extents m.live.table q b)
    lane-row None = tt
    lane-row (Some l) =
        let same = extents-rows m.live.table l b in
        subst (AreInRow m.live.table.order.slots) (sym same) (seen-row m.live.table.order.slots (rows_seen m.live.table.rows.rows.items l b) (order l b) (subst (AreInTurn m.live.table.order.slots 0) same (lies.turns l b)))
