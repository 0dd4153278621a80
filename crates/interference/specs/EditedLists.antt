-- What the list of a unit in a block holds while edits bring it up to date, piece by piece.
use Rattle.std.specs.Prelude.{◌≡◌, ◌≢◌, ◌⊎◌, ◌<◌, ◌≤◌, ◌||◌, ◌&&◌, ℕ, Bool, true, false, not, nat_eq, filter, List, [], ◌∷◌, Option, None, Some}
use Rattle.mir_meaning.specs.Paths.{Among}
use Rattle.live_lanes.specs.declared.ask.extent.Extent.{Extent}
use Rattle.slot_index.specs.Order.{Has, number_of}
use Rattle.live_lanes.specs.declared.row.PieceEnd.{PieceEnd}
use Rattle.live_lanes.specs.declared.row.PieceEnd.TheVariants as ends
use Rattle.live_lanes.specs.Table.{Numbers}
use Rattle.live_lanes.specs.Extents.{first_rank, last_rank, begins_with}
use Rattle.interference.specs.declared.held.RangeExtent.{RangeExtent}
use Rattle.interference.specs.declared.matrix.Matrix.{Matrix}
use Rattle.interference.specs.Clashes.{AreApart, register_in}
use Rattle.interference.specs.Changes.{own_of}
use Rattle.interference.specs.Listed.{extents_by}

-- what each range has of the unit in the block
abbrev pub Whole : Type 0
Whole = ℕ → List Extent

-- it begins later than the other one and otherwise, and not before its last point
pub record ComesBehind (slots : Numbers) (e f : Extent) : Type 0 where
  pub later : first_rank slots e < first_rank slots f
  pub behind : last_rank slots e ≤ first_rank slots f
  pub starts : begins_with e.start f ≡ false

-- each comes behind all before it
abbrev pub AreInRow : Numbers → List Extent → Type 0
AreInRow slots [] = Unit {0}
AreInRow slots (e ∷ es) = ((f : Extent) → Among f es → ComesBehind slots e f) × AreInRow slots es

-- no point is one of both
abbrev pub LieApart : Numbers → Extent → Extent → Type 0
LieApart slots e f = (last_rank slots e < first_rank slots f) ⊎ (last_rank slots f < first_rank slots e)

-- ranges that don't clash: each has its extents in a row, and no two have one point
pub record AreSeparate (slots : Numbers) (whole : Whole) : Type 0 where
  pub rows : (v : ℕ) → AreInRow slots (whole v)
  pub clear : (v w : ℕ) → v ≢ w → (e f : Extent) → Among e (whole v) → Among f (whole w) → LieApart slots e f

-- A list holds of each range those of its extents that pass a test, and all in order.
pub record HoldsThose (slots : Numbers) (whole : Whole) (test : ℕ → Extent → Bool) (hs : List RangeExtent) : Type 0 where
  pub own : (v : ℕ) → own_of v hs ≡ filter (test v) (whole v)
  pub apart : AreApart slots 0 hs

-- the test passes those of a range that begin so, too
abbrev pub or_piece : (ℕ → Extent → Bool) → ℕ → Option ℕ → ℕ → Extent → Bool
or_piece test v start w e = test w e || (nat_eq w v && begins_with start e)

-- it passes them no more
abbrev pub but_piece : (ℕ → Extent → Bool) → ℕ → Option ℕ → ℕ → Extent → Bool
but_piece test v start w e = test w e && not (nat_eq w v && begins_with start e)

-- the test passes all
abbrev pub any_extent : ℕ → Extent → Bool
any_extent w e = true

-- orders in which points have other numbers

-- the instruction whose entry or exit is the end of a piece, if it is one
abbrev pub end_instr : PieceEnd → Option ℕ
end_instr ends.Never = None
end_instr (ends.Entry id) = Some id
end_instr (ends.Exit id) = Some id
end_instr ends.Last = None

-- the instructions at both ends of an extent are in the order
pub record HasEnds (slots : Numbers) (e : Extent) : Type 0 where
  pub first : (id : ℕ) → e.start ≡ Some id → Has slots id
  pub last : (id : ℕ) → end_instr e.end ≡ Some id → Has slots id

-- numbers of instructions are above 0 and fit 64 bits
pub record FitNumbers (slots : Numbers) : Type 0 where
  pub positive : (id : ℕ) → Has slots id → 0 < number_of slots id
  pub small : (id : ℕ) → number_of slots id < 18446744073709551616

-- matrices

-- what each range has of a unit in a block by its register
abbrev pub whole_at : Matrix → ℕ → ℕ → Whole
whole_at m u b v = extents_by m.live.target m.live.table v (register_in m.registers.items v) u b

-- no two ranges with registers clash
abbrev pub ClashesNowhere : Matrix → Type 0
ClashesNowhere m = (u b : ℕ) → AreSeparate m.live.table.order.slots (whole_at m u b)
