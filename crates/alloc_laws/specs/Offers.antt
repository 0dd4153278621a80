-- That what splits ask of a table holds of one that is computed.
use Rattle.std.specs.Prelude.{◌≡◌, ◌<◌, ℕ, true, false, length, Some, slice_get}
use Rattle.target_base.specs.declared.types.Target.{Target}
use Rattle.meaning.specs.Live.{Among as Member}
use Rattle.mir_func.specs.declared.func.Block.{Block}
use Rattle.mir_func.specs.declared.func.Instr.{Instr}
use Rattle.mir_func.specs.Value.{Function}
use Rattle.mir_meaning.specs.Points.{has_no_phis}
use Rattle.mir_meaning.specs.Rules.{V8}
use Rattle.live_laws.specs.Effects.Coded.{KeepsRules}
use Rattle.live_lanes.specs.declared.row.PieceEnd.TheVariants as ends
use Rattle.live_lanes.specs.declared.table.Table.{Table}
use Rattle.live_lanes.specs.Graph.{is_live}
use Rattle.live_lanes.specs.Table.{descends}
use Rattle.live_lanes.specs.Entered.{causes, cells_of, rows_seen}
use Rattle.live_lanes.specs.Doing.{IsComputed}
use Rattle.live_laws.specs.Touch.{are_known}
use Rattle.split_choose.specs.Seen.{FindsPlaces, FindsWays, begins_here, ends_in_turn, reads_here}

-- Where places are asked for, a computed table finds them: of a function without phis and excluded opcodes whose terminators stand
-- last in their blocks. Its blocks have numbers of their own by the rules that it keeps.
abbrev pub PlacesFoundLaw : Type 0
PlacesFoundLaw =
    (t : Target) (f : Function) (x : Table) → IsComputed t f x → KeepsRules t f → ((b : Block) (j : ℕ) (i : Instr) → Member b f.blocks → slice_get b.instrs j ≡ Some i → V8 t b j i ≡ true)
    → has_no_phis t f.blocks ≡ true → are_known t f.blocks ≡ true → length f.blocks < 65536 → (v : ℕ) → FindsPlaces t f x v

-- Pieces begin with instructions of their blocks and are read by such, none lasts beyond the first point of the next one, a lane has
-- one cell for a block, and where a lane isn't live at the start of a block, its first piece there has no end.
pub record FindsPieces (f : Function) (x : Table) : Type 0 where
  pub begun : (l k : ℕ) (b : Block) → slice_get f.blocks k ≡ Some b → begins_here b.instrs (rows_seen x.rows.rows.items l k) ≡ true
  pub turns : (l k : ℕ) → ends_in_turn x.order.slots (rows_seen x.rows.rows.items l k) ≡ true
  pub apart : (l : ℕ) → descends (cells_of x.rows.rows.items l) ≡ true
  pub read : (l k : ℕ) (b : Block) → slice_get f.blocks k ≡ Some b → reads_here b.instrs (rows_seen x.rows.rows.items l k) ≡ true
  pub dead : (l k : ℕ) → is_live (causes x.rows.rows.items l k 0) ≡ false → (rows_seen x.rows.rows.items l k).end ≡ ends.Never

-- a computed table's do so
abbrev pub PiecesFoundLaw : Type 0
PiecesFoundLaw =
    (t : Target) (f : Function) (x : Table) → IsComputed t f x → KeepsRules t f → ((b : Block) (j : ℕ) (i : Instr) → Member b f.blocks → slice_get b.instrs j ≡ Some i → V8 t b j i ≡ true)
    → FindsPieces f x

-- The ways of a computed table are those of the blocks, and each edge leads to one of them by the rules that the function keeps.
abbrev pub WaysFoundLaw : Type 0
WaysFoundLaw =
    (t : Target) (f : Function) (x : Table) → IsComputed t f x → KeepsRules t f → length f.blocks < 2147483648 → FindsWays f x
