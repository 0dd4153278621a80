-- A matrix whose lists are kept is exact.
use Rattle.std.specs.Prelude.{◌≡◌, ℕ, true, Some, slice_get}
use Rattle.meaning.specs.Live.{Among as Member}
use Rattle.mir_func.specs.declared.func.Block.{Block}
use Rattle.mir_func.specs.declared.func.Instr.{Instr}
use Rattle.mir_meaning.specs.Rules.{V8}
use Rattle.live_laws.specs.Effects.Coded.{KeepsRules}
use Rattle.live_lanes.specs.Doing.{IsComputed}
use Rattle.interference.specs.declared.matrix.Matrix.{Matrix}
use Rattle.interference.specs.Listed.{KeepsLists, LiesInTurn}
use Rattle.alloc_laws.specs.Clashes.Facts.{IsExact}

-- Where the table is computed, a matrix that keeps its lists is exact, and the extents of its lanes come one behind the other, as an
-- assignment asks.
abbrev pub KeptLaw : Type 0
KeptLaw =
    (m : Matrix) → IsComputed m.live.target m.live.func m.live.table → KeepsRules m.live.target m.live.func
    → ((b : Block) (j : ℕ) (i : Instr) → Member b m.live.func.blocks → slice_get b.instrs j ≡ Some i → V8 m.live.target b j i ≡ true) → KeepsLists m → IsExact m × LiesInTurn m
