-- What the extents of lanes tell, and when two stretches of points meet.
use Rattle.std.specs.Prelude.{◌≡◌, ◌↔◌, ℕ, true, Some, slice_get}
use Rattle.target_base.specs.declared.types.Target.{Target}
use Rattle.meaning.specs.Live.{Among as Member}
use Rattle.mir_func.specs.declared.func.Block.{Block}
use Rattle.mir_func.specs.declared.func.Instr.{Instr}
use Rattle.mir_func.specs.Value.{Function}
use Rattle.mir_meaning.specs.Points.{Point, block_points}
use Rattle.mir_meaning.specs.Rules.{V8}
use Rattle.live_laws.specs.Effects.Coded.{KeepsRules}
use Rattle.live_lanes.specs.declared.ask.extent.Stretch.{Stretch}
use Rattle.live_lanes.specs.declared.table.Table.{Table}
use Rattle.live_lanes.specs.Table.{Numbers}
use Rattle.live_lanes.specs.Doing.{IsComputed}
use Rattle.point_laws.specs.Covered.{AreCovered, IsRank, LiesIn, rank_of}

-- a computed table's extents cover the points at which lanes are live or occupied
abbrev pub CoveredLaw : Type 0
CoveredLaw =
    (t : Target) (f : Function) (x : Table) → IsComputed t f x → KeepsRules t f → ((b : Block) (j : ℕ) (i : Instr) → Member b f.blocks → slice_get b.instrs j ≡ Some i → V8 t b j i ≡ true)
    → AreCovered f x

-- two stretches that begin at points of a block have a number in common exactly where they have a point of it in common
abbrev pub OverlapLaw : Type 0
OverlapLaw =
    (slots : Numbers) (b : Block) (s r : Stretch) → IsRank slots b s.first → IsRank slots b r.first
    → ((at : ℕ) × LiesIn s at × LiesIn r at) ↔ ((p : Point) × Member p (block_points b) × LiesIn s (rank_of slots p) × LiesIn r (rank_of slots p))
