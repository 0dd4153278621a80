-- What offers of splits ask of a table and of a matrix is what the meaning of the function says.
use Rattle.std.specs.Prelude.{◌≡◌, ◌<◌, ℕ, true, false, List, Some, length, slice_get}
use Rattle.target_base.specs.declared.types.Target.{Target}
use Rattle.target_base.specs.declared.types.Unit.{Unit as UnitNumber}
use Rattle.meaning.specs.declared.types.Lane.TheVariants.{UnitLane}
use Rattle.meaning.specs.Live.{Among as Member}
use Rattle.mir_func.specs.declared.func.Block.{Block}
use Rattle.mir_func.specs.declared.func.Instr.{Instr}
use Rattle.mir_func.specs.Value.{Function}
use Rattle.mir_meaning.specs.Points.{RangePoint, Tests}
use Rattle.mir_meaning.specs.Registers.{is_reserved}
use Rattle.mir_meaning.specs.Rules.{V8}
use Rattle.live_laws.specs.Effects.Coded.{KeepsRules}
use Rattle.live_lanes.specs.declared.table.Table.{Table}
use Rattle.live_lanes.specs.Doing.{IsComputed}
use Rattle.live_lanes.specs.Ways.{successors}
use Rattle.interference.specs.declared.matrix.Matrix.{Matrix}
use Rattle.split_choose.specs.Bundles.{AreBundles, are_joined}
use Rattle.split_choose.specs.Offers.{OneBundle, RangeLive, HeldByOthers, TestsPoints}
use Rattle.split_choose.specs.Seen.{seen_live, seen_point, seen_held}
use Rattle.alloc_laws.specs.Clashes.Facts.{IsExact}

-- a computed table tells of each range at which points of the function some lane of it is live
abbrev pub LiveShownLaw : Type 0
LiveShownLaw =
    (t : Target) (f : Function) (x : Table) → IsComputed t f x → KeepsRules t f → ((b : Block) (j : ℕ) (i : Instr) → Member b f.blocks → slice_get b.instrs j ≡ Some i → V8 t b j i ≡ true)
    → (v : ℕ) → TestsPoints f (RangeLive t f v) (seen_live x f.blocks v)

-- and at which it has a lane
abbrev pub PointsShownLaw : Type 0
PointsShownLaw =
    (t : Target) (f : Function) (x : Table) → IsComputed t f x → KeepsRules t f → ((b : Block) (j : ℕ) (i : Instr) → Member b f.blocks → slice_get b.instrs j ≡ Some i → V8 t b j i ≡ true)
    → (v : ℕ) → TestsPoints f (RangePoint t f v) (seen_point x f.blocks v)

-- borders that are linked along the ways of a computed table are of one bundle, and no others are
abbrev pub BundlesShownLaw : Type 0
BundlesShownLaw =
    (t : Target) (f : Function) (x : Table) → IsComputed t f x → KeepsRules t f → length f.blocks < 2147483648
    → (parents : List ℕ) → AreBundles (successors x.flow.items) parents → Tests (OneBundle f.blocks) (are_joined f.blocks parents)

-- An exact matrix tells of each unit of the target that isn't reserved at which points something else than the range holds it. (Past the
-- numbers of the target's units the rows of the table are those of other lanes.)
abbrev pub HeldShownLaw : Type 0
HeldShownLaw =
    (m : Matrix) → IsExact m → (v : ℕ) (u : UnitNumber) → u.0 < length m.live.target.units → is_reserved m.live.target (UnitLane u.0) ≡ false
    → TestsPoints m.live.func (λ p. HeldByOthers m.live.target m.live.func m.registers.items v (u, p)) (λ p. seen_held m v (u, p))
