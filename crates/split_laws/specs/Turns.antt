-- The labels of each split that is offered stand in layout order, so that the range can be split by them; and a split leaves no
-- range that is named in `undef` uses alone.
use Rattle.std.specs.Prelude.{ℕ, List, Option, Some}
use Rattle.target_base.specs.declared.types.Reg.{Reg}
use Rattle.target_base.specs.declared.types.Target.{Target}
use Rattle.mir_func.specs.Value.{Function}
use Rattle.live_lanes.specs.declared.ask.labels.Mark.{Mark}
use Rattle.live_edits.specs.Folded.{TouchesNamed}
use Rattle.lowering_laws.specs.Shapes.{IsLowered}
use Rattle.split_kit.specs.PartEdits.{AreInTurn}
use Rattle.split_kit.specs.Split.{Split}
use Rattle.split_choose.specs.declared.cuts.Region.{Region as CutRegion}
use Rattle.split_choose.specs.Offers.{Local, PerBlock, Region, Shows, View}
use Rattle.split_choose.specs.Cuts.{IsCutOffer}

-- a block split
abbrev pub BlockLabelsInTurn : Type 0
BlockLabelsInTurn =
    (t : Target) (f : Function) (registers : List (Option Reg)) (v : ℕ) (ms : List Mark)
    → IsLowered t f → PerBlock t f registers v (Some ms) → AreInTurn f ms

-- a region split
abbrev pub RegionLabelsInTurn : Type 0
RegionLabelsInTurn =
    (t : Target) (f : Function) (registers : List (Option Reg)) (freqs : List ℕ) (v : ℕ) (p : Reg) (ms : List Mark)
    → IsLowered t f → Region t f registers freqs v (Some (p, ms)) → AreInTurn f ms

-- a region split at least cost
abbrev pub CutLabelsInTurn : Type 0
CutLabelsInTurn =
    (t : Target) (f : Function) (registers : List (Option Reg)) (freqs : List ℕ) (v : ℕ) (view : View) (region : CutRegion)
    → IsLowered t f → Shows t f registers v view → IsCutOffer t f v view freqs (Some region) → AreInTurn f region.labels

-- a local split
abbrev pub LocalLabelsInTurn : Type 0
LocalLabelsInTurn =
    (t : Target) (f : Function) (registers : List (Option Reg)) (v : ℕ) (p : Reg) (ms : List Mark)
    → IsLowered t f → Local t f registers v (Some (p, ms)) → AreInTurn f ms

-- no instruction names any range in `undef` uses alone
abbrev pub TouchesAllNamed : Function → Type 0
TouchesAllNamed f = (w : ℕ) → TouchesNamed f w

-- a split keeps that
abbrev pub SplitKeepsNamed : Type 0
SplitKeepsNamed = (t : Target) (f g : Function) (v : ℕ) (ms : List Mark) → TouchesAllNamed f → Split t f v ms g → TouchesAllNamed g
