-- The labels of each split that is offered agree on the ways between blocks.
use Rattle.std.specs.Prelude.{ℕ, List, Option, Some}
use Rattle.target_base.specs.declared.types.Reg.{Reg}
use Rattle.target_base.specs.declared.types.Target.{Target}
use Rattle.mir_func.specs.Value.{Function}
use Rattle.live_lanes.specs.declared.ask.labels.Mark.{Mark}
use Rattle.lowering_laws.specs.Shapes.{IsLowered}
use Rattle.split_choose.specs.declared.cuts.Region.{Region as CutRegion}
use Rattle.split_choose.specs.Offers.{Local, PerBlock, Region, Shows, View}
use Rattle.split_choose.specs.Cuts.{IsCutOffer}
use Rattle.split_laws.specs.Laws.{LabelsAgree}

-- a block split
abbrev pub BlockLabelsAgree : Type 0
BlockLabelsAgree =
    (t : Target) (f : Function) (registers : List (Option Reg)) (v : ℕ) (ms : List Mark)
    → IsLowered t f → PerBlock t f registers v (Some ms) → LabelsAgree t f v ms

-- a region split
abbrev pub RegionLabelsAgree : Type 0
RegionLabelsAgree =
    (t : Target) (f : Function) (registers : List (Option Reg)) (freqs : List ℕ) (v : ℕ) (p : Reg) (ms : List Mark)
    → IsLowered t f → Region t f registers freqs v (Some (p, ms)) → LabelsAgree t f v ms

-- a region split at least cost
abbrev pub CutLabelsAgree : Type 0
CutLabelsAgree =
    (t : Target) (f : Function) (registers : List (Option Reg)) (freqs : List ℕ) (v : ℕ) (view : View) (region : CutRegion)
    → IsLowered t f → Shows t f registers v view → IsCutOffer t f v view freqs (Some region) → LabelsAgree t f v region.labels

-- a local split
abbrev pub LocalLabelsAgree : Type 0
LocalLabelsAgree =
    (t : Target) (f : Function) (registers : List (Option Reg)) (v : ℕ) (p : Reg) (ms : List Mark)
    → IsLowered t f → Local t f registers v (Some (p, ms)) → LabelsAgree t f v ms
