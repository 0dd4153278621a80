-- Each split that is offered to a range is a step of a run.
use Rattle.std.specs.Prelude.{ℕ, List, Option, Some}
use Rattle.target_base.specs.declared.types.Reg.{Reg}
use Rattle.target_base.specs.declared.types.Target.{Target}
use Rattle.mir_func.specs.Value.{Function}
use Rattle.live_lanes.specs.declared.ask.labels.Mark.{Mark}
use Rattle.split_kit.specs.PartEdits.{AreInTurn}
use Rattle.split_kit.specs.Split.{Split}
use Rattle.split_choose.specs.declared.cuts.Region.{Region as CutRegion}
use Rattle.split_choose.specs.Cuts.{IsCutOffer}
use Rattle.split_choose.specs.Offers.{Local, PerBlock, Region, Shows, View}
use Rattle.run_laws.specs.Form.{IsInRun}
use Rattle.run_laws.specs.Runs.{IsStep}

-- These are the labels of a split that is offered to the range, where ranges have these registers: of a block split, a region
-- split, a region split at least cost, or a local split.
pub data AreOffered (t : Target) (f : Function) (registers : List (Option Reg)) (freqs : List ℕ) (v : ℕ) : List Mark → Type 0 where
  block : {ms : List Mark} → PerBlock t f registers v (Some ms) → AreOffered t f registers freqs v ms
  region : {p : Reg} {ms : List Mark} → Region t f registers freqs v (Some (p, ms)) → AreOffered t f registers freqs v ms
  cut : (view : View) (region : CutRegion) → Shows t f registers v view → IsCutOffer t f v view freqs (Some region) → AreOffered t f registers freqs v region.labels
  local : {p : Reg} {ms : List Mark} → Local t f registers v (Some (p, ms)) → AreOffered t f registers freqs v ms

-- the function of a run with a range split so is one step on
abbrev pub OfferedIsStep : Type 0
OfferedIsStep =
    (t : Target) (f g : Function) (registers : List (Option Reg)) (freqs : List ℕ) (v : ℕ) (ms : List Mark)
    → IsInRun t f → AreOffered t f registers freqs v ms → Split t f v ms g → IsStep t f g

-- and these labels stand in layout order, as splitting asks
abbrev pub OfferedIsInTurn : Type 0
OfferedIsInTurn =
    (t : Target) (f : Function) (registers : List (Option Reg)) (freqs : List ℕ) (v : ℕ) (ms : List Mark)
    → IsInRun t f → AreOffered t f registers freqs v ms → AreInTurn f ms
