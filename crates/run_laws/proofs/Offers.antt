-- Labels that are offered agree on the ways between blocks, and stand in layout order.
use Rattle.std.proofs.Common.{ℕ, List, Option}
use Rattle.target_base.specs.declared.types.Reg.{Reg}
use Rattle.target_base.specs.declared.types.Target.{Target}
use Rattle.mir_func.specs.Value.{Function}
use Rattle.live_lanes.specs.declared.ask.labels.Mark.{Mark}
use Rattle.lowering_laws.specs.Shapes.{IsLowered}
use Rattle.split_kit.specs.PartEdits.{AreInTurn}
use Rattle.split_laws.specs.Laws.{LabelsAgree}
use Rattle.split_laws.proofs.Local.{local_labels_agree}
use Rattle.split_laws.proofs.LocalTurns.{local_labels_in_turn}
use Rattle.split_laws.proofs.Offered.{block_labels_agree, cut_labels_agree, region_labels_agree}
use Rattle.split_laws.proofs.OfferTurns.{block_labels_in_turn, cut_labels_in_turn, region_labels_in_turn}
use Rattle.run_laws.specs.Offers.{AreOffered, OfferedIsInTurn, OfferedIsStep, block, cut, local, region}
use Rattle.run_laws.specs.Runs.{splits}

module _ (t : Target) (f : Function) (registers : List (Option Reg)) (freqs : List ℕ) (v : ℕ) (low : IsLowered t f) where
  labels-agree : {ms : List Mark} → AreOffered t f registers freqs v ms → LabelsAgree t f v ms
  labels-agree (block {ms} o) = block_labels_agree t f registers v ms low o
  labels-agree (region {p} {ms} o) = region_labels_agree t f registers freqs v p ms low o
  labels-agree (cut view at shows o) = cut_labels_agree t f registers freqs v view at low shows o
  labels-agree (local {p} {ms} o) = local_labels_agree t f registers v p ms low o

  labels-in-turn : {ms : List Mark} → AreOffered t f registers freqs v ms → AreInTurn f ms
  labels-in-turn (block {ms} o) = block_labels_in_turn t f registers v ms low o
  labels-in-turn (region {p} {ms} o) = region_labels_in_turn t f registers freqs v p ms low o
  labels-in-turn (cut view at shows o) = cut_labels_in_turn t f registers freqs v view at low shows o
  labels-in-turn (local {p} {ms} o) = local_labels_in_turn t f registers v p ms low o

pub offered_is_step : OfferedIsStep
offered_is_step t f g registers freqs v ms run o s = splits v ms (labels-agree t f registers freqs v run.lowered o) s

pub offered_is_in_turn : OfferedIsInTurn
offered_is_in_turn t f registers freqs v ms run o = labels-in-turn t f registers freqs v run.lowered o
