-- What is live for the sake of a piece that fell takes another cause, or falls too.
use Rattle.std.specs.Prelude.{◌≡◌, List, [], ◌∷◌, ◌++◌, Some, map}
use Rattle.mir_meaning.specs.Paths.{Among, Code}
use Rattle.live_lanes.specs.declared.compute.flow.BlockFlow.{BlockFlow}
use Rattle.live_lanes.specs.declared.row.LaneRange.{LaneRange}
use Rattle.live_edits.specs.declared.pieces.PieceSpot.{PieceSpot}
use Rattle.live_lanes.specs.Table.{Numbers}
use Rattle.live_lanes.specs.Entered.{causes, IsTableOf}
use Rattle.edit_laws.specs.Chains.{Node}
use Rattle.edit_laws.specs.Reasons.{ReasonFor, cause_of, Touched}
use Rattle.edit_laws.specs.Update.{Falls, falling, Request}
use Rattle.live_edits.specs.declared.pieces.Need.{Need}
use Rattle.live_edits.specs.Pieces.{nodes_of, requests_of}

abbrev pub spots_of : List Need → List PieceSpot
spots_of needs = map (λ n. n.spot) needs

-- each of these is a reason that rests on the piece
abbrev pub AllLeadTo : Code → Node → List Need → Type 0
AllLeadTo code m needs = (r : Request) → Among r (requests_of needs) → ReasonFor code r.node r.cause (Some m)

-- What was live for these reasons, which rest on a piece that fell, took a cause that rests on none, or fell too. None of them is a
-- cause any more.
pub record LosesAll (old new : List LaneRange) (needs : List Need) (first fallen : List PieceSpot) : Type 0 where
  pub more : List PieceSpot
  pub list : fallen ≡ first ++ more
  pub falls : (touched : Touched) (code : Code) (slots : Numbers) (flow : List BlockFlow) (m : Node) (ws asked : List Node) → IsTableOf code slots flow old → AllLeadTo code m needs → Falls touched code (falling (causes old) [] (m ∷ ws) asked) (falling (causes new) [] ((m ∷ ws) ++ nodes_of more) (asked ++ nodes_of more))
  pub lost : (code : Code) (slots : Numbers) (flow : List BlockFlow) (m : Node) → IsTableOf code slots flow old → AllLeadTo code m needs → (r : Request) → Among r (requests_of needs) → cause_of (causes new) r.node ≡ r.cause → ⊥
