-- Steps as the items that they are made from.
use Rattle.std.specs.Prelude.{ℕ, List, [], map, option_map, Option, Some, cond, nat_eq}
use Rattle.meaning.specs.Code.{Edge, Item, BlockStart, BlockEnd, Silent, Counted, Code}
use Rattle.mir_interp.specs.declared.steps.PhiEdge.{PhiEdge}
use Rattle.mir_interp.specs.declared.steps.DecodedStep.{DecodedStep}
use Rattle.mir_interp.specs.declared.steps.DecodedStep.TheVariants as steps

abbrev pub edge_of : PhiEdge → Edge
edge_of w = record { block = w.block; phis = w.phis }

abbrev pub item_of_step : DecodedStep → Item
item_of_step (steps.Start n) = BlockStart n
item_of_step (steps.End falls) = BlockEnd falls []
item_of_step (steps.Silent ws) = Silent [] ws
item_of_step (steps.Counted r reads ws target) = Counted r reads ws (option_map edge_of target) []

abbrev pub code_of_steps : List DecodedStep → Code
code_of_steps ss = map item_of_step ss

-- an item without what liveness alone asks for
abbrev pub bare : Item → Item
bare (BlockStart n) = BlockStart n
bare (BlockEnd falls exits) = BlockEnd falls []
bare (Silent reads ws) = Silent [] ws
bare (Counted r reads ws target exits) = Counted r reads ws target []

-- where the start of block n is found, given where it is found behind this item, which ends at this place
abbrev pub noted : Item → ℕ → ℕ → Option ℕ → Option ℕ
noted (BlockStart m) behind n later = cond (nat_eq m n) (Some behind) later
noted (BlockEnd falls exits) behind n later = later
noted (Silent reads ws) behind n later = later
noted (Counted r reads ws target exits) behind n later = later
