-- Where ranges are live at borders, and labels of blocks, as they are met along the layout.
use Rattle.std.specs.Prelude.{ℕ, ◌+◌, min, Bool, false, cond, not, ◌&&◌, ◌||◌, nat_eq, nat_lt, List, [], ◌∷◌, ◌++◌, filter, length, Option, None, Some, slice_get}
use Rattle.std.specs.List.{list_any}
use Rattle.target_base.specs.declared.types.Target.{Target}
use Rattle.mir_func.specs.declared.func.Block.{Block}
use Rattle.mir_func.specs.Binding.{does, is_terminator}
use Rattle.live_lanes.specs.declared.ask.labels.Mark.{Mark}
use Rattle.live_lanes.specs.declared.table.Table.{Table}
use Rattle.live_lanes.specs.Graph.{is_live}
use Rattle.live_lanes.specs.Entered.{causes, cells_of}
use Rattle.live_lanes.specs.Touching.{some_lane, leaves_block}
use Rattle.split_choose.specs.declared.blocks.LabelBuilder.{LabelBuilder}
use Rattle.split_choose.specs.declared.places.TouchedPlace.{TouchedPlace}
use Rattle.split_choose.specs.Offers.{first_id, at_gap}

-- there is a block at the position, and the range is live at its start or its end
abbrev pub at_border : Table → List Block → ℕ → ℕ → Bool
at_border x bs v k = nat_lt k (length bs) && (some_lane x v (λ l. is_live (causes x.rows.rows.items l k 0)) || leaves_block x v k (slice_get bs k))

-- one of the blocks that the lane is in has such a border
abbrev pub lane_at_border : Table → List Block → ℕ → ℕ → Bool
lane_at_border x bs v l = list_any (λ c. at_border x bs v c.block) (cells_of x.rows.rows.items l)

-- there is a number, and it passes the test
abbrev pub some_at : (ℕ → Bool) → Option ℕ → Bool
some_at test None = false
some_at test (Some n) = test n

abbrev pub is_at : Option ℕ → ℕ → Bool
is_at None k = false
is_at (Some n) k = nat_eq n k

-- the place is in the block of the last one, but not in that of the one before
abbrev pub is_second : LabelBuilder → ℕ → Bool
is_second s k = is_at s.last k && not (is_at s.before k)

-- from the first gap of a block to before its terminators
abbrev pub block_pair : Target → Option Block → ℕ → List Mark
block_pair t None label = []
block_pair t (Some b) label = at_gap b.number (first_id b.instrs) label ∷ at_gap b.number (first_id (filter (does is_terminator t) b.instrs)) 0 ∷ []

-- the next label, for the block at a position
abbrev pub block_labelled : Target → List Block → LabelBuilder → ℕ → LabelBuilder
block_labelled t bs s k = record s { labels = s.labels ++ block_pair t (slice_get bs k) (min (s.label + 1) 65535); label = min (s.label + 1) 65535 }

abbrev pub moved : ℕ → LabelBuilder → LabelBuilder
moved k s = record s { last = Some k; before = s.last }

-- one more place; the block of the second one that isn't its terminators gets a label
abbrev pub labelled : Target → List Block → LabelBuilder → TouchedPlace → LabelBuilder
labelled t bs s p = cond p.is_end s (moved p.position (cond (is_second s p.position) (block_labelled t bs s p.position) s))
