-- Marks in blocks.
use Rattle.std.specs.Prelude.{ℕ, List, [], ◌∷◌, Option, None, Some}
use Rattle.mir_func.specs.declared.func.Block.{Block}
use Rattle.live_lanes.specs.declared.ask.labels.Mark.{Mark}
use Rattle.split_choose.specs.Offers.{at_start, at_gap}

-- the mark at the start of the block of a number, or at a gap in it
abbrev pub mark_at : ℕ → Option (Option ℕ) → ℕ → Mark
mark_at n None label = at_start n label
mark_at n (Some before) label = at_gap n before label

-- that in a block, if there is one
abbrev pub marks_in : Option Block → Option (Option ℕ) → ℕ → List Mark
marks_in None before label = []
marks_in (Some b) before label = mark_at b.number before label ∷ []
