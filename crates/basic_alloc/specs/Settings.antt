-- What the choice of the basic allocator is made by in the code's terms.
use Rattle.std.specs.Prelude.{ℕ, List, length, Option, Some, None}
use Rattle.interference.specs.declared.matrix.Matrix.{Matrix}
use Rattle.evictor.specs.declared.choice.Eviction.{Eviction}
use Rattle.evictor.specs.Cheapest.{Setting}
use Rattle.evictor.specs.Settings.{facts_of}
use Rattle.basic_alloc.specs.declared.choice.Choice.{Choice}
use Rattle.basic_alloc.specs.declared.choice.Choice.TheVariants as choices
use Rattle.basic_alloc.specs.Basic.{tiny_ranking}

-- what the choice for a range is made by, where these are the tinies
abbrev pub basic_setting : Matrix → List ℕ → List ℕ → ℕ → Setting
basic_setting m freqs tinies v =
    record { func = m.live.func; freqs = freqs; ranking = tiny_ranking (length m.live.func.classes) tinies; range = v; facts = facts_of m v }

-- the choice where no register is free
abbrev pub ousting_by : Option Eviction → Choice
ousting_by None = choices.Neither
ousting_by (Some e) = choices.Oust e.register e.victims
