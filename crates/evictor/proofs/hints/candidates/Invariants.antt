use Rattle.std.proofs.Common.{◌≡◌, ◌++◌, take}
use Rattle.std.specs.Prelude.{filter}
use Rattle.evictor.specs.Hints.{follows}
use Rattle.std.specs.Option.{option_to_list}
use Rattle.evictor.proofs.hints.candidates.Given as goal

abbrev pub invariant-regs : goal.invariant-regs
invariant-regs l = l.found.items ≡ option_to_list l.first ++ filter (follows l.fn.m.live.target l.first) (take l.r-index l.r-items)
