use Rattle.std.proofs.Common.{◌≡◌, ◌++◌, drop}
use Rattle.watchers.specs.Lines.{ranges_text}
use Rattle.watchers.proofs.text.put_ranges.Given as goal

-- what is written, and what is left to write, are the whole
abbrev pub invariant-written : goal.invariant-written
invariant-written l = l.out ++ ranges_text (drop l.v-index l.ranges) ≡ l.fn.out ++ ranges_text l.ranges
