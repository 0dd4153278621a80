use Rattle.std.proofs.Common.{◌≡◌, ◌<◌, ◌≤◌, ℕ, true}
use Rattle.mir_meaning.specs.Registers.{has_number}
use Rattle.spiller.proofs.slot_map.free_from.Given as goal

-- those so far are in the set
abbrev pub invariant-numbers : goal.invariant-numbers
invariant-numbers l = (n : ℕ) → l.first ≤ n → n < l.number → has_number l.taken.keys n ≡ true
