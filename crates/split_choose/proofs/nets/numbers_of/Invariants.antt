use Rattle.std.proofs.Common.{◌≡◌, ◌+◌, ◌≤◌, ◌<◌, ◌++◌, length, drop}
use Rattle.split_choose.specs.Nets.{ranks}
use Rattle.split_choose.proofs.nets.numbers_of.Given as goal

abbrev pub invariant-flags : goal.invariant-flags
invariant-flags l = l.first + length l.flags < 4294967296 → (l.next ≤ l.first + l.flag-index) × (l.numbers.items ++ ranks l.next (drop l.flag-index l.flags) ≡ ranks l.first l.flags)
