use Rattle.std.proofs.Common.{◌≡◌, ◌+◌, ◌≤◌, ◌<◌, length, drop}
use Rattle.split_choose.specs.Nets.{set_count}
use Rattle.split_choose.proofs.nets.number_behind.Given as goal

abbrev pub invariant-flags : goal.invariant-flags
invariant-flags l = l.first + length l.flags < 4294967296 → (l.next ≤ l.first + l.flag-index) × (l.next + set_count (drop l.flag-index l.flags) ≡ l.first + set_count l.flags)
