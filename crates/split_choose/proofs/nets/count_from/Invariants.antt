use Rattle.std.proofs.Common.{◌≡◌, ◌+◌, ◌≤◌, ◌<◌, length, drop}
use Rattle.split_choose.specs.Nets.{inside_count}
use Rattle.split_choose.proofs.nets.count_from.Given as goal

abbrev pub invariant-rows : goal.invariant-rows
invariant-rows l = l.first + length l.rows < 4294967296 → (l.count ≤ l.first + l.row-index) × (l.count + inside_count (drop l.row-index l.rows) ≡ l.first + inside_count l.rows)
