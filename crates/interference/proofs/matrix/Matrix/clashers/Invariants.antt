use Rattle.std.proofs.Common.{◌≡◌, ◌<◌, ◌≤◌, ◌*◌, ℕ, length, drop}
use Rattle.std.specs.Prelude.{◌||◌}
use Rattle.std.specs.List.{list_any}
use Rattle.target_base.specs.Registers.{units_of}
use Rattle.interference.specs.Clashes.{IsOrdered, is_fixed_at, are_taken, is_in_way, is_fixed, range_points}
use Rattle.interference.specs.Marked.{is_marked}
use Rattle.interference.proofs.matrix.Matrix.clashers.Given as goal

-- what is left and what is marked are all that is to be marked
abbrev pub invariant-units : goal.invariant-units
invariant-units l = record {
  place : l.k ≡ l.u-index;
  room : length l.self.registers.items ≤ length l.marks.words.items * 64;
  fixed : IsOrdered l.self → list_any (is_fixed_at l.self) (range_points l.self.live.table l.v l.u-index (drop l.u-index (units_of l.self.live.target l.fn.p))) ≡ is_fixed l.self l.v l.fn.p;
  marked : IsOrdered l.self → (w : ℕ) → w < length l.marks.words.items * 64 → (are_taken l.self l.v (range_points l.self.live.table l.v l.u-index (drop l.u-index (units_of l.self.live.target l.fn.p))) w || is_marked l.marks.words.items w) ≡ is_in_way l.self l.v l.fn.p w;
}
