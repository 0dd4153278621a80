use Rattle.std.proofs.Common.{◌≡◌, ◌≤◌, ◌-◌, ◌++◌, filter, map}
use Rattle.std.specs.List.{range_with_len}
use Rattle.target_base.specs.Numbers.{unit_number}
use Rattle.target_desc.specs.Ending.{reserved_units, belongs}
use Rattle.target_desc.proofs.read.reserved_units.Given as goal

abbrev pub invariant-loop-u : goal.invariant-loop-u
invariant-loop-u l = record {
  within : l.u ≤ l.count;
  same : reserved_units l.count l.regs l.rs ≡ l.made ++ filter (belongs l.regs l.rs) (map unit_number (range_with_len l.u (l.count - l.u)));
}
