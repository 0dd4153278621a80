use Rattle.std.proofs.Common.{◌≡◌, ◌≤◌, true, drop, length}
use Rattle.target_base.specs.Names.{are_distinct_numbers}
use Rattle.machine_verify.specs.Sets.{Holds}
use Rattle.machine_verify.proofs.numbers.are_distinct.Given as goal

abbrev pub invariant-numbers : goal.invariant-numbers
invariant-numbers l = record {
  within : l.k ≤ length l.ns;
  holds : Holds l.later (drop l.k l.ns);
  apart : are_distinct_numbers (drop l.k l.ns) ≡ true;
}

abbrev pub decreases-numbers : goal.decreases-numbers
decreases-numbers l = l.k
