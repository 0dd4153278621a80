use Rattle.std.proofs.Common.{◌≡◌, false, length}
use Rattle.std.specs.List.{list_any}
use Rattle.interference.specs.Parts.{has_parts}
use Rattle.interference.proofs.unit_table.empty_unit.Given as goal

abbrev pub invariant-each : goal.invariant-each
invariant-each l = record {
  none : list_any has_parts l.lists.items ≡ false;
  count : length l.lists.items ≡ l.counter;
}
