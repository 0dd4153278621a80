use Rattle.std.proofs.Common.{◌≡◌, true, false, length}
use Rattle.std.specs.List.{list_any, list_all}
use Rattle.interference.specs.Parts.{has_lists}
use Rattle.interference.specs.Wide.{is_wide}
use Rattle.interference.proofs.unit_table.UnitTable.new.Given as goal

abbrev pub invariant-each : goal.invariant-each
invariant-each l = record {
  none : list_any has_lists l.all.items ≡ false;
  count : length l.all.items ≡ l.counter;
  wide : list_all (is_wide l.blocks) l.all.items ≡ true;
}
