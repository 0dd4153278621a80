use Rattle.std.proofs.Common.{◌≡◌, ◌*◌, ◌+◌, ◌++◌, drop}
use Rattle.slot_index.specs.Renewed.{spaced}
use Rattle.slot_index.specs.declared.TheConstants.{SPACING}
use Rattle.slot_index.proofs.Ordered.{AllBelow}
use Rattle.slot_index.proofs.number_all.Given as goal

abbrev pub invariant-ids : goal.invariant-ids
invariant-ids l = record {
  number_is : l.number ≡ l.id-index * SPACING;
  below : AllBelow (l.number + 1) l.id_by_number.entries;
  so_far : l.id_by_number.entries ++ spaced SPACING l.number (drop l.id-index l.order) ≡ spaced SPACING 0 l.order;
}
