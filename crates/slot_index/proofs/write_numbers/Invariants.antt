use Rattle.std.proofs.Common.{◌≡◌, ◌<◌, length}
use Rattle.std.specs.List.{AllByRecursion}
use Rattle.slot_index.specs.Order.{ids}
use Rattle.slot_index.specs.Renewed.{written}
use Rattle.slot_index.proofs.write_numbers.Given as goal

abbrev pub invariant-slots : goal.invariant-slots
invariant-slots l = record {
  rest_within : AllByRecursion (λ id. id < length l.numbers.items) (ids l.number-iterator);
  so_far : written l.number-iterator l.numbers.items ≡ written l.slots.entries l.initial.numbers.items;
}
