use Rattle.std.proofs.Common.{◌≡◌, ◌++◌, take}
use Rattle.instr_effects.specs.Numbered.{IsTable, counts, class_counts}
use Rattle.instr_effects.proofs.lanes.LaneTable.add_ranges.Given as goal

abbrev pub invariant-classes : goal.invariant-classes
invariant-classes l = record {
  table : IsTable l.initial.self → IsTable l.self;
  reserved : l.self.reserved ≡ l.initial.self.reserved;
  ranges : counts l.self.ranges.items ≡ counts l.initial.self.ranges.items ++ class_counts l.target (take l.class-index l.classes);
  slots : l.self.slots ≡ l.initial.self.slots;
}
