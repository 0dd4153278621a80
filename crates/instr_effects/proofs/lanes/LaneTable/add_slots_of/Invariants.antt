use Rattle.std.proofs.Common.{◌≡◌, ℕ, ◌<◌, Some}
use Rattle.std.specs.Prelude.{slice_get}
use Rattle.mir_func.specs.declared.func.Instr.{Instr}
use Rattle.mir_func.specs.Binding.{slot_at}
use Rattle.instr_effects.specs.Numbered.{IsTable, HasSlot}
use Rattle.instr_effects.proofs.lanes.LaneTable.add_slots_of.Given as goal

abbrev pub invariant-instrs : goal.invariant-instrs
invariant-instrs l = record {
  table : IsTable l.initial.self → IsTable l.self;
  reserved : l.self.reserved ≡ l.initial.self.reserved;
  ranges : l.self.ranges ≡ l.initial.self.ranges;
  numbered : (j : ℕ) (i : Instr) (s : ℕ) → j < l.instr-index → slice_get l.instrs j ≡ Some i → slot_at i.operands 1 ≡ Some s → HasSlot l.self s;
  kept : (s : ℕ) → HasSlot l.initial.self s → HasSlot l.self s;
}
