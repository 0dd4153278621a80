use Rattle.std.proofs.Common.{◌≡◌, ℕ, ◌<◌, Some}
use Rattle.std.specs.Prelude.{slice_get}
use Rattle.mir_func.specs.declared.func.Block.{Block}
use Rattle.instr_effects.specs.Numbered.{IsTable, HasSlotsOf}
use Rattle.instr_effects.proofs.lanes.LaneTable.add_slots.Given as goal

abbrev pub invariant-all : goal.invariant-all
invariant-all l = record {
  table : IsTable l.initial.self → IsTable l.self;
  reserved : l.self.reserved ≡ l.initial.self.reserved;
  ranges : l.self.ranges ≡ l.initial.self.ranges;
  numbered : (k : ℕ) (b : Block) → k < l.block-index → slice_get l.blocks k ≡ Some b → HasSlotsOf l.self b.instrs;
}
