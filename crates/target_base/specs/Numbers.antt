-- Units, registers, classes, indexes and opcodes by their numbers in a target.
use Rattle.std.specs.Prelude.{ℕ}
use Rattle.target_base.specs.declared.types.Unit.{Unit as UnitNumber}
use Rattle.target_base.specs.declared.types.Reg.{Reg}
use Rattle.target_base.specs.declared.types.ClassId.{ClassId}
use Rattle.target_base.specs.declared.types.IndexId.{IndexId}
use Rattle.target_base.specs.declared.types.OpId.{OpId}

abbrev pub unit_number : ℕ → UnitNumber
unit_number n = record { 0 = n }

abbrev pub reg_number : ℕ → Reg
reg_number n = record { 0 = n }

abbrev pub class_number : ℕ → ClassId
class_number n = record { 0 = n }

abbrev pub index_number : ℕ → IndexId
index_number n = record { 0 = n }

abbrev pub op_number : ℕ → OpId
op_number n = record { 0 = n }
