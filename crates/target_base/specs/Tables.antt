-- What a row of a table stands for.
use Rattle.std.specs.Prelude.{ℕ, List}
use Rattle.std.specs.Borrow.{Bor}
use Rattle.target_base.specs.declared.types.Unit.{Unit as UnitNumber}
use Rattle.target_base.specs.declared.types.Reg.{Reg}
use Rattle.target_base.specs.declared.types.Effect.{Effect}
use Rattle.target_base.specs.declared.types.Role.{Role}
use Rattle.target_base.specs.declared.types.UnitDesc.{UnitDesc}
use Rattle.target_base.specs.declared.types.RegDesc.{RegDesc}
use Rattle.target_base.specs.declared.types.IndexDesc.{IndexDesc}
use Rattle.target_base.specs.declared.types.ClassDesc.{ClassDesc}
use Rattle.target_base.specs.declared.types.OpcodeDesc.{OpcodeDesc}

abbrev pub unit_row : Bor (List ℕ) × ℕ → UnitDesc
unit_row r = record { name = r.0.now; width = r.1 }

abbrev pub reg_row : Bor (List ℕ) × Bor (List UnitNumber) → RegDesc
reg_row r = record { name = r.0.now; units = r.1.now }

abbrev pub index_row : Bor (List ℕ) × Bor (List ℕ) → IndexDesc
index_row r = record { name = r.0.now; lanes = r.1.now }

abbrev pub class_row : Bor (List ℕ) × Bor (List Reg) → ClassDesc
class_row r = record { name = r.0.now; regs = r.1.now }

abbrev pub opcode_row : Bor (List ℕ) × Effect × Bor (List Role) → OpcodeDesc
opcode_row r = record { name = r.0.now; effect = r.1; roles = r.2.now }
