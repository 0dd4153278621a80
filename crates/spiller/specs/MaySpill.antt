-- What spilling asks of a function with what is live in it.
use Rattle.std.specs.Prelude.{◌≡◌, ◌<◌, ℕ, true, false, is_some, length, Option}
use Rattle.target_base.specs.declared.types.Role.{Role}
use Rattle.target_base.specs.declared.types.Target.{Target}
use Rattle.meaning.specs.Live.{Among as Member}
use Rattle.mir_func.specs.declared.func.RegOp.{RegOp}
use Rattle.mir_func.specs.declared.func.Operand.TheVariants as operands
use Rattle.mir_func.specs.declared.func.Instr.{Instr}
use Rattle.mir_func.specs.declared.func.Block.{Block}
use Rattle.mir_func.specs.Value.{Function}
use Rattle.mir_func.specs.Binding.{bound, class_of, is_virtual}
use Rattle.mir_meaning.specs.Points.{has_no_phis}
use Rattle.mir_meaning.specs.Rules.{is_free_undef}
use Rattle.live_lanes.specs.declared.table.Table.{Table}
use Rattle.live_lanes.specs.Doing.{IsComputed}
use Rattle.live_laws.specs.Touch.{are_known}
use Rattle.edit_laws.specs.Further.{KeepsLast}
use Rattle.lowering_laws.specs.Form.{is_lowered}
use Rattle.lowering_laws.specs.Named.{TouchesItsRanges}
use Rattle.lowering_laws.specs.Shapes.{IsLowered}

-- The table is computed for the function, which is in lowered form, without phis and excluded opcodes; each `undef` use is tied or a
-- physical register; no instruction names a range in `undef` uses alone; and the range is one of its.
pub record MaySpill (t : Target) (f : Function) (x : Table) (v : ℕ) : Type 0 where
  pub computed : IsComputed t f x
  pub lowered : IsLowered t f
  pub instrs : (b : Block) (i : Instr) → Member b f.blocks → Member i b.instrs → is_lowered t i ≡ true
  pub undefs : (b : Block) (i : Instr) → Member b f.blocks → Member i b.instrs → (r : Option Role) (o : RegOp) → Member (r, operands.Reg o) (bound t i) → is_free_undef (r, operands.Reg o) ≡ true → is_virtual o.loc ≡ false
  pub named : (b : Block) (i : Instr) → Member b f.blocks → Member i b.instrs → TouchesItsRanges i
  pub last : KeepsLast t f
  pub phis : has_no_phis t f.blocks ≡ true
  pub known : are_known t f.blocks ≡ true
  pub blocks : length f.blocks < 4294967296
  pub class : is_some (class_of f v) ≡ true
