-- Instructions whose registers are renamed: their items are renamed alike. No promise rests on these words; they
-- serve the proofs of passes.
use Rattle.std.specs.Prelude.{◌≡◌, ℕ, true, false, List, [], ◌∷◌, map}
use Rattle.target_base.specs.declared.types.Target.{Target}
use Rattle.meaning.specs.declared.types.Lane.{Lane}
use Rattle.meaning.specs.declared.types.Lane.TheVariants.{UnitLane, SlotLane}
use Rattle.meaning.specs.Code.{Item, BlockStart, BlockEnd, Silent, Counted}
use Rattle.meaning.specs.Matched.{renamed, renamed_reads}
use Rattle.mir_func.specs.declared.func.Loc.{Loc}
use Rattle.mir_func.specs.declared.func.Loc.TheVariants.{Virtual, Fixed}
use Rattle.mir_func.specs.declared.func.RegOp.{RegOp}
use Rattle.mir_func.specs.declared.func.Operand.{Operand}
use Rattle.mir_func.specs.declared.func.Operand.TheVariants as operands
use Rattle.mir_func.specs.declared.func.Instr.{Instr}
use Rattle.mir_func.specs.declared.func.Block.{Block}
use Rattle.mir_func.specs.Value.{Function}
use Rattle.mir_func.specs.Binding.{does, puts_together}
use Rattle.mir_meaning.specs.Registers.{operand_lanes, operand_widths, undefined_lanes}
use Rattle.mir_meaning.specs.Codes.{item_of, way, ways_out}

-- an operand with another register, where it is one
abbrev pub renamed_operand : (RegOp → RegOp) → Operand → Operand
renamed_operand r (operands.Reg o) = operands.Reg (r o)
renamed_operand r o = o

-- the instruction with other registers
abbrev pub renamed_instr : (RegOp → RegOp) → Instr → Instr
renamed_instr r i = record i { operands = map (renamed_operand r) i.operands }

-- an item with other lanes
abbrev pub renamed_item : (Lane → Lane) → Item → Item
renamed_item m (BlockStart n) = BlockStart n
renamed_item m (BlockEnd falls exits) = BlockEnd falls exits
renamed_item m (Silent reads ws) = Silent (renamed_reads m reads) (renamed m ws)
renamed_item m (Counted r reads ws target exits) = Counted r (renamed_reads m reads) (renamed m ws) target exits

-- the location is a physical register
abbrev pub IsFixed : Loc → Type 0
IsFixed (Virtual v) = ⊥
IsFixed (Fixed r) = Unit {0}

-- in function g the renamed operand stands for the images of the operand's lanes in f; implicit operands are
-- physical and stay
pub record Renames (t : Target) (f g : Function) (m : Lane → Lane) (r : RegOp → RegOp) (o : RegOp) : Type 0 where
  pub def : (r o).def ≡ o.def
  pub implicit : (r o).implicit ≡ o.implicit
  pub undef : (r o).undef ≡ o.undef
  pub lanes : operand_lanes t g (r o) ≡ map m (operand_lanes t f o)
  pub widths : operand_widths t g (r o) ≡ operand_widths t f o
  pub others : undefined_lanes t g (r o) ≡ map m (undefined_lanes t f o)
  pub stays : o.implicit ≡ true → r o ≡ o
  pub fixed : o.implicit ≡ true → IsFixed o.loc

-- so do all register operands
abbrev pub RenamesAll : Target → Function → Function → (Lane → Lane) → (RegOp → RegOp) → List Operand → Type 0
RenamesAll t f g m r [] = Unit {0}
RenamesAll t f g m r (operands.Reg o ∷ os) = Renames t f g m r o × RenamesAll t f g m r os
RenamesAll t f g m r (o ∷ os) = RenamesAll t f g m r os

-- units and slots keep their place
pub record KeepsPlaces (m : Lane → Lane) : Type 0 where
  pub units : (u : ℕ) → m (UnitLane u) ≡ UnitLane u
  pub slots : (s k w : ℕ) → m (SlotLane s k w) ≡ SlotLane s k w

-- The item of a renamed instruction is the instruction's item renamed, for all but REG_SEQUENCE and INSERT_SUBREG,
-- where the ways out of its block are those of before.
abbrev pub LawOfRenaming : Type 0
LawOfRenaming =
    (t : Target) (f g : Function) (m : Lane → Lane) (r : RegOp → RegOp) → KeepsPlaces m →
    (b c : Block) → ((n : ℕ) → way t g c.number n ≡ way t f b.number n) → ways_out t g c ≡ ways_out t f b →
    (i : Instr) → does puts_together t i ≡ false → RenamesAll t f g m r i.operands →
    item_of t g c (renamed_instr r i) ≡ renamed_item m (item_of t f b i)
