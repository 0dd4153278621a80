-- The physical form keeps the rules, one by one.
use Rattle.std.specs.Prelude.{◌≡◌, ◌↔◌, ◌≤◌, ℕ, length, nat_eq, Bool, true, false, List, Some, slice_get}
use Rattle.std.specs.Bool.{beq}
use Rattle.std.specs.List.{list_all, list_any}
use Rattle.target_base.specs.declared.types.ClassId.{ClassId}
use Rattle.target_base.specs.declared.types.Target.{Target}
use Rattle.target_base.specs.Roles.{is_slot}
use Rattle.meaning.specs.Live.{Among as Member}
use Rattle.meaning.specs.declared.types.Lane.TheVariants.{UnitLane}
use Rattle.mir_func.specs.declared.func.Instr.{Instr}
use Rattle.mir_func.specs.declared.func.Block.{Block}
use Rattle.mir_func.specs.Value.{Function}
use Rattle.mir_func.specs.declared.func.Operand.{Operand}
use Rattle.mir_func.specs.declared.func.Operand.TheVariants as operands
use Rattle.mir_func.specs.Binding.{Bound, bound, does, is_lowered_away, passes, tied_pairs}
use Rattle.mir_meaning.specs.Rules.{V1, V2, V3, V4, V5, V6, V8, V9, V10, V11, V12, V15, V15_frame, V16, flags_fit, spills_or_reloads}
use Rattle.mir_meaning.specs.Points.{LiveAt, Start, Tests}
use Rattle.mir_meaning.specs.Valid.{V13, V14, names_virtual}
use Rattle.mir_meaning.specs.declared.Form.TheVariants as forms
use Rattle.live_lanes.specs.declared.live.LiveFunc.{LiveFunc}
use Rattle.live_lanes.specs.Doing.{IsComputed}
use Rattle.lowering_laws.specs.Form.{shares_register}
use Rattle.lowering_laws.specs.Shapes.{IsLowered}
use Rattle.join_laws.specs.Laws.{HasPlainUndefs}
use Rattle.rewriter.specs.LiveUnits.{is_live_unit}
use Rattle.rewriter.specs.Laws.{HoldsLive, KeepsLiveRules}
use Rattle.rewriter.specs.Physical.{Assignment, physical_form}
use Rattle.rewrite_laws.specs.Laws.{IsClear}

-- a function in lowered form whose ranges stand in registers without clashes
pub record StandsClear (t : Target) (f : Function) (rs : Assignment) : Type 0 where
  pub lowered : IsLowered t f
  pub plain : HasPlainUndefs t f
  pub clear : IsClear t f rs

-- each instruction of the function meets the rule
abbrev pub EachMeets : (Function → Instr → Bool) → Function → Type 0
EachMeets rule g = (c : Block) (x : Instr) → Member c g.blocks → Member x c.instrs → rule g x ≡ true

-- the operands of each instruction fit its opcode
abbrev pub PhysicalOperands : Type 0
PhysicalOperands =
    (t : Target) (f : Function) (rs : Assignment) (slots : List (ℕ × ClassId)) (live : ℕ → ℕ → Bool) → StandsClear t f rs
    → EachMeets (λ g x. V1 t g x) (physical_form t rs slots live f)

-- its registers lie in the classes that roles ask for, and what is copied has equal widths
abbrev pub PhysicalWidths : Type 0
PhysicalWidths =
    (t : Target) (f : Function) (rs : Assignment) (slots : List (ℕ × ClassId)) (live : ℕ → ℕ → Bool) → StandsClear t f rs
    → EachMeets (λ g x. V2 t g x) (physical_form t rs slots live f)

-- each virtual register that it names has a class: it names none
abbrev pub PhysicalClasses : Type 0
PhysicalClasses =
    (t : Target) (f : Function) (rs : Assignment) (slots : List (ℕ × ClassId)) (live : ℕ → ℕ → Bool) → StandsClear t f rs
    → EachMeets V3 (physical_form t rs slots live f)

-- its registers have no indexes
abbrev pub PhysicalIndexes : Type 0
PhysicalIndexes =
    (t : Target) (f : Function) (rs : Assignment) (slots : List (ℕ × ClassId)) (live : ℕ → ℕ → Bool) → StandsClear t f rs
    → EachMeets (λ g x. V4 t g x) (physical_form t rs slots live f)

-- no virtual register is named
abbrev pub PhysicalNames : Type 0
PhysicalNames =
    (t : Target) (f : Function) (rs : Assignment) (slots : List (ℕ × ClassId)) (live : ℕ → ℕ → Bool) → StandsClear t f rs
    → list_any names_virtual (physical_form t rs slots live f).blocks ≡ false

-- none is PHI, REG_SEQUENCE or INSERT_SUBREG
abbrev pub PhysicalLowered : Type 0
PhysicalLowered =
    (t : Target) (f : Function) (rs : Assignment) (slots : List (ℕ × ClassId)) (live : ℕ → ℕ → Bool) → StandsClear t f rs
    → (c : Block) (x : Instr) → Member c (physical_form t rs slots live f).blocks → Member x c.instrs → does is_lowered_away t x ≡ false

-- behind a terminator stand terminators only
abbrev pub PhysicalTerminators : Type 0
PhysicalTerminators =
    (t : Target) (f : Function) (rs : Assignment) (slots : List (ℕ × ClassId)) (live : ℕ → ℕ → Bool) → StandsClear t f rs
    → (k : ℕ) (c : Block) (j : ℕ) (x : Instr) → slice_get (physical_form t rs slots live f).blocks k ≡ Some c → slice_get c.instrs j ≡ Some x → V8 t c j x ≡ true

-- the rules on blocks that lowered form doesn't ask for: no block leads to the first; the last ends; none is an entry of a handler
pub record FurtherBlockRules (t : Target) (f : Function) (k : ℕ) (b : Block) : Type 0 where
  pub six : V6 f k b ≡ true
  pub ten : V10 t f k b ≡ true
  pub sixteen : V16 b ≡ true

-- each block keeps them
abbrev pub HasBlockRules : Target → Function → Type 0
HasBlockRules t f = (k : ℕ) (b : Block) → slice_get f.blocks k ≡ Some b → FurtherBlockRules t f k b

-- all rules on a block of an allocated function but that on its live-ins
pub record AllBlockRules (t : Target) (f : Function) (k : ℕ) (b : Block) : Type 0 where
  pub five : V5 f k b ≡ true
  pub six : V6 f k b ≡ true
  pub nine : V9 t f k b ≡ true
  pub ten : V10 t f k b ≡ true
  pub sixteen : V16 b ≡ true

-- where blocks keep the rules, they keep them in physical form
abbrev pub PhysicalBlocks : Type 0
PhysicalBlocks =
    (t : Target) (f : Function) (rs : Assignment) (slots : List (ℕ × ClassId)) (live : ℕ → ℕ → Bool) → StandsClear t f rs → HasBlockRules t f
    → (k : ℕ) (c : Block) → slice_get (physical_form t rs slots live f).blocks k ≡ Some c → AllBlockRules t (physical_form t rs slots live f) k c

-- ties and `early-clobber` that are written are the opcode's
abbrev pub HasFlags : Target → Function → Type 0
HasFlags t f = (b : Block) (i : Instr) → Member b f.blocks → Member i b.instrs → list_all flags_fit (bound t i) ≡ true

-- each tied use has its definition's register and index
abbrev pub HasTies : Target → Function → Type 0
HasTies t f = (b : Block) (i : Instr) → Member b f.blocks → Member i b.instrs → list_all shares_register (tied_pairs t i) ≡ true

-- flags are the opcode's, and tied operands are one register
abbrev pub PhysicalTies : Type 0
PhysicalTies =
    (t : Target) (f : Function) (rs : Assignment) (slots : List (ℕ × ClassId)) (live : ℕ → ℕ → Bool) → StandsClear t f rs → HasFlags t f → HasTies t f
    → EachMeets (λ g x. V11 t forms.Allocated g x) (physical_form t rs slots live f)

-- the frame object of that number is one of the slots
abbrev pub is_given_slot : List (ℕ × ClassId) → ℕ → Bool
is_given_slot slots n = list_any (λ s. nat_eq s.0 n) slots

-- a frame object among the operands is one of the slots exactly where its role is that of a slot
abbrev pub slot_role_fits : List (ℕ × ClassId) → Bound → Bool
slot_role_fits slots (r, operands.Stack n) = beq (passes is_slot r) (is_given_slot slots n)
slot_role_fits slots (r, o) = true

-- the frame has no spill slot, and slot operands name the slots and no others do
pub record HasSlots (t : Target) (f : Function) (slots : List (ℕ × ClassId)) : Type 0 where
  pub frames : V15_frame forms.Source f ≡ true
  pub operands : (b : Block) (i : Instr) → Member b f.blocks → Member i b.instrs → list_all (slot_role_fits slots) (bound t i) ≡ true

-- a frame object among the operands is one of the slots exactly where the instruction is a store to a slot or a reload
abbrev pub slot_effect_fits : Target → List (ℕ × ClassId) → Instr → Operand → Bool
slot_effect_fits t slots i (operands.Stack n) = beq (does spills_or_reloads t i) (is_given_slot slots n)
slot_effect_fits t slots i o = true

-- then it is so by roles
abbrev pub SlotsByEffect : Type 0
SlotsByEffect =
    (t : Target) (f : Function) (slots : List (ℕ × ClassId)) → IsLowered t f → V15_frame forms.Source f ≡ true
    → ((b : Block) (i : Instr) → Member b f.blocks → Member i b.instrs → list_all (slot_effect_fits t slots i) i.operands ≡ true) → HasSlots t f slots

-- slot operands name spill slots, and no others do
abbrev pub PhysicalSlots : Type 0
PhysicalSlots =
    (t : Target) (f : Function) (rs : Assignment) (slots : List (ℕ × ClassId)) (live : ℕ → ℕ → Bool) → StandsClear t f rs → HasSlots t f slots
    → EachMeets (λ g x. V15 t forms.Allocated g x) (physical_form t rs slots live f)

-- its definitions are apart from each other and, where they are early, from uses, and none is `undef`
abbrev pub PhysicalDefinitions : Type 0
PhysicalDefinitions =
    (t : Target) (f : Function) (rs : Assignment) (slots : List (ℕ × ClassId)) (live : ℕ → ℕ → Bool) → StandsClear t f rs
    → EachMeets (λ g x. V12 t forms.Allocated g x) (physical_form t rs slots live f)

-- the units that are live at the start of a block in physical form are those that held something live there
abbrev pub PhysicalLiveUnits : Type 0
PhysicalLiveUnits =
    (t : Target) (f : Function) (rs : Assignment) (slots : List (ℕ × ClassId)) (live : ℕ → ℕ → Bool) → StandsClear t f rs
    → (n u : ℕ) → LiveAt t (physical_form t rs slots live f) (Start n) (UnitLane u) ↔ HoldsLive t f rs n u

-- the test tells which units hold something live at the start of the block at each position
abbrev pub TellsUnits : Target → Function → Assignment → (ℕ → ℕ → Bool) → Type 0
TellsUnits t f rs live = (k : ℕ) (b : Block) → slice_get f.blocks k ≡ Some b → Tests (HoldsLive t f rs b.number) (live k)

-- the units that are found live by a computed table do
abbrev pub FoundUnitsTell : Type 0
FoundUnitsTell =
    (live : LiveFunc) (rs : Assignment) → IsComputed live.target live.func live.table → KeepsLiveRules live.target live.func → length rs ≤ 4294967296
    → TellsUnits live.target live.func rs (is_live_unit live rs)

-- no range is live at the start of the first block, which lists the units that are
pub record HasStart (t : Target) (f : Function) : Type 0 where
  pub starts : V14 t forms.Source f
  pub entry : (b : Block) → slice_get f.blocks 0 ≡ Some b → V13 t forms.Source f 0 b

-- where the first block lists its live units, and no range is live at its start, blocks in physical form list theirs
abbrev pub PhysicalLiveins : Type 0
PhysicalLiveins =
    (t : Target) (f : Function) (rs : Assignment) (slots : List (ℕ × ClassId)) (live : ℕ → ℕ → Bool) → StandsClear t f rs → HasStart t f → TellsUnits t f rs live
    → (k : ℕ) (c : Block) → slice_get (physical_form t rs slots live f).blocks k ≡ Some c → V13 t forms.Allocated (physical_form t rs slots live f) k c
