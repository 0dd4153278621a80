-- A writable function stays writable.
use Rattle.std.specs.Prelude.{◌≡◌, ◌≤◌, ℕ, Bool, List, true, length, is_some, [], Some}
use Rattle.target_base.specs.declared.types.Target.{Target}
use Rattle.target_base.specs.Registers.{IsReg}
use Rattle.target_base.specs.declared.types.Reg.{Reg}
use Rattle.meaning.specs.Live.{Among as Member}
use Rattle.target_base.specs.declared.types.ClassId.{ClassId}
use Rattle.mir_func.specs.declared.func.Block.{Block}
use Rattle.mir_func.specs.declared.func.Instr.{Instr}
use Rattle.mir_func.specs.Binding.{class_of, effect_of}
use Rattle.mir_func.specs.Value.{Function}
use Rattle.mir_meaning.specs.declared.Form.TheVariants as forms
use Rattle.mir_meaning.specs.Valid.{IsValid}
use Rattle.phi_elim.specs.Phis.{phis_lowered}
use Rattle.two_address.specs.Lowered.{lowered, ties_lowered}
use Rattle.lowering_laws.specs.Shapes.{IsLowered}
use Rattle.live_edits.specs.declared.fold.Join.{Join}
use Rattle.live_edits.specs.Folded.{folded}
use Rattle.join_laws.specs.Joined.{Joined, Joins}
use Rattle.join_laws.specs.Laws.{HasPlainUndefs}
use Rattle.live_lanes.specs.declared.ask.labels.Mark.{Mark}
use Rattle.rewriter.specs.Physical.{Assignment, physical_form}
use Rattle.spiller.specs.Slots.{Slots, own_slot}
use Rattle.spiller.specs.Spilled.{IsSpilled}
use Rattle.split_kit.specs.Split.{Split}
use Rattle.writable_laws.specs.Writable.{HasHead, IsWritable, most_number}

-- a valid source without its phis, where its ranges still have numbers
abbrev pub PhisStayWritable : Type 0
PhisStayWritable = (t : Target) (f : Function) → IsValid t forms.Source f → IsWritable t f → length (phis_lowered t f).classes ≤ 2147483648 → IsWritable t (phis_lowered t f)

-- A function whose opcodes are known in two-address form, where that is in lowered form and its ranges have numbers.
abbrev pub TiesStayWritable : Type 0
TiesStayWritable =
    (t : Target) (f : Function) → ((b : Block) (i : Instr) → Member b f.blocks → Member i b.instrs → is_some (effect_of t i) ≡ true) → IsLowered t (ties_lowered t f) → IsWritable t f
    → length (ties_lowered t f).classes ≤ 2147483648 → IsWritable t (ties_lowered t f)

-- a valid source behind both
abbrev pub LoweredStaysWritable : Type 0
LoweredStaysWritable = (t : Target) (f : Function) → IsValid t forms.Source f → IsWritable t f → length (lowered t f).classes ≤ 2147483648 → IsWritable t (lowered t f)

-- a function in lowered form without `undef` definitions and copies of an `undef` source, behind a join
abbrev pub JoinStaysWritable : Type 0
JoinStaysWritable = (t : Target) (f : Function) (id : ℕ) (j : Join) → IsLowered t f → HasPlainUndefs t f → Joins t f id j → IsWritable t f → IsWritable t (folded t j f)

-- and behind all joins, one after the other
abbrev pub JoinedStaysWritable : Type 0
JoinedStaysWritable = (t : Target) (freqs : List ℕ) (f g : Function) (js : List Join) → IsLowered t f → HasPlainUndefs t f → Joined t freqs f js g → IsWritable t f → IsWritable t g

-- A lowered function behind a split, where its ranges still have numbers: a split keeps the lowered form where its labels agree
-- on the ways between blocks.
abbrev pub SplitStaysWritable : Type 0
SplitStaysWritable =
    (t : Target) (f g : Function) (v : ℕ) (ms : List Mark) → IsLowered t f → Split t f v ms g → IsLowered t g → IsWritable t f
    → length g.classes ≤ 2147483648 → IsWritable t g

-- A lowered function behind a spill of a range that has a class, where the slot and its ranges have numbers: a spill keeps the
-- lowered form.
abbrev pub SpillStaysWritable : Type 0
SpillStaysWritable =
    (t : Target) (f g : Function) (slots new : Slots) (v : ℕ) (k : ClassId) (made : List (ℕ × ℕ)) → IsLowered t f → class_of f v ≡ Some k → IsSpilled t f slots v g new made → IsLowered t g
    → IsWritable t f → own_slot slots v ≤ most_number → length g.classes ≤ 2147483648 → IsWritable t g

-- A lowered function in physical form, where its registers are the target's and the answer is valid. Its key lines with those of
-- new slots give its name and frame objects.
abbrev pub PhysicalStaysWritable : Type 0
PhysicalStaysWritable =
    (t : Target) (rs : Assignment) (slots : List (ℕ × ClassId)) (live : ℕ → ℕ → Bool) (f : Function) → IsLowered t f → IsWritable t f
    → ((r : Reg) → Member (Some r) rs → IsReg t r) → HasHead t (physical_form t rs slots live f) → IsValid t forms.Allocated (physical_form t rs slots live f)
    → IsWritable t (physical_form t rs slots live f)

-- Without new slots the key lines stay.
abbrev pub PhysicalWithoutSlots : Type 0
PhysicalWithoutSlots =
    (t : Target) (rs : Assignment) (live : ℕ → ℕ → Bool) (f : Function) → IsLowered t f → IsWritable t f → ((r : Reg) → Member (Some r) rs → IsReg t r)
    → IsValid t forms.Allocated (physical_form t rs [] live f) → IsWritable t (physical_form t rs [] live f)
