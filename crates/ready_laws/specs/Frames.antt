-- Frame objects in a run: stores to slots and reloads name the slots that were given, and no other instructions do.
use Rattle.std.specs.Prelude.{◌≡◌, ◌<◌, ℕ, Bool, true, false, cond, length, map, List, []}
use Rattle.std.specs.List.{list_all}
use Rattle.target_base.specs.declared.types.ClassId.{ClassId}
use Rattle.target_base.specs.declared.types.Target.{Target}
use Rattle.meaning.specs.Live.{Among as Member}
use Rattle.mir_func.specs.declared.func.Operand.{Operand}
use Rattle.mir_func.specs.declared.func.Operand.TheVariants as operands
use Rattle.mir_func.specs.declared.func.Instr.{Instr}
use Rattle.mir_func.specs.declared.func.Block.{Block}
use Rattle.mir_func.specs.Value.{Function}
use Rattle.mir_func.specs.Binding.{does}
use Rattle.mir_meaning.specs.declared.Form.TheVariants as forms
use Rattle.mir_meaning.specs.Registers.{has_number}
use Rattle.mir_meaning.specs.Rules.{V15_frame, spills_or_reloads}
use Rattle.mir_meaning.specs.Valid.{IsValid}
use Rattle.live_lanes.specs.declared.ask.labels.Mark.{Mark}
use Rattle.two_address.specs.Lowered.{lowered}
use Rattle.live_edits.specs.declared.fold.Join.{Join}
use Rattle.lowering_laws.specs.Shapes.{IsLowered}
use Rattle.join_laws.specs.Joined.{Joined}
use Rattle.spiller.specs.Slots.{Slots}
use Rattle.spiller.specs.Spilled.{IsSpilled}
use Rattle.split_kit.specs.Split.{Split}
use Rattle.valid_laws.specs.Rules.{HasSlots, is_given_slot}

-- the numbers of the slots that were given
abbrev pub slot_numbers : Slots → List ℕ
slot_numbers s = map (λ p. p.1) s.given

-- a frame object that a store or a reload names is a slot that was given, and one that another instruction names is one of
-- the prepared function
abbrev pub names_own : Target → Slots → Instr → Operand → Bool
names_own t s i (operands.Stack n) = cond (does spills_or_reloads t i) (has_number (slot_numbers s) n) (has_number s.taken n)
names_own t s i o = true

-- The frame has no spill slot; each operand names a frame object of its instruction's kind; and the slots that were given are
-- none of the frame objects of the prepared function.
pub record HasFrames (t : Target) (f : Function) (s : Slots) : Type 0 where
  pub frames : V15_frame forms.Source f ≡ true
  pub operands : (b : Block) (i : Instr) → Member b f.blocks → Member i b.instrs → list_all (names_own t s i) i.operands ≡ true
  pub apart : (n : ℕ) → has_number (slot_numbers s) n ≡ true → has_number s.taken n ≡ false

-- the function has no store to a slot, no reload and no spill slot
pub record HasNoSlots (t : Target) (f : Function) : Type 0 where
  pub frames : V15_frame forms.Source f ≡ true
  pub opcodes : (b : Block) (i : Instr) → Member b f.blocks → Member i b.instrs → does spills_or_reloads t i ≡ false

-- no slot is given yet, and each frame object that an instruction names is one of the prepared function
pub record AreFirst (f : Function) (s : Slots) : Type 0 where
  pub given : s.given ≡ []
  pub taken : (b : Block) (i : Instr) (n : ℕ) → Member b f.blocks → Member i b.instrs → Member (operands.Stack n) i.operands → has_number s.taken n ≡ true

-- a valid source with a block has none of them behind lowering,
abbrev pub LoweredHasNoSlots : Type 0
LoweredHasNoSlots = (t : Target) (f : Function) → IsValid t forms.Source f → 0 < length f.blocks → HasNoSlots t (lowered t f)

-- and so has the function behind all joins
abbrev pub JoinedHasNoSlots : Type 0
JoinedHasNoSlots = (t : Target) (freqs : List ℕ) (f g : Function) (js : List Join) → Joined t freqs f js g → HasNoSlots t f → HasNoSlots t g

-- so a run begins with this
abbrev pub FirstHasFrames : Type 0
FirstHasFrames = (t : Target) (f : Function) (s : Slots) → HasNoSlots t f → AreFirst f s → HasFrames t f s

-- a split keeps it, whatever ranges come from which
abbrev pub SplitKeepsFrames : Type 0
SplitKeepsFrames = (t : Target) (f g : Function) (s : Slots) (v : ℕ) (ms : List Mark) → Split t f v ms g → HasFrames t f s → HasFrames t g s

-- and so does a spill, with the slot that it may give
abbrev pub SpillKeepsFrames : Type 0
SpillKeepsFrames =
    (t : Target) (f g : Function) (slots new : Slots) (v : ℕ) (made : List (ℕ × ℕ)) → IsLowered t f → IsLowered t g → IsSpilled t f slots v g new made
    → HasFrames t f slots → HasFrames t g new

-- then slot operands name the slots that were given, whatever their classes, and no others do
abbrev pub FramesFit : Type 0
FramesFit =
    (t : Target) (f : Function) (s : Slots) (given : List (ℕ × ClassId)) → IsLowered t f → HasFrames t f s
    → ((n : ℕ) → is_given_slot given n ≡ has_number (slot_numbers s) n) → HasSlots t f given
