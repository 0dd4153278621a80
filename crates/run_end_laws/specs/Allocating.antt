-- A whole allocation: the ranges of a prepared function get registers and lose them, are split and are spilled.
use Rattle.std.specs.Prelude.{◌≡◌, ◌≢◌, ◌+◌, ◌<◌, ℕ, length, List, None, Some}
use Rattle.target_base.specs.declared.types.Reg.{Reg}
use Rattle.target_base.specs.declared.types.Unit.{Unit as UnitNumber}
use Rattle.target_base.specs.declared.types.Target.{Target}
use Rattle.mir_func.specs.Value.{Function}
use Rattle.mir_meaning.specs.declared.Form.TheVariants as forms
use Rattle.mir_meaning.specs.Points.{RangesClash, UnitClash}
use Rattle.mir_meaning.specs.Registers.{numbers}
use Rattle.mir_meaning.specs.Valid.{IsValid}
use Rattle.live_lanes.specs.declared.ask.labels.Mark.{Mark}
use Rattle.live_laws.specs.Effects.Shaped.{AreClasses}
use Rattle.two_address.specs.Lowered.{lowered}
use Rattle.live_edits.specs.declared.fold.Join.{Join}
use Rattle.join_laws.specs.Joined.{Joined}
use Rattle.spiller.specs.Slots.{Slots}
use Rattle.spiller.specs.Spilled.{IsSpilled}
use Rattle.split_kit.specs.Split.{Split, greatest_label}
use Rattle.split_laws.specs.Laws.{LabelsAgree}
use Rattle.rewriter.specs.Physical.{Assignment, register_of}
use Rattle.clear_laws.specs.Apart.{ChangesOne, Extends, SuitsRange}
use Rattle.ready_laws.specs.Frames.{AreFirst}
use Rattle.sibling_laws.specs.Splits.{with_parts}
use Rattle.sibling_laws.specs.Steps.{IsReachedFrom}

-- f is a valid source with a block and the target's classes, lowered, with its copies joined; no slot is given yet, and each range
-- is its own original.
pub record IsPrepared (t : Target) (freqs : List ℕ) (source : Function) (js : List Join) (f : Function) (s : Slots) : Type 0 where
  pub valid : IsValid t forms.Source source
  pub classes : AreClasses t source
  pub block : 0 < length source.blocks
  pub joined : Joined t freqs (lowered t source) js f
  pub first : AreFirst f s
  pub own : s.originals ≡ numbers 0 (length f.classes)

-- the register suits the range, which clashes in it with no range that has a register, and with no unit
pub record IsFreeFor (t : Target) (f : Function) (rs : Assignment) (v : ℕ) (r : Reg) : Type 0 where
  pub suits : SuitsRange t f v r
  pub ranges : (w : ℕ) (q : Reg) → v ≢ w → register_of rs w ≡ Some q → RangesClash t f v r w q → ⊥
  pub units : (u : UnitNumber) → UnitClash t f v r u → ⊥

-- v is a range of the function and has no register; ranges of the function have what they had, and further ones have none
pub record GivesNone (f : Function) (rs : Assignment) (v : ℕ) (new : Assignment) : Type 0 where
  pub inside : v < length f.classes
  pub none : register_of rs v ≡ None
  pub others : Extends f rs new

-- One step, with the slots and the registers of ranges before it and behind it: a range gets a register that is free for it; a
-- range loses its register; a range without register is split by labels that agree on the ways between blocks, and its parts
-- have its original; or a range without register is spilled.
pub data IsAllocationStep (t : Target) (f : Function) (s : Slots) (rs : Assignment) : Function → Slots → Assignment → Type 0 where
  assigns : {new : Assignment} → (v : ℕ) (r : Reg) → IsFreeFor t f rs v r → ChangesOne rs v (Some r) new → IsAllocationStep t f s rs f s new
  unassigns : {new : Assignment} → (v : ℕ) → ChangesOne rs v None new → IsAllocationStep t f s rs f s new
  splits : {g : Function} {r : Slots} {new : Assignment} → (v : ℕ) (ms : List Mark) → GivesNone f rs v new → LabelsAgree t f v ms → Split t f v ms g → r ≡ with_parts s v (greatest_label ms + 1) → IsAllocationStep t f s rs g r new
  spills : {g : Function} {r : Slots} {new : Assignment} → (v : ℕ) (made : List (ℕ × ℕ)) → GivesNone f rs v new → IsSpilled t f s v g r made → IsAllocationStep t f s rs g r new

-- The functions to which such steps lead from f, one after the other, with the slots and the registers of ranges then. At first no
-- range has a register.
pub data IsAllocating (t : Target) (f : Function) (s : Slots) : Function → Slots → Assignment → Type 0 where
  start : {rs : Assignment} → ((v : ℕ) → register_of rs v ≡ None) → IsAllocating t f s f s rs
  step : {g h : Function} {r q : Slots} {rs new : Assignment} → IsAllocating t f s g r rs → IsAllocationStep t g r rs h q new → IsAllocating t f s h q new

-- but for registers, such steps are those of a run
abbrev pub AllocatingIsReached : Type 0
AllocatingIsReached = (t : Target) (f g : Function) (s r : Slots) (rs : Assignment) → IsAllocating t f s g r rs → IsReachedFrom t f s g r
