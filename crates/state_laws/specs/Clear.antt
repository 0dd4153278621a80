-- Registers of a state of an allocation, and what the lists of a matrix tell of them.
use Rattle.std.specs.Prelude.{◌≡◌, ◌<◌, ℕ, true, cond, length, List, None}
use Rattle.target_base.specs.declared.types.Reg.{Reg}
use Rattle.mir_meaning.specs.Registers.{has_number}
use Rattle.live_lanes.specs.Doing.{IsComputed}
use Rattle.interference.specs.declared.matrix.Clash.TheVariants as clashes
use Rattle.interference.specs.declared.matrix.Matrix.{Matrix}
use Rattle.interference.specs.Clashes.{clash_at, is_free, register_in}
use Rattle.interference.specs.EditedMatrix.{StandsClear}
use Rattle.interference.specs.Listed.{KeepsLists, MayHold}
use Rattle.spiller.specs.Slots.{Slots}
use Rattle.clear_laws.specs.Apart.{SuitsRange}
use Rattle.run_end_laws.specs.Allocating.{IsFreeFor}
use Rattle.run_end_laws.specs.States.{KeepsState}

-- the matrix's function and registers are those of a state of an allocation, and its table is computed for the function
pub record IsOfState (m : Matrix) (s : Slots) : Type 0 where
  pub state : KeepsState m.live.target m.live.func s m.registers.items
  pub computed : IsComputed m.live.target m.live.func m.live.table
  pub blocks : length m.live.func.blocks < 4294967296
  pub registers : length m.registers.items ≡ length m.live.func.classes

-- Then no two ranges hold a unit at one point, as edits ask.
abbrev pub StateStandsClear : Type 0
StateStandsClear = (m : Matrix) (s : Slots) → IsOfState m s → StandsClear m

-- Where its lists are kept and tell that nothing is in the way of a range in a register that suits it, the register is free for it,
abbrev pub FreeIsFreeFor : Type 0
FreeIsFreeFor =
    (m : Matrix) (s : Slots) (v : ℕ) (r : Reg) → IsOfState m s → KeepsLists m → SuitsRange m.live.target m.live.func v r → is_free m v r ≡ true
    → IsFreeFor m.live.target m.live.func m.registers.items v r

-- and the range may be assigned to it.
abbrev pub FreeMayBeHeld : Type 0
FreeMayBeHeld =
    (m : Matrix) (s : Slots) (v : ℕ) (r : Reg) → IsOfState m s → KeepsLists m → SuitsRange m.live.target m.live.func v r → is_free m v r ≡ true → MayHold m v r

-- Where all ranges in its way in a register have lost theirs, nothing is in its way.
abbrev pub EvictedIsFree : Type 0
EvictedIsFree =
    (m n : Matrix) (v : ℕ) (r : Reg) (ws : List ℕ) → KeepsLists m → KeepsLists n → n.live ≡ m.live
    → ((w : ℕ) → register_in n.registers.items w ≡ cond (has_number ws w) None (register_in m.registers.items w))
    → clash_at m v r ≡ clashes.Ranges ws → is_free n v r ≡ true
