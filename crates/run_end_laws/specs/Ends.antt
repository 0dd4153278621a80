-- The end of an allocation, where each range that is named has a register.
use Rattle.std.specs.Prelude.{◌≡◌, ◌≤◌, ℕ, Bool, true, length, map, List, IsSome}
use Rattle.target_base.specs.declared.types.ClassId.{ClassId}
use Rattle.target_base.specs.declared.types.Target.{Target}
use Rattle.meaning.specs.Live.{Among as Member}
use Rattle.mir_func.specs.declared.func.Instr.{Instr}
use Rattle.mir_func.specs.declared.func.Block.{Block}
use Rattle.mir_func.specs.Value.{Function}
use Rattle.mir_meaning.specs.declared.Form.TheVariants as forms
use Rattle.mir_meaning.specs.Codes.{refines}
use Rattle.mir_meaning.specs.Valid.{IsValid}
use Rattle.live_lanes.specs.declared.live.LiveFunc.{LiveFunc}
use Rattle.live_lanes.specs.Doing.{IsComputed}
use Rattle.live_edits.specs.declared.fold.Join.{Join}
use Rattle.live_edits.specs.Folded.{names_range}
use Rattle.spiller.specs.Slots.{Slots}
use Rattle.rewriter.specs.LiveUnits.{is_live_unit}
use Rattle.rewriter.specs.Physical.{Assignment, physical_form, register_of}
use Rattle.clear_laws.specs.Spills.{HasEarlyReload}
use Rattle.slot_laws.specs.Homes.{AreHomes, function_moved}
use Rattle.ready_laws.specs.Frames.{slot_numbers}
use Rattle.run_end_laws.specs.Allocating.{IsAllocating, IsPrepared}

-- each range that is named has a register
abbrev pub AreAssigned : Function → Assignment → Type 0
AreAssigned f rs = (b : Block) (i : Instr) (v : ℕ) → Member b f.blocks → Member i b.instrs → names_range v i ≡ true → IsSome (register_of rs v)

-- In physical form, by the registers of ranges then, the function does what the source does, whatever units are told at the starts
-- of blocks, and whatever slots are declared.
abbrev pub AllocatedRefines : Type 0
AllocatedRefines =
    (t : Target) (freqs : List ℕ) (source f g : Function) (js : List Join) (s r : Slots) (rs : Assignment) (slots : List (ℕ × ClassId)) (live : ℕ → ℕ → Bool)
    → (HasEarlyReload t → ⊥) → IsPrepared t freqs source js f s → IsAllocating t f s g r rs → AreAssigned g rs → refines t source (physical_form t rs slots live g)

-- And it is valid as an allocated function, with the units that are found live by a computed table, and with slots of the numbers
-- that were given.
abbrev pub AllocatedIsValid : Type 0
AllocatedIsValid =
    (live : LiveFunc) (freqs : List ℕ) (source f : Function) (js : List Join) (s r : Slots) (rs : Assignment) (slots : List (ℕ × ClassId))
    → (HasEarlyReload live.target → ⊥) → IsPrepared live.target freqs source js f s → IsAllocating live.target f s live.func r rs → AreAssigned live.func rs
    → map (λ p. p.0) slots ≡ slot_numbers r → IsComputed live.target live.func live.table → length rs ≤ 4294967296
    → IsValid live.target forms.Allocated (physical_form live.target rs slots (is_live_unit live rs) live.func)

-- So it is behind that where slots go to others: it does what the source does, and is valid.
abbrev pub MovedIsCorrect : Type 0
MovedIsCorrect =
    (live : LiveFunc) (freqs : List ℕ) (source f : Function) (js : List Join) (s r : Slots) (rs : Assignment) (slots : List (ℕ × ClassId)) (home : ℕ → ℕ) (head : List ℕ)
    → (HasEarlyReload live.target → ⊥) → IsPrepared live.target freqs source js f s → IsAllocating live.target f s live.func r rs → AreAssigned live.func rs
    → map (λ p. p.0) slots ≡ slot_numbers r → IsComputed live.target live.func live.table → length rs ≤ 4294967296
    → let g = physical_form live.target rs slots (is_live_unit live rs) live.func in AreHomes live.target g home
    → refines live.target source (function_moved home head g) × IsValid live.target forms.Allocated (function_moved home head g)
