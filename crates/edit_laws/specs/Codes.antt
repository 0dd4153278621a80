-- The code over numbered lanes of an edited function.
use Rattle.std.specs.Prelude.{◌≡◌, ℕ, Bool, false, List, [], ◌∷◌}
use Rattle.target_base.specs.declared.types.Target.{Target}
use Rattle.meaning.specs.Live.{Among}
use Rattle.mir_func.specs.declared.func.Block.{Block}
use Rattle.mir_func.specs.declared.func.Instr.{Instr}
use Rattle.mir_func.specs.Value.{Function}
use Rattle.mir_func.specs.Edits.{made}
use Rattle.mir_meaning.specs.Paths.{Step, Unused, Into, use_of, is_written}
use Rattle.instr_effects.specs.Steps.{Numbering}
use Rattle.live_lanes.specs.Doing.{doing_of, lane_code}
use Rattle.edit_laws.specs.Edits.{Edit, Put, Replace, Erase, edited, with_op, Stands, KeepsWays, all_edited}
use Rattle.edit_laws.specs.Laws.{KeepAllWays}
use Rattle.edit_laws.specs.Steps.{AreAlike, AreCodes}

-- what an instruction does to lanes by their numbers
abbrev pub step_in : Target → Function → Numbering → Instr → Step
step_in t f num i = (doing_of t f num i).0

-- it uses and writes no lane but those that the test tells
pub record NamesTold (told : ℕ → Bool) (s : Step) : Type 0 where
  pub unused : (l : ℕ) → told l ≡ false → use_of l s ≡ Unused
  pub unwritten : (l : ℕ) → told l ≡ false → is_written l s ≡ false

-- of the other lanes an instruction that comes or goes names none, and one that changes uses and writes them as it did
abbrev pub TellsInstr : (ℕ → Bool) → Target → Function → Numbering → Edit → Type 0
TellsInstr told t f num (Put gap op os) = NamesTold told (step_in t f num (made f.next_id op os))
TellsInstr told t f num (Replace id op os) = (b : Block) (i : Instr) → Stands f id b i → AreAlike told (step_in t f num i) (step_in t f num (with_op op os i))
TellsInstr told t f num (Erase id) = (b : Block) (i : Instr) → Stands f id b i → NamesTold told (step_in t f num i)

-- no other lane is copied into one that the test tells
abbrev pub CopiesApart : (ℕ → Bool) → Target → Function → Numbering → Type 0
CopiesApart told t f num = (b : Block) (i : Instr) → Among b f.blocks → Among i b.instrs → (l a : ℕ) → told l ≡ false → use_of l (step_in t f num i) ≡ Into a → told a ≡ false

-- the test tells all lanes that the edit concerns so, and all that are copied into one of these
pub record TellsEdit (told : ℕ → Bool) (t : Target) (f : Function) (num : Numbering) (e : Edit) : Type 0 where
  pub instr : TellsInstr told t f num e
  pub copied : CopiesApart told t f num

-- Where lanes keep their numbers, the codes of a function and of the edited one differ at the edited instruction alone, and so at lanes
-- that such a test tells.
abbrev pub CodesLaw : Type 0
CodesLaw =
    (t : Target) (f : Function) (e : Edit) (num : Numbering) (told : ℕ → Bool) → KeepsWays t f e → TellsEdit told t f num e
    → AreCodes told (lane_code t f num) (lane_code t (edited f e) num)

-- the test tells the lanes that each edit of the list concerns, in the function as it stands then
abbrev pub TellsEdits : (ℕ → Bool) → Target → Function → Numbering → List Edit → Type 0
TellsEdits told t f num [] = CopiesApart told t f num
TellsEdits told t f num (e ∷ es) = TellsEdit told t f num e × TellsEdits told t (edited f e) num es

-- the same of edits one after the other
abbrev pub AllCodesLaw : Type 0
AllCodesLaw =
    (t : Target) (f : Function) (es : List Edit) (num : Numbering) (told : ℕ → Bool) → KeepAllWays t f es → TellsEdits told t f num es
    → AreCodes told (lane_code t f num) (lane_code t (all_edited f es) num)
