-- When a silent instruction is a step over numbered lanes.
use Rattle.std.specs.Prelude.{◌≡◌, ◌⊎◌, ◌↔◌, ℕ, Bool, true, false, [], ◌∷◌, List, Some, None, drop, slice_get}
use Rattle.target_base.specs.declared.types.Target.{Target}
use Rattle.meaning.specs.declared.types.Lane.{Lane}
use Rattle.meaning.specs.Lanes.{Writes}
use Rattle.meaning.specs.Code.{Edge, Item}
use Rattle.meaning.specs.Live.{Among as Member, is_slot}
use Rattle.mir_func.specs.declared.func.Block.{Block}
use Rattle.mir_func.specs.declared.func.Instr.{Instr}
use Rattle.mir_func.specs.Value.{Function}
use Rattle.mir_meaning.specs.declared.Form.{Form}
use Rattle.mir_func.specs.Binding.{does, is_terminator}
use Rattle.mir_meaning.specs.Valid.{shape_fault}
use Rattle.mir_meaning.specs.Registers.{is_reserved}
use Rattle.mir_meaning.specs.Codes.{ways_out}
use Rattle.mir_meaning.specs.Points.{point_item, points_of, Start, Entry, Exit, LiveAt, OccupiedAt}
use Rattle.mir_meaning.specs.Paths.{Step, IsMatched, is_written, steps_of, Entry as Before, Exit as Behind, Live}
use Rattle.mir_meaning.specs.Stands.{IsStep, IsCodeOf}
use Rattle.instr_effects.specs.Acts.{entered_reads, entered_writes}
use Rattle.instr_effects.specs.declared.lanes.LaneTable.{LaneTable}
use Rattle.instr_effects.specs.Numbered.{number_in, NumbersAll}
use Rattle.instr_effects.specs.Steps.{Numbering}
use Rattle.instr_effects.specs.Stepping.{tag_of, step_of, IsNumbering, NamesTagged}
use Rattle.live_laws.specs.Effects.Moving.{IsMoving}
use Rattle.live_laws.specs.Effects.Shaped.{is_proper, AreClasses, IsShaped, SlotsTagged}
use Rattle.live_laws.specs.Effects.Coded.{numbered_code, number_at, instr_step, is_early, spot_in, KeepsRules, IsNumbered}

-- an item that only moves lanes is the step that moves their numbers
abbrev pub MovingLaw : Type 0
MovingLaw =
    (reserved : Lane → Bool) (num : Numbering) (proper : Lane → Bool) → IsNumbering reserved num → ((l : Lane) → is_slot l ≡ false → proper l ≡ true) → ((l : Lane) → is_slot l ≡ true → reserved l ≡ false)
    → (i : Item) (out : List Edge) (id : ℕ) (ws : Writes) → IsMoving reserved (tag_of num proper) i ws → IsStep reserved (tag_of num proper) out i (step_of num id false [] ws)

-- each instruction of the right shape is the step that is entered for it
abbrev pub InstrLaw : Type 0
InstrLaw =
    (t : Target) (f : Function) (num : Numbering) → AreClasses t f → IsNumbering (is_reserved t) num
    → (b : Block) (i : Instr) → IsShaped t f i → NamesTagged t f (tag_of num (is_proper t)) i → SlotsTagged t f (tag_of num (is_proper t)) i
    → IsStep (is_reserved t) (tag_of num (is_proper t)) (ways_out t f b) (point_item t f b i) (step_of num i.id (does is_terminator t i) (entered_reads t f i) (entered_writes t f i))

-- the blocks of a function over numbered lanes stand for its code
abbrev pub FunctionLaw : Type 0
FunctionLaw =
    (t : Target) (f : Function) (num : Numbering) → KeepsRules t f → IsNumbered t f num
    → IsCodeOf (is_reserved t) (tag_of num (is_proper t)) (number_at f.blocks) (points_of t f) (numbered_code t f num)

-- a lane that is no slot's, and has a number, is live at a point exactly where its number is
pub record LiveByNumber (t : Target) (f : Function) (num : Numbering) (l : Lane) (n : ℕ) : Type 0 where
  pub start : (x : ℕ) (b : Block) → slice_get f.blocks x ≡ Some b → LiveAt t f (Start b.number) l ↔ Live (numbered_code t f num) x (Before (steps_of (numbered_code t f num) x)) n
  pub entry : (id x k : ℕ) → spot_in id f.blocks ≡ Some (x, k) → LiveAt t f (Entry id) l ↔ Live (numbered_code t f num) x (Before (drop k (steps_of (numbered_code t f num) x))) n
  pub exit : (id x k : ℕ) (s : Step) (rest : List Step) → spot_in id f.blocks ≡ Some (x, k) → drop k (steps_of (numbered_code t f num) x) ≡ s ∷ rest → LiveAt t f (Exit id) l ↔ Live (numbered_code t f num) x (Behind s rest) n

abbrev pub NumberLaw : Type 0
NumberLaw =
    (t : Target) (f : Function) (num : Numbering) → KeepsRules t f → IsNumbered t f num
    → (l : Lane) (n : ℕ) → is_slot l ≡ false → tag_of num (is_proper t) l ≡ Some n → LiveByNumber t f num l n

-- a table that numbers all lanes of a function gives each a number of its own
abbrev pub TableLaw : Type 0
TableLaw = (t : Target) (f : Function) (tab : LaneTable) → NumbersAll t f tab → KeepsRules t f → IsNumbered t f (number_in tab)

-- a function in which no rule but those on live points fails, in either form, keeps the rules that liveness rests on
abbrev pub ValidLaw : Type 0
ValidLaw = (t : Target) (form : Form) (f : Function) → shape_fault t form f ≡ None → AreClasses t f → KeepsRules t f

-- each step of a function moves a lane into the one lane whose writing says so
abbrev pub MatchedLaw : Type 0
MatchedLaw = (t : Target) (f : Function) (num : Numbering) → KeepsRules t f → IsNumbered t f num → (b : Block) (i : Instr) → Member b f.blocks → Member i b.instrs → IsMatched (instr_step t f num i)

-- a lane is occupied at the entry and the exit of an instruction exactly where its number is live there or written: at the entry where its first writing is early
pub record OccupiedByNumber (t : Target) (f : Function) (num : Numbering) (l : Lane) (n : ℕ) : Type 0 where
  pub entry : (id x k : ℕ) (s : Step) (rest : List Step) → spot_in id f.blocks ≡ Some (x, k) → drop k (steps_of (numbered_code t f num) x) ≡ s ∷ rest → OccupiedAt t f (Entry id) l ↔ (Live (numbered_code t f num) x (Before (s ∷ rest)) n ⊎ (is_early n s ≡ true))
  pub exit : (id x k : ℕ) (s : Step) (rest : List Step) → spot_in id f.blocks ≡ Some (x, k) → drop k (steps_of (numbered_code t f num) x) ≡ s ∷ rest → OccupiedAt t f (Exit id) l ↔ (Live (numbered_code t f num) x (Behind s rest) n ⊎ (is_written n s ≡ true))

abbrev pub OccupiedLaw : Type 0
OccupiedLaw =
    (t : Target) (f : Function) (num : Numbering) → KeepsRules t f → IsNumbered t f num
    → (l : Lane) (n : ℕ) → is_slot l ≡ false → tag_of num (is_proper t) l ≡ Some n → OccupiedByNumber t f num l n
