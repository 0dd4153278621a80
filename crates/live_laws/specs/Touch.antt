-- What the table of live lanes tells of the instructions that name a range.
use Rattle.std.specs.Prelude.{◌≡◌, ◌⊎◌, ℕ, nat_lt, length, Bool, true, false, List, Some, None, is_some, slice_get}
use Rattle.std.specs.List.{list_all}
use Rattle.target_base.specs.declared.types.Target.{Target}
use Rattle.target_base.specs.Rules.{is_phi}
use Rattle.meaning.specs.Live.{Among as Member}
use Rattle.mir_func.specs.declared.func.Block.{Block}
use Rattle.mir_func.specs.declared.func.Instr.{Instr}
use Rattle.mir_func.specs.Value.{Function}
use Rattle.mir_meaning.specs.declared.Form.{Form}
use Rattle.mir_func.specs.Binding.{effect_of, does}
use Rattle.mir_meaning.specs.Points.{touches, has_no_phis}
use Rattle.mir_meaning.specs.Rules.{V8}
use Rattle.mir_meaning.specs.Valid.{shape_fault}
use Rattle.instr_effects.specs.declared.acts.Act.{Act}
use Rattle.instr_effects.specs.declared.owner.Owner.{Owner}
use Rattle.instr_effects.specs.declared.owner.Owner.TheVariants as owners
use Rattle.instr_effects.specs.Acts.{acts_of, read_owners, entered_reads, entered_writes}
use Rattle.instr_effects.specs.Steps.{Numbering}
use Rattle.live_laws.specs.Effects.Coded.{KeepsRules, IsNumbered}
use Rattle.live_lanes.specs.declared.table.Table.{Table}
use Rattle.live_lanes.specs.Doing.{IsComputed}
use Rattle.live_lanes.specs.Tells.{TellsInstrs}
use Rattle.live_lanes.specs.Touching.{AreTouched, some_lane, touches_lane}

-- the opcode isn't an excluded one
abbrev pub is_known : Target → Instr → Bool
is_known t i = is_some (effect_of t i)

-- no instruction of these blocks has an excluded opcode
abbrev pub are_known : Target → List Block → Bool
are_known t bs = list_all (λ b. list_all (is_known t) b.instrs) bs

-- a function in which no rule but those on live points fails has no excluded opcode
abbrev pub KnownLaw : Type 0
KnownLaw = (t : Target) (form : Form) (f : Function) → shape_fault t form f ≡ None → are_known t f.blocks ≡ true

-- the lane is read, moved or written
abbrev pub Names : Target → Function → Instr → Owner → Type 0
Names t f i o =
    Member o (read_owners (entered_reads t f i)) ⊎ ((a : Act) × Member a (acts_of (entered_writes t f i)) × ((a.from ≡ Some o) ⊎ (a.lane ≡ o)))

-- the instruction touches the range exactly where it names a lane of it, which then has a number
pub record IsNamed (t : Target) (f : Function) (num : Numbering) (v : ℕ) (i : Instr) : Type 0 where
  pub forth : touches v i ≡ true → (k : ℕ) × (n : ℕ) × (num (owners.Range v k) ≡ Some n) × Names t f i (owners.Range v k)
  pub back : (k : ℕ) → Names t f i (owners.Range v k) → touches v i ≡ true

-- All instructions do so but phis, which read at the ends of other blocks, and those of excluded opcodes, of which nothing is entered.
abbrev pub NamingLaw : Type 0
NamingLaw =
    (t : Target) (f : Function) (num : Numbering) → KeepsRules t f → IsNumbered t f num
    → (b : Block) (i : Instr) → Member b f.blocks → Member i b.instrs → is_known t i ≡ true → does is_phi t i ≡ false → (v : ℕ) → IsNamed t f num v i

-- a computed table of a function without phis and excluded opcodes tells which instructions touch each range, and where they stand
abbrev pub TouchedLaw : Type 0
TouchedLaw =
    (t : Target) (f : Function) (x : Table) → IsComputed t f x → KeepsRules t f → ((b : Block) (j : ℕ) (i : Instr) → Member b f.blocks → slice_get b.instrs j ≡ Some i → V8 t b j i ≡ true)
    → has_no_phis t f.blocks ≡ true → are_known t f.blocks ≡ true → TellsInstrs f x

-- where these are the instructions that touch the range, a lane of it is touched exactly where there is one
abbrev pub IsTouchedLaw : Type 0
IsTouchedLaw = (x : Table) (v : ℕ) (ids : List ℕ) → AreTouched x v ids → some_lane x v (touches_lane x.rows.rows.items) ≡ nat_lt 0 (length ids)
