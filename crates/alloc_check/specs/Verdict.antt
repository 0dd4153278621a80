-- What a verdict says.
use Rattle.std.specs.Prelude.{◌≡◌, false, List, Some, None}
use Rattle.std.specs.List.{list_any}
use Rattle.std.specs.Option.{option_or}
use Rattle.target_base.specs.declared.types.Target.{Target}
use Rattle.meaning.specs.declared.types.Row.{Row}
use Rattle.mir_func.specs.declared.func.Place.{Place}
use Rattle.mir_func.specs.Value.{Function}
use Rattle.mir_meaning.specs.declared.Form.TheVariants as forms
use Rattle.mir_meaning.specs.Valid.{IsValid, names_virtual}
use Rattle.mir_meaning.specs.Codes.{refines}
use Rattle.mir_meaning.specs.Agreement.{block_doubt, partner_doubt}
use Rattle.alloc_check.specs.Families.{HoldsWith}
use Rattle.alloc_check.specs.Doubt.{SharedFactsHold, LacksFact, Confirms, Doubts}
use Rattle.alloc_check.specs.declared.check.Verdict.{Verdict}
use Rattle.alloc_check.specs.declared.check.Verdict.TheVariants.{Yes, No}

-- a Yes says this, a No nothing
abbrev pub IfYes : Type 0 → Verdict → Type 0
IfYes P Yes = P
IfYes P (No place) = Unit {0}

-- a No says this, a Yes nothing
abbrev pub IfNo : (Place → Type 0) → Verdict → Type 0
IfNo P Yes = Unit {0}
IfNo P (No place) = P place

-- Of rows of two functions: a Yes just where they hold with some family of facts, from the start of both
abbrev pub Judges : Target → Function → Function → List Row → Verdict → Type 0
Judges t f g rows Yes = HoldsWith t f g rows
Judges t f g rows (No place) = HoldsWith t f g rows → ⊥

-- The functions match: their blocks are alike, and their counted instructions pair, of one opcode and with operands
-- alike, in which only virtual registers are replaced. So calls and returns name the registers, symbols and masks of the
-- source.
pub record AreAlike (t : Target) (f g : Function) : Type 0 where
  pub blocks : block_doubt t f g ≡ None
  pub partners : partner_doubt t f g ≡ None

-- Of functions that match: a Yes just where the facts hold that are compared, and else the first place whose pair lacks one
abbrev pub JudgesFacts : Target → Function → Function → Verdict → Type 0
JudgesFacts t f g Yes = SharedFactsHold t f g
JudgesFacts t f g (No place) = (SharedFactsHold t f g → ⊥) × LacksFact t f g place

-- where the functions don't match, the verdict is No with the first place at which they don't
abbrev pub TellsUnlike : Target → Function → Function → Verdict → Type 0
TellsUnlike t f g v = (p : Place) → option_or (block_doubt t f g) (partner_doubt t f g) ≡ Some p → v ≡ No p

-- What a verdict says of agreement.
abbrev pub TellsAgreement : Target → Function → Function → Verdict → Type 0
TellsAgreement t f g Yes = Confirms t f g
TellsAgreement t f g (No place) = Doubts t f g place

-- The allocated function is right for its source: it is valid in the allocated form, names no virtual register, matches
-- the source, and does all that the source does.
pub record IsRight (t : Target) (f g : Function) : Type 0 where
  pub valid : IsValid t forms.Allocated g
  pub chosen : list_any names_virtual g.blocks ≡ false
  pub alike : AreAlike t f g
  pub refines : refines t f g
