-- What lowering, joins, splits and spills keep of the rules of a source that rewriting asks for.
use Rattle.std.specs.Prelude.{◌≡◌, ◌↔◌, ℕ, List, [], ◌∷◌}
use Rattle.target_base.specs.declared.types.Target.{Target}
use Rattle.meaning.specs.declared.types.Lane.TheVariants.{UnitLane}
use Rattle.mir_func.specs.declared.func.Block.{Block}
use Rattle.mir_func.specs.Value.{Function}
use Rattle.mir_meaning.specs.Codes.{falls_through, is_open}
use Rattle.mir_meaning.specs.declared.Form.TheVariants as forms
use Rattle.mir_meaning.specs.Valid.{IsValid}
use Rattle.mir_meaning.specs.Points.{LiveAt, Start}
use Rattle.live_lanes.specs.declared.ask.labels.Mark.{Mark}
use Rattle.live_laws.specs.Effects.Shaped.{AreClasses}
use Rattle.two_address.specs.Lowered.{lowered}
use Rattle.lowering_laws.specs.Shapes.{IsLowered}
use Rattle.live_edits.specs.declared.fold.Join.{Join}
use Rattle.live_edits.specs.Folded.{folded}
use Rattle.join_laws.specs.Joined.{Joined, Joins}
use Rattle.join_laws.specs.Laws.{HasPlainUndefs}
use Rattle.split_kit.specs.Split.{Split}
use Rattle.spiller.specs.Slots.{Slots}
use Rattle.spiller.specs.Spilled.{IsSpilled}
use Rattle.valid_laws.specs.Rules.{HasBlockRules, HasFlags, HasStart}

-- c has the number, the text and the successors of b, and ends as it does
pub record EndsAlike (t : Target) (b c : Block) : Type 0 where
  pub number : c.number ≡ b.number
  pub attributes : c.attributes ≡ b.attributes
  pub successors : c.successors ≡ b.successors
  pub falls : falls_through t c.instrs ≡ falls_through t b.instrs
  pub opens : is_open t c ≡ is_open t b

-- so does each block
abbrev pub AllEndAlike : Target → List Block → List Block → Type 0
AllEndAlike t [] [] = Unit {0}
AllEndAlike t [] (c ∷ cs) = ⊥
AllEndAlike t (b ∷ bs) [] = ⊥
AllEndAlike t (b ∷ bs) (c ∷ cs) = EndsAlike t b c × AllEndAlike t bs cs

-- blocks that end alike keep them
abbrev pub AlikeKeepsBlocks : Type 0
AlikeKeepsBlocks = (t : Target) (f g : Function) → AllEndAlike t f.blocks g.blocks → HasBlockRules t f → HasBlockRules t g

-- a valid source has them behind lowering
abbrev pub LoweredHasBlocks : Type 0
LoweredHasBlocks = (t : Target) (f : Function) → IsValid t forms.Source f → AreClasses t f → HasBlockRules t (lowered t f)

-- and its flags are the opcodes'
abbrev pub LoweredHasFlags : Type 0
LoweredHasFlags = (t : Target) (f : Function) → IsValid t forms.Source f → HasFlags t (lowered t f)

-- a join keeps them, and the rule on flags
abbrev pub JoinKeepsBlocks : Type 0
JoinKeepsBlocks = (t : Target) (f : Function) (j : Join) → IsLowered t f → HasBlockRules t f → HasBlockRules t (folded t j f)

abbrev pub JoinKeepsFlags : Type 0
JoinKeepsFlags = (t : Target) (f : Function) (id : ℕ) (j : Join) → IsLowered t f → Joins t f id j → HasFlags t f → HasFlags t (folded t j f)

-- so do all joins
abbrev pub JoinedKeepsBlocks : Type 0
JoinedKeepsBlocks =
    (t : Target) (freqs : List ℕ) (f g : Function) (js : List Join) → IsLowered t f → HasPlainUndefs t f → Joined t freqs f js g
    → HasBlockRules t f → HasFlags t f → HasBlockRules t g × HasFlags t g

-- a split keeps the rule on flags
abbrev pub SplitKeepsFlags : Type 0
SplitKeepsFlags = (t : Target) (f g : Function) (v : ℕ) (ms : List Mark) → Split t f v ms g → HasFlags t f → HasFlags t g

-- so does a spill
abbrev pub SpillKeepsFlags : Type 0
SpillKeepsFlags =
    (t : Target) (f g : Function) (slots new : Slots) (v : ℕ) (made : List (ℕ × ℕ)) → IsLowered t f → IsSpilled t f slots v g new made → HasFlags t f → HasFlags t g

-- units are live at the starts of the blocks behind a join where they were
abbrev pub JoinKeepsUnits : Type 0
JoinKeepsUnits =
    (t : Target) (f : Function) (id : ℕ) (j : Join) → IsLowered t f → HasPlainUndefs t f → Joins t f id j
    → (n u : ℕ) → LiveAt t (folded t j f) (Start n) (UnitLane u) ↔ LiveAt t f (Start n) (UnitLane u)

-- a join keeps what is asked of the start, and so do all joins
abbrev pub JoinKeepsStart : Type 0
JoinKeepsStart = (t : Target) (f : Function) (id : ℕ) (j : Join) → IsLowered t f → HasPlainUndefs t f → Joins t f id j → HasStart t f → HasStart t (folded t j f)

abbrev pub JoinedKeepsStart : Type 0
JoinedKeepsStart = (t : Target) (freqs : List ℕ) (f g : Function) (js : List Join) → IsLowered t f → HasPlainUndefs t f → Joined t freqs f js g → HasStart t f → HasStart t g
