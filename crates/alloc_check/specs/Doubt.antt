-- Agreement as it is asked, and the first pair that lacks a fact.
use Rattle.std.specs.Prelude.{◌≡◌, ℕ, ◌+◌, ◌<◌, ◌≤◌, Bool, true, false, cond, nat_eq, List, length, take, Option, Some, None, option_map, slice_get}
use Rattle.std.specs.List.{list_all}
use Rattle.target_base.specs.declared.types.Effect.{Effect}
use Rattle.target_base.specs.declared.types.Effect.TheVariants as effects
use Rattle.target_base.specs.declared.types.Target.{Target}
use Rattle.meaning.specs.declared.types.Row.{Row}
use Rattle.meaning.specs.declared.types.Row.TheVariants.{BothCounted}
use Rattle.meaning.specs.Facts.{known_at_start}
use Rattle.meaning.specs.Pairing.{pairing}
use Rattle.meaning.specs.Sameness.{same_list}
use Rattle.meaning.specs.Agree.{Family, rows_agree, rows_hold}
use Rattle.mir_func.specs.declared.func.Place.{Place}
use Rattle.mir_func.specs.Value.{Function}
use Rattle.mir_meaning.specs.declared.Form.TheVariants as forms
use Rattle.mir_meaning.specs.Valid.{IsValid}
use Rattle.mir_meaning.specs.Codes.{meaning_of}
use Rattle.mir_meaning.specs.Agreement.{Agrees, FirstDoubt, asking_at, block_doubt, counted_places, partner_doubt, second_meaning}
use Rattle.alloc_check.specs.Compared.{compared}
use Rattle.alloc_check.specs.Families.{HoldsWith}
use Rattle.alloc_check.specs.Asking.{asked_to, counted_rows}

abbrev pub is_marker : Effect → Bool
is_marker effects.Marker = true
is_marker _ = false

-- markers that are a pair read as many lanes, operand by operand
abbrev pub lanes_alike : Row → Bool
lanes_alike (BothCounted r reads reads' ws ws' target exits) = cond (is_marker r.effect) (same_list (λ ss ts. nat_eq (length ss) (length ts)) reads reads') true
lanes_alike row = true

-- all markers that are pairs do
abbrev pub MarkersAlike : Target → Function → Function → Type 0
MarkersAlike t f g = (rows : List Row) → pairing (meaning_of t f).code (second_meaning t f g).code ≡ Some rows → list_all lanes_alike rows ≡ true

-- Some family of facts holds on every way into a block and has every fact that is compared: of markers those of the lanes
-- that both read.
abbrev pub SharedFactsHold : Target → Function → Function → Type 0
SharedFactsHold t f g = (family : Family) × (rows_agree family (compared (meaning_of t f).code (second_meaning t f g).code) (known_at_start (meaning_of t f).given (second_meaning t f g).given) ≡ true)

-- the n-th counted pair has the facts that are compared, in some family that holds on every way
abbrev pub HasSharedFacts : Target → Function → Function → ℕ → Type 0
HasSharedFacts t f g n =
    (family : Family) × (rows_agree family (option_map (asking_at n) (compared (meaning_of t f).code (second_meaning t f g).code)) (known_at_start (meaning_of t f).given (second_meaning t f g).given) ≡ true)

-- the place of the first counted instruction whose pair lacks them
pub record LacksFact (t : Target) (f g : Function) (p : Place) : Type 0 where
  pub number : ℕ
  pub is : slice_get (counted_places t f) number ≡ Some p
  pub before : (m : ℕ) → m < number → HasSharedFacts t f g m
  pub lacks : HasSharedFacts t f g number → ⊥

-- the two agree in all that is compared
pub record AgreesInShared (t : Target) (f g : Function) : Type 0 where
  pub valid : IsValid t forms.Allocated g
  pub blocks : block_doubt t f g ≡ None
  pub partners : partner_doubt t f g ≡ None
  pub facts : SharedFactsHold t f g

-- what a Yes says: they agree in all that is compared, and where markers read as many lanes, by the definition
pub record Confirms (t : Target) (f g : Function) : Type 0 where
  pub shared : AgreesInShared t f g
  pub agrees : MarkersAlike t f g → Agrees t f g

-- what a No says: they don't agree, and where markers read as many lanes, this is the first place in doubt
pub record Doubts (t : Target) (f g : Function) (p : Place) : Type 0 where
  pub shared : AgreesInShared t f g → ⊥
  pub disagree : Agrees t f g → ⊥
  pub first : MarkersAlike t f g → FirstDoubt t f g p

-- the place is the n-th of these
abbrev pub IsNth : List Place → ℕ → Place → Type 0
IsNth ps n p = (q : Place) → slice_get ps n ≡ Some q → p ≡ q

-- some family gives the rows before this one what they ask, and none these and it
pub record LacksAt (t : Target) (f g : Function) (rows : List Row) (row : ℕ) : Type 0 where
  pub within : row ≤ length rows
  pub holds : HoldsWith t f g (asked_to row rows)
  pub lacks : HoldsWith t f g (asked_to (row + 1) rows) → ⊥

-- the place is that of the instruction of such a row
pub record Lacking (t : Target) (f g : Function) (rows : List Row) (p : Place) : Type 0 where
  pub row : ℕ
  pub at : LacksAt t f g rows row
  pub place : IsNth (counted_places t f) (counted_rows (take row rows)) p
