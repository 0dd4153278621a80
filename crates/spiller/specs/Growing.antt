-- New ranges of some classes, each its own original, and what spilling asks of a function with what is live in it and of the slots.
use Rattle.std.specs.Prelude.{◌≡◌, ◌⊎◌, ◌+◌, ◌≤◌, ℕ, Bool, true, cond, length, take, List, Option, Some}
use Rattle.target_base.specs.declared.types.ClassId.{ClassId}
use Rattle.target_base.specs.declared.types.Target.{Target}
use Rattle.target_base.specs.Registers.{IsClass}
use Rattle.meaning.specs.Live.{Among}
use Rattle.live_lanes.specs.declared.live.LiveFunc.{LiveFunc}
use Rattle.live_lanes.specs.Doing.{IsComputed}
use Rattle.live_laws.specs.Effects.Coded.{KeepsRules}
use Rattle.edit_laws.specs.Further.{KeepsLast, with_classes}
use Rattle.live_edits.specs.LiveRuns.{IsExact}
use Rattle.spiller.specs.EditLaw.{tiny_classes}
use Rattle.spiller.specs.MaySpill.{MaySpill}
use Rattle.spiller.specs.Reaching.{AreFacts, Facts}
use Rattle.spiller.specs.Slots.{HasFreeSlot, Slots, own_slot, with_ranges, with_slot}
use Rattle.spiller.specs.Spilled.{names_slot, setting_of}

-- each is a class of the target
abbrev pub AreGiven : Target → List (Option ClassId) → Type 0
AreGiven t cs = (q : Option ClassId) → Among q cs → (k : ClassId) × (q ≡ Some k) × IsClass t k

-- what new ranges of these classes ask: the table is computed, the slot map has an original for each range, and all have numbers
pub record MayGrow (x : LiveFunc) (slots : Slots) (cs : List (Option ClassId)) : Type 0 where
  pub computed : IsComputed x.target x.func x.table
  pub rules : KeepsRules x.target x.func
  pub last : KeepsLast x.target x.func
  pub given : AreGiven x.target cs
  pub few : length x.func.classes + length cs ≤ 2147483648
  pub originals : length slots.originals ≡ length x.func.classes

-- they are new, each its own original
pub record HasGrown (old : LiveFunc) (slots : Slots) (cs : List (Option ClassId)) (new : LiveFunc) (grown : Slots) : Type 0 where
  pub target : new.target ≡ old.target
  pub further : IsExact old.target (with_classes old.func cs) new
  pub ranges : grown ≡ with_ranges slots (length cs)

-- Some of them are new, as a refusal leaves them; of the last the slot map may have no original yet.
pub record HasGrownSome (old : LiveFunc) (slots : Slots) (cs : List (Option ClassId)) (new : LiveFunc) (grown : Slots) : Type 0 where
  pub count : ℕ
  pub few : count ≤ length cs
  pub further : IsExact old.target (with_classes old.func (take count cs)) new
  pub originals : ℕ
  pub ranges : grown ≡ with_ranges slots originals
  pub nearly : (originals ≡ count) ⊎ (originals + 1 ≡ count)

-- what a refusal to spill a range leaves: the range may have its slot, and some of the tinies may be made
pub record IsLeft (old : LiveFunc) (slots : Slots) (v : ℕ) (cs : List (Option ClassId)) (new : LiveFunc) (then : Slots) : Type 0 where
  pub given : Bool
  pub grown : HasGrownSome old (cond given (with_slot slots v) slots) cs new then

-- What `spill` asks: of the function; that these are its facts; that a slot is free; that the slot map has an original for each range,
-- and the slot of the range, if the function names it already; and that each tiny has a class.
pub record MaySpillNow (x : LiveFunc) (slots : Slots) (v : ℕ) (facts : Facts) : Type 0 where
  pub may : MaySpill x.target x.func x.table v
  pub are_facts : AreFacts x.target x.func v facts
  pub free : HasFreeSlot slots
  pub originals : length slots.originals ≡ length x.func.classes
  pub known : names_slot (own_slot slots v) x.func ≡ true → with_slot slots v ≡ slots
  pub classes : AreGiven x.target (tiny_classes (setting_of x.target x.func slots v facts))
