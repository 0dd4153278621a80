-- The edits of a plan for a whole function spill the range.
use Rattle.std.specs.Prelude.{◌≡◌, ◌⊎◌, ℕ, true, List, [], Option, flat_map, map}
use Rattle.target_base.specs.declared.types.ClassId.{ClassId}
use Rattle.target_base.specs.declared.types.Target.{Target}
use Rattle.mir_func.specs.Value.{Function}
use Rattle.live_lanes.specs.declared.table.Table.{Table}
use Rattle.edit_laws.specs.Deferred.{SpareGone}
use Rattle.edit_laws.specs.Edits.{Edit, all_edited}
use Rattle.edit_laws.specs.Further.{with_classes}
use Rattle.live_edits.specs.Runs.{HavePlaces, edits_of}
use Rattle.spiller.specs.MaySpill.{MaySpill}
use Rattle.spiller.specs.Reaching.{AreFacts, Facts}
use Rattle.spiller.specs.Setting.{Spilling}
use Rattle.spiller.specs.Spilled.{all_changes, names_slot, spilled, tinies, tinies_of}
use Rattle.spiller.specs.Views.{Planned}
use Rattle.spiller.specs.WholePlan.{whole_plan}

-- the classes of the tinies
abbrev pub tiny_classes : Spilling → List (Option ClassId)
tiny_classes s = map (λ x. x.0) (flat_map tinies_of (all_changes s))

-- they spill the range where they are done one after the other, each has its place, and none changes what is erased
pub record DoSpill (s : Spilling) (g : Function) (es : List Edit) : Type 0 where
  pub done : all_edited g es ≡ spilled s
  pub places : HavePlaces s.target g es
  pub spare : SpareGone [] g es

-- So do those of a plan, over the function with the classes of its tinies. The tinies are those of the definition, and a store or a
-- reload names the slot then, or the function named it before, exactly where the function does behind the spill.
pub record PlansSpill (s : Spilling) (p : Planned) : Type 0 where
  pub edits : DoSpill s (with_classes s.func p.classes) (edits_of p.edits)
  pub classes_are : p.classes ≡ tiny_classes s
  pub tinies_are : p.tinies ≡ tinies s
  pub slot_used : p.uses_slot ≡ true → names_slot s.slot (spilled s) ≡ true
  pub slot_known : names_slot s.slot (spilled s) ≡ true → (p.uses_slot ≡ true) ⊎ (names_slot s.slot s.func ≡ true)

abbrev pub SpillEditsLaw : Type 0
SpillEditsLaw = (s : Spilling) (x : Table) → MaySpill s.target s.func x s.range → AreFacts s.target s.func s.range s.facts → PlansSpill s (whole_plan s)

-- whatever spilling asks of paths in a function can be told
abbrev pub FactsLaw : Type 0
FactsLaw = (t : Target) (f : Function) (x : Table) (v : ℕ) → MaySpill t f x v → (facts : Facts) × AreFacts t f v facts
