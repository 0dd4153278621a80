-- What refinement asks: each of these pairs differs in one thing, and doesn't refine, or may differ in it.
use Rattle.std.specs.Prelude.{[], ◌∷◌}
use Rattle.meaning.specs.declared.types.Source.TheVariants.{Undef}
use Rattle.meaning.specs.Code.{Function}
use Rattle.meaning.specs.Refines.{Refines}
use Rattle.worked_examples.specs.Code.Samples.{number, returning, dividing, marking, storing, calling_name, branching}

abbrev pub DoesNotRefine : Function → Function → Type 0
DoesNotRefine f g = Refines f g → ⊥

-- a lane that is a number stays that number; one that is Undef may become any
abbrev pub LanesStay : Type 0
LanesStay =
    DoesNotRefine (returning (number 1)) (returning (number 2))
    × DoesNotRefine (returning (number 1)) (returning Undef)
    × Refines (returning Undef) (returning (number 1))

-- no event is dropped, and none is new; names and addresses stay
abbrev pub EventsStay : Type 0
EventsStay =
    DoesNotRefine (calling_name (1 ∷ [])) (marking 1)
    × DoesNotRefine (marking 1) (calling_name (1 ∷ []))
    × DoesNotRefine (calling_name (1 ∷ [])) (calling_name (2 ∷ []))
    × DoesNotRefine (storing 0) (storing 1)

-- ends stay
abbrev pub EndsStay : Type 0
EndsStay =
    DoesNotRefine (dividing (number 7) (number 2)) (dividing (number 7) (number 0))
    × DoesNotRefine (dividing (number 7) (number 0)) (dividing (number 7) (number 2))
    × DoesNotRefine (marking 1) branching

-- no counted instruction more or less, though the events are the same
abbrev pub CountsStay : Type 0
CountsStay = DoesNotRefine (marking 2) (marking 1) × DoesNotRefine (marking 1) (marking 2)

-- a defined divisor stays defined
abbrev pub DivisorsStay : Type 0
DivisorsStay = DoesNotRefine (dividing (number 7) (number 2)) (dividing (number 7) Undef)

-- where the first isn't defined nothing is asked
abbrev pub UndefinedAsksNothing : Type 0
UndefinedAsksNothing = Refines branching (returning (number 1)) × Refines (dividing (number 7) Undef) (marking 1)
