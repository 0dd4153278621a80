-- What reserved units hold at each counted instruction, as events show it.
use Rattle.std.specs.Prelude.{pos, List, [], ◌∷◌, map, None}
use Rattle.target_base.specs.declared.types.Effect.TheVariants as effects
use Rattle.target_base.specs.declared.types.OpaqueKind.TheVariants as kinds
use Rattle.target_base.specs.declared.types.Unit.{Unit as UnitNumber}
use Rattle.target_base.specs.declared.types.Target.{Target}
use Rattle.meaning.specs.declared.types.Rest.{Rest}
use Rattle.meaning.specs.declared.types.Source.TheVariants.{FromLane}
use Rattle.meaning.specs.Lanes.{Reads}
use Rattle.meaning.specs.Code.{Item, Counted, Code, Function as Meaning}
use Rattle.meaning.specs.Refines.{Refines}
use Rattle.mir_func.specs.Value.{Function}
use Rattle.mir_meaning.specs.Registers.{unit_lanes}
use Rattle.mir_meaning.specs.Codes.{meaning_of}

-- an opaque instruction without a name that computes nothing, needs no value, and goes on
abbrev pub looking : Rest
looking = record { effect = effects.Opaque kinds.Plain; widths = []; result = []; immediate = pos 0; symbol = []; needed = [] }

-- it reads units as one operand, and so shows what they hold
abbrev pub looked_at : List UnitNumber → Reads
looked_at us = map FromLane (unit_lanes us) ∷ []

-- a look at these units, which writes nothing
abbrev pub look : List UnitNumber → Item
look us = Counted looking (looked_at us) [] None []

-- a code with a look before each counted instruction
abbrev pub code_with_looks : List UnitNumber → Code → Code
code_with_looks us [] = []
code_with_looks us (Counted r reads ws target exits ∷ p) = look us ∷ Counted r reads ws target exits ∷ code_with_looks us p
code_with_looks us (i ∷ p) = i ∷ code_with_looks us p

-- the function of this code
abbrev pub with_looks : List UnitNumber → Meaning → Meaning
with_looks us f = record { code = code_with_looks us f.code; given = f.given }

-- As far as f is defined, g does the same; and before each counted instruction the reserved units hold in g what they hold in
-- f, in each lane that is defined in f.
pub record KeepsReserved (t : Target) (f g : Function) : Type 0 where
  pub looked : Refines (with_looks t.reserved (meaning_of t f)) (with_looks t.reserved (meaning_of t g))
