-- The virtual registers of a function, in the order in which they are first named, with the classes that they are given.
use Rattle.std.specs.Prelude.{ℕ, List, [], ◌∷◌, ◌++◌, Option, Some, None, length, map, ◌==◌, slice_get, slice_set, position, if◌then◌else◌}
use Rattle.target_base.specs.Storage.{same_numbers}
use Rattle.target_base.specs.declared.types.ClassId.{ClassId}
use Rattle.mir_read.specs.declared.ranges.AnnotatedClass.{AnnotatedClass}
use Rattle.mir_read.specs.declared.ranges.AnnotatedClass.TheVariants as given
use Rattle.mir_read.specs.declared.ranges.Ranges.{Ranges}

abbrev pub one_of : ClassId → ClassId → AnnotatedClass
one_of c d = if c.0 == d.0 then given.One c else given.Several

-- what two annotations together give
abbrev pub joined : AnnotatedClass → AnnotatedClass → AnnotatedClass
joined given.Nothing g = g
joined (given.One c) given.Nothing = given.One c
joined (given.One c) (given.One d) = one_of c d
joined (given.One c) given.Several = given.Several
joined given.Several g = given.Several

abbrev pub or_nothing : Option AnnotatedClass → AnnotatedClass
or_nothing None = given.Nothing
or_nothing (Some g) = g

-- what a register of this place is given
abbrev pub given_at : List AnnotatedClass → ℕ → AnnotatedClass
given_at gs k = or_nothing (slice_get gs k)

abbrev pub given_if : List AnnotatedClass → Option ℕ → AnnotatedClass
given_if gs None = given.Nothing
given_if gs (Some k) = given_at gs k

-- what a register is given
abbrev pub given_to : Ranges → List ℕ → AnnotatedClass
given_to r name = given_if r.given (position (same_numbers name) r.names)

abbrev pub appended : Ranges → List ℕ → AnnotatedClass → Ranges
appended r name g = record { names = r.names ++ name ∷ []; given = r.given ++ g ∷ [] }

abbrev pub regiven : Ranges → ℕ → AnnotatedClass → Ranges
regiven r k g = record { names = r.names; given = slice_set r.given k (joined (given_at r.given k) g) }

abbrev pub mentioned_at : Ranges → List ℕ → AnnotatedClass → AnnotatedClass → Option ℕ → Ranges
mentioned_at r name first g None = appended r name (joined first g)
mentioned_at r name first g (Some k) = regiven r k g

-- A register is named, and given something. Where that is the first time, it has been given something before.
unfoldable pub mentioned : Ranges → List ℕ → AnnotatedClass → AnnotatedClass → Ranges
mentioned r name first g = mentioned_at r name first g (position (same_numbers name) r.names)

abbrev pub number_at : Ranges → Option ℕ → ℕ
number_at r None = length r.names
number_at r (Some k) = k

-- the number of a register: how many others were named first before it
unfoldable pub range_number : Ranges → List ℕ → ℕ
range_number r name = number_at r (position (same_numbers name) r.names)

-- just one class, or none
abbrev pub class_in : AnnotatedClass → Option ClassId
class_in given.Nothing = None
class_in (given.One c) = Some c
class_in given.Several = None

abbrev pub classes_of : Ranges → List (Option ClassId)
classes_of r = map class_in r.given

abbrev pub no_ranges : Ranges
no_ranges = record { names = []; given = [] }
