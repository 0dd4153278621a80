-- Facts: a source of the first function is Undef, or equals a source of the second.
use Rattle.std.specs.Prelude.{ℕ, Bool, true, false, ◌&&◌, ◌||◌, nat_eq, List, [], ◌∷◌, Option, Some, None}
use Rattle.meaning.specs.declared.types.Lane.TheVariants.{VirtualLane, UnitLane, SlotLane}
use Rattle.meaning.specs.declared.types.Source.{Source}
use Rattle.meaning.specs.declared.types.Source.TheVariants.{FromLane, Undef, Bits}
use Rattle.meaning.specs.declared.types.Fill.{Fill}
use Rattle.meaning.specs.declared.types.Fill.TheVariants.{Moved, Computed}
use Rattle.meaning.specs.Lanes.{Writes, Reads, settled, through}
use Rattle.meaning.specs.Code.{Given}
use Rattle.meaning.specs.Sameness.{same_source, same_option}

-- with Undef as its second source: the first is Undef
abbrev pub Fact : Type 0
Fact = Source × Source

abbrev pub Facts : Type 0
Facts = List Fact

-- what is known at a place, as a test
abbrev pub Knowledge : Type 0
Knowledge = Source → Source → Bool

abbrev pub everything : Knowledge
everything s t = true

-- a source that is Undef has every fact
abbrev pub gives : Fact → Source → Source → Bool
gives f s t = same_source s f.0 && (same_source f.1 Undef || same_source f.1 t)

abbrev pub among : Facts → Knowledge
among [] s t = false
among (f ∷ facts) s t = gives f s t || among facts s t

abbrev pub always : Knowledge
always Undef t = true
always (FromLane a) t = false
always (Bits c low width) t = same_source (Bits c low width) t

-- the facts, each constant with itself, and all that is known of Undef
abbrev pub known : Facts → Knowledge
known facts s t = always s t || among facts s t

-- a lane that gets a result has no fact from before
abbrev pub known_left : Knowledge → Fill → Source → Bool
known_left k (Moved s) t = k s t
known_left k (Computed i) t = false

-- after a silent instruction of the first, and of the second
abbrev pub known_first : Writes → Knowledge → Knowledge
known_first ws k s t = known_left k (through ws s) t

abbrev pub known_second : Writes → Knowledge → Knowledge
known_second ws k s t = k s (settled (through ws t))

abbrev pub one_result : Fill → Fill → Bool
one_result (Computed i) (Computed j) = nat_eq i j
one_result _ _ = false

-- after a counted one of both: lanes that get one result are equal, all else is as after silent ones
abbrev pub known_both : Writes → Writes → Knowledge → Knowledge
known_both ws vs k s t = one_result (through ws s) (through vs t) || known_second vs (known_first ws k) s t

-- the facts that a pair of counted instructions needs
abbrev pub reads_known : Knowledge → List Source → List Source → Bool
reads_known k [] [] = true
reads_known k (s ∷ ss) (t ∷ ts) = k s t && reads_known k ss ts
reads_known k _ _ = false

abbrev pub operands_known : Knowledge → Reads → Reads → Bool
operands_known k [] [] = true
operands_known k (s ∷ ss) (t ∷ ts) = reads_known k s t && operands_known k ss ts
operands_known k _ _ = false

abbrev pub all_known : Knowledge → Facts → Bool
all_known k [] = true
all_known k (f ∷ facts) = k f.0 f.1 && all_known k facts

-- a unit that is given stands for itself, where it is given at the same width
abbrev pub known_unit : Option ℕ → Option ℕ → ℕ → Source → Bool
known_unit None w u t = true
known_unit (Some width) w u t = same_source (FromLane (UnitLane u)) t && same_option w (Some width)

-- at the start: units that are given with themselves; all else of the first is Undef
abbrev pub known_at_start : Given → Given → Knowledge
known_at_start given given' Undef t = true
known_at_start given given' (FromLane (VirtualLane v k)) t = true
known_at_start given given' (FromLane (SlotLane s k width)) t = true
known_at_start given given' (FromLane (UnitLane u)) t = known_unit (given u) (given' u) u t
known_at_start given given' (Bits c low width) t = same_source (Bits c low width) t
