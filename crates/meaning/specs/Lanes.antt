-- Lanes, what writes give them, and where the lanes of one code have their values in another.
use Rattle.std.specs.Prelude.{Bool, false, cond, ◌&&◌, nat_eq, List, [], ◌∷◌}
pub use Rattle.meaning.specs.declared.types.Lane.{Lane}
pub use Rattle.meaning.specs.declared.types.Lane.TheVariants.{VirtualLane, UnitLane, SlotLane}
pub use Rattle.meaning.specs.declared.types.Source.{Source}
pub use Rattle.meaning.specs.declared.types.Source.TheVariants.{FromLane, Undef, Bits}
pub use Rattle.meaning.specs.declared.types.Fill.{Fill}
pub use Rattle.meaning.specs.declared.types.Fill.TheVariants.{Moved, Computed}
pub use Rattle.meaning.specs.declared.types.Write.{Write}

abbrev pub same_lane : Lane → Lane → Bool
same_lane (VirtualLane v k) (VirtualLane w l) = nat_eq v w && nat_eq k l
same_lane (UnitLane u) (UnitLane w) = nat_eq u w
same_lane (SlotLane s k a) (SlotLane t l b) = nat_eq s t && (nat_eq k l && nat_eq a b)
same_lane _ _ = false

-- the lanes that an instruction writes, all at once; of two writes of one lane the first counts
abbrev pub Writes : Type 0
Writes = List Write

-- the sources read, operand by operand
abbrev pub Reads : Type 0
Reads = List (List Source)

-- what a lane has after the writes
abbrev pub filled : Writes → Lane → Fill
filled [] l = Moved (FromLane l)
filled (w ∷ ws) l = cond (same_lane w.lane l) w.fill (filled ws l)

-- a source after an instruction that computes nothing
abbrev pub settled : Fill → Source
settled (Moved s) = s
settled (Computed i) = Undef

-- where a source of after the writes stood before them
abbrev pub through : Writes → Source → Fill
through ws (FromLane l) = filled ws l
through ws Undef = Moved Undef
through ws (Bits c low width) = Moved (Bits c low width)

-- where each lane of one code has its value in another, at some place
abbrev pub Homes : Type 0
Homes = Lane → Source

abbrev pub placed : Homes → Source → Source
placed h (FromLane a) = h a
placed h Undef = Undef
placed h (Bits c low width) = Bits c low width

abbrev pub placed_fill : Homes → Fill → Fill
placed_fill h (Moved s) = Moved (placed h s)
placed_fill h (Computed i) = Computed i
