-- What the lanes of a store hold.
use Rattle.std.specs.Prelude.{ℕ, Bool, cond, ◌&&◌, nat_eq, nat_lt, ◌+◌, ◌*◌, List, Option, Some, None, length, slice_index_or}
use Rattle.std.specs.Map.{lookup}
use Rattle.meaning.specs.declared.types.Lane.{Lane}
use Rattle.meaning.specs.declared.types.Lane.TheVariants.{VirtualLane, UnitLane, SlotLane}
use Rattle.meaning.specs.Lanes.{same_lane}
use Rattle.meaning.specs.Environment.{Value}
use Rattle.meaning.specs.State.{State}
use Rattle.mir_interp.specs.declared.store.Store.{Store}

-- a lane as the key of a map: its kind, and up to three numbers
abbrev pub Key : Type 0
Key = ℕ × ℕ × ℕ × ℕ

abbrev pub key_of : Lane → Key
key_of (VirtualLane v k) = (0, v, k, 0)
key_of (UnitLane u) = (1, u, 0, 0)
key_of (SlotLane s k w) = (2, s, k, w)

abbrev pub same_key : Key → Key → Bool
same_key x y = ((nat_eq x.0 y.0 && nat_eq x.1 y.1) && nat_eq x.2 y.2) && nat_eq x.3 y.3

-- what was put in a map; Undef where nothing was
abbrev pub unless_absent : Option Value → Value
unless_absent None = None
unless_absent (Some v) = v

abbrev pub held_apart : List (Key × Value) → State
held_apart es l = unless_absent (lookup (same_key (key_of l)) es)

-- a lane by the cells: units have theirs, and so have the first four lanes of each virtual register
abbrev pub look : List Value → List Value → State → State
look units ranges others (UnitLane u) = cond (nat_lt u (length units)) (slice_index_or units u None) (others (UnitLane u))
look units ranges others (VirtualLane v k) =
    cond (nat_lt k 4 && nat_lt (4 * v + k) (length ranges)) (slice_index_or ranges (4 * v + k) None) (others (VirtualLane v k))
look units ranges others (SlotLane s k w) = others (SlotLane s k w)

-- the state that a store holds
abbrev pub held_by : Store → State
held_by s = look s.units.items s.ranges.items (held_apart s.others.entries)

-- one lane holds another value
abbrev pub updated : State → Lane → Value → State
updated state l v m = cond (same_lane l m) v (state m)
