-- The lanes of operands, and their widths.
use Rattle.std.specs.Prelude.{◌&&◌, ℕ, zero, suc, Bool, false, cond, nat_eq, List, [], ◌∷◌, map, length, Option, Some, None, slice_index}
use Rattle.std.specs.List.{list_any}
use Rattle.target_base.specs.declared.types.Unit.{Unit as UnitNumber}
use Rattle.target_base.specs.declared.types.IndexId.{IndexId}
use Rattle.target_base.specs.declared.types.Target.{Target}
use Rattle.target_base.specs.Storage.{widths}
use Rattle.target_base.specs.Registers.{units_of, lanes_of, widths_of_some, is_reserved_unit}
use Rattle.meaning.specs.declared.types.Lane.{Lane}
use Rattle.meaning.specs.declared.types.Lane.TheVariants.{VirtualLane, UnitLane, SlotLane}
use Rattle.meaning.specs.declared.types.Source.{Source}
use Rattle.meaning.specs.declared.types.Source.TheVariants.{FromLane, Undef}
use Rattle.mir_func.specs.declared.func.Loc.{Loc}
use Rattle.mir_func.specs.declared.func.Loc.TheVariants.{Virtual, Fixed}
use Rattle.mir_func.specs.declared.func.RegOp.{RegOp}
use Rattle.mir_func.specs.declared.func.Operand.{Operand}
use Rattle.mir_func.specs.declared.func.Operand.TheVariants as operands
use Rattle.mir_func.specs.Value.{Function}
use Rattle.mir_func.specs.Binding.{class_of}

-- so many numbers from n on
abbrev pub numbers : ℕ → ℕ → List ℕ
numbers n zero = []
numbers n (suc k) = n ∷ numbers (suc n) k

-- the number is in the list
abbrev pub has_number : List ℕ → ℕ → Bool
has_number ns n = list_any (nat_eq n) ns

-- the lane widths of a virtual register
abbrev pub range_widths : Target → Function → ℕ → List ℕ
range_widths t f v = widths_of_some t (class_of f v)

-- all lanes of a virtual register
abbrev pub range_lanes : Target → Function → ℕ → List Lane
range_lanes t f v = map (VirtualLane v) (numbers 0 (length (range_widths t f v)))

-- units as lanes, in order
abbrev pub unit_lanes : List UnitNumber → List Lane
unit_lanes us = map (λ u. UnitLane u.0) us

-- the lanes of a virtual register through its index, or the units of a fixed one
abbrev pub located_lanes : Target → Function → Loc → Option IndexId → List Lane
located_lanes t f (Virtual v) None = range_lanes t f v
located_lanes t f (Virtual v) (Some x) = map (VirtualLane v) (lanes_of t x)
located_lanes t f (Fixed r) x = unit_lanes (units_of t r)

-- the widths of those lanes
abbrev pub located_widths : Target → Function → Loc → Option IndexId → List ℕ
located_widths t f (Virtual v) None = range_widths t f v
located_widths t f (Virtual v) (Some x) = map (slice_index (range_widths t f v)) (lanes_of t x)
located_widths t f (Fixed r) x = widths t.units (units_of t r)

-- the lanes of a register operand
abbrev pub operand_lanes : Target → Function → RegOp → List Lane
operand_lanes t f o = located_lanes t f o.loc o.index

-- the lane widths of a register operand
abbrev pub operand_widths : Target → Function → RegOp → List ℕ
operand_widths t f o = located_widths t f o.loc o.index

-- what a use reads: Undef in each lane where it is `undef`
abbrev pub use_sources : Target → Function → RegOp → List Source
use_sources t f o = map (cond o.undef (λ l. Undef) FromLane) (operand_lanes t f o)

-- all lanes of a virtual register; of a physical one none
abbrev pub whole_lanes : Target → Function → Loc → List Lane
whole_lanes t f (Virtual v) = range_lanes t f v
whole_lanes t f (Fixed r) = []

-- the lanes that an `undef` definition makes Undef beside those that it gives a value
abbrev pub undefined_lanes : Target → Function → RegOp → List Lane
undefined_lanes t f o = cond (o.def && o.undef) (whole_lanes t f o.loc) []

-- the numbers of the lanes of a slot that are stored or reloaded: all, or those of an index
abbrev pub slot_lane_numbers : Target → List ℕ → Operand → List ℕ
slot_lane_numbers t ws (operands.Index x) = lanes_of t x
slot_lane_numbers t ws _ = numbers 0 (length ws)

-- lanes of a slot by their numbers, each at its width
abbrev pub slot_lanes : ℕ → List ℕ → List ℕ → List Lane
slot_lanes s [] ws = []
slot_lanes s (k ∷ ks) [] = []
slot_lanes s (k ∷ ks) (w ∷ ws) = SlotLane s k w ∷ slot_lanes s ks ws

-- Reserved units take no part in liveness.
abbrev pub is_reserved : Target → Lane → Bool
is_reserved t (UnitLane u) = is_reserved_unit t u
is_reserved t _ = false
