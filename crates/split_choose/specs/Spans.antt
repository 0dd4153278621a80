-- Whether a register is free for a range in stretches of points of a block.
use Rattle.std.specs.Prelude.{◌≡◌, ℕ, Bool, true, not, nat_le, List}
use Rattle.std.specs.List.{list_all, list_any}
use Rattle.target_base.specs.declared.types.Unit.{Unit as UnitNumber}
use Rattle.target_base.specs.declared.types.Reg.{Reg}
use Rattle.target_base.specs.Registers.{units_of}
use Rattle.live_lanes.specs.declared.ask.extent.Stretch.{Stretch}
use Rattle.split_choose.specs.declared.spans.Span.{Span}
use Rattle.interference.specs.declared.matrix.Matrix.{Matrix}
use Rattle.interference.specs.Clashes.{is_held}

-- each has its first point at its last one or before it
abbrev pub AreStretches : List Stretch → Type 0
AreStretches ss = list_all (λ s. nat_le s.first s.last) ss ≡ true

-- in each block
abbrev pub AreSpans : List Span → Type 0
AreSpans spans = list_all (λ s. list_all (λ at. nat_le at.first at.last) s.stretches.items) spans ≡ true

-- something else than the range holds the unit at some of these points of the block at a position
abbrev pub is_held_in : Matrix → ℕ → ℕ → List Stretch → UnitNumber → Bool
is_held_in m v position ss u = list_any (λ s. is_held m u.0 v position s) ss

-- nothing else holds a unit of the register there
abbrev pub is_alone : Matrix → ℕ → Reg → ℕ → List Stretch → Bool
is_alone m v r position ss = not (list_any (is_held_in m v position ss) (units_of m.live.target r))

-- nothing else does so in the block that a range is in
abbrev pub is_clear_in : Matrix → ℕ → Reg → Span → Bool
is_clear_in m v r s = is_alone m v r s.position s.stretches.items
