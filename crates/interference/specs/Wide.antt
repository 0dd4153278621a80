-- Units with a list for each block.
use Rattle.std.specs.Prelude.{ℕ, Bool, length, nat_eq}
use Rattle.interference.specs.declared.unit_table.UnitExtents.{UnitExtents}

-- the unit has so many lists
abbrev pub is_wide : ℕ → UnitExtents → Bool
is_wide n r = nat_eq (length r.blocks.items) n
