-- Going through the blocks in which instructions and marks stand.
use Rattle.std.specs.Prelude.{ℕ, Bool, true, not, nat_eq, min, List, [], ◌∷◌, Option, Some, None, slice_index}
use Rattle.std.specs.List.{position_or_len}
use Rattle.std.specs.Ordering.{nat_cmp}
use Rattle.std.specs.BTreeMap.{get}
use Rattle.live_lanes.specs.declared.ask.labels.Mark.{Mark}
use Rattle.live_lanes.specs.declared.table.Table.{Table}

-- the positions of the blocks of an instruction and of a mark
abbrev pub instr_home : Table → ℕ → Option ℕ
instr_home x id = Some (slice_index x.order.block_of.items id)

abbrev pub mark_home : Table → Mark → Option ℕ
mark_home x m = get nat_cmp x.order.positions m.block

-- the position of the first of some things
abbrev pub first_home : {X : Type 0} → (X → Option ℕ) → List X → Option ℕ
first_home home [] = None
first_home home (x ∷ xs) = home x

abbrev pub is_elsewhere : ℕ → Option ℕ → Bool
is_elsewhere position None = true
is_elsewhere position (Some p) = not (nat_eq p position)

-- how many of the first of these stand in the block at a position
abbrev pub how_many : {X : Type 0} → (X → Option ℕ) → ℕ → List X → ℕ
how_many home position xs = position_or_len (λ x. is_elsewhere position (home x)) xs

-- the smaller one of those that are there
abbrev pub earlier : Option ℕ → Option ℕ → Option ℕ
earlier None q = q
earlier (Some p) None = Some p
earlier (Some p) (Some q) = Some (min p q)
