-- Where in the layout a range has points.
use Rattle.std.specs.Prelude.{◌≡◌, ◌≢◌, ◌≤◌, ℕ, Bool, true, not, ◌&&◌, nat_eq, List, [], ◌∷◌, length, min, take, Option, None, Some, slice_get}
use Rattle.mir_func.specs.declared.func.Block.{Block}
use Rattle.mir_func.specs.Value.{Function}
use Rattle.mir_meaning.specs.Paths.{Among, has}
use Rattle.instr_effects.specs.declared.owner.Owner.TheVariants as owners
use Rattle.instr_effects.specs.Numbered.{number_in}
use Rattle.live_lanes.specs.declared.ask.extent.Extent.{Extent}
use Rattle.live_lanes.specs.declared.row.Cell.{Cell}
use Rattle.live_lanes.specs.declared.table.Table.{Table}
use Rattle.live_lanes.specs.Entered.{cells_of}
use Rattle.live_lanes.specs.Extents.{cell_extents, extents_in, some_extents}
use Rattle.live_lanes.specs.Ordered.{all_ids, ids_of}
use Rattle.live_lanes.specs.Table.{find_cell, is_none, leading}
use Rattle.live_lanes.specs.Tells.{touching_ids}

-- a lane has points in the block of a cell
abbrev pub cell_has_points : Cell → Bool
cell_has_points c = not (is_none (cell_extents c))

-- it has points there, and this is another block than one
abbrev pub is_elsewhere : ℕ → Cell → Bool
is_elsewhere b c = not (nat_eq c.block b) && cell_has_points c

-- a lane with these cells has points in the block at a position
abbrev pub has_points : List Cell → ℕ → Bool
has_points cells b = not (is_none (some_extents (find_cell b cells)))

-- points of a lane of the range in the block at a position
pub record IsExtentOf (x : Table) (v b : ℕ) (e : Extent) : Type 0 where
  pub lane : ℕ
  pub number : ℕ
  pub numbered : number_in x.lanes (owners.Range v lane) ≡ Some number
  pub among : Among e (extents_in x number b)

-- a lane of the range has points there
abbrev pub HasPoints : Table → ℕ → ℕ → Type 0
HasPoints x v b = (e : Extent) × IsExtentOf x v b e

-- the lane of that place in the range has
abbrev pub LaneHasPoints : Table → ℕ → ℕ → ℕ → Type 0
LaneHasPoints x v k b = (l : ℕ) × (number_in x.lanes (owners.Range v k) ≡ Some l) × (has_points (cells_of x.rows.rows.items l) b ≡ true)

-- some lanes of the range have points in two blocks
abbrev pub IsInTwoBlocks : Table → ℕ → Type 0
IsInTwoBlocks x v = (a : ℕ) × (b : ℕ) × (a ≢ b) × HasPoints x v a × HasPoints x v b

-- the least of the numbers of a kind, if there is one
abbrev pub IsFirst : (ℕ → Type 0) → Option ℕ → Type 0
IsFirst P None = (b : ℕ) → P b → ⊥
IsFirst P (Some a) = P a × ((b : ℕ) → P b → a ≤ b)

-- the lesser one of two numbers, where there are such
abbrev pub lesser : Option ℕ → Option ℕ → Option ℕ
lesser None q = q
lesser (Some a) None = Some a
lesser (Some a) (Some b) = Some (min a b)

-- how many instructions the blocks before a position have
abbrev pub number_before : List Block → ℕ → ℕ
number_before bs p = length (all_ids (take p bs))

-- how many instructions stand before the one of an id in layout order
abbrev pub layout_number : List Block → ℕ → ℕ
layout_number bs id = leading (λ y. not (nat_eq y id)) (all_ids bs)

-- the number in layout of that instruction; the start of the block at a position counts as its first instruction, or the next one in layout
abbrev pub number_at : List Block → ℕ → Option ℕ → ℕ
number_at bs p None = number_before bs p
number_at bs p (Some id) = layout_number bs id

-- points of the range in that block begin with the instruction of that number
abbrev pub BeginsAt : Table → List Block → ℕ → ℕ → ℕ → Type 0
BeginsAt x bs v p n = (e : Extent) × IsExtentOf x v p e × (n ≡ number_at bs p e.start)

-- points of one of its lanes do
abbrev pub LaneBeginsAt : Table → List Block → ℕ → ℕ → ℕ → ℕ → Type 0
LaneBeginsAt x bs v k p n = (l : ℕ) × (e : Extent) × (number_in x.lanes (owners.Range v k) ≡ Some l) × Among e (extents_in x l p) × (n ≡ number_at bs p e.start)

-- the number of the first of these instructions; 0 where there is none
abbrev pub number_of_first : List Block → List ℕ → ℕ
number_of_first bs [] = 0
number_of_first bs (id ∷ ids) = layout_number bs id

-- the least number at which the range's points in the block begin; where it has no points, that of the first instruction that touches it
abbrev pub IsNumberIn : Table → Function → ℕ → ℕ → Option ℕ → Type 0
IsNumberIn x f v n None = n ≡ number_of_first f.blocks (touching_ids f v)
IsNumberIn x f v n (Some p) = IsFirst (BeginsAt x f.blocks v p) (Some n)

-- the number in layout of the instruction of a range's first point
pub record IsFirstNumber (x : Table) (f : Function) (v n : ℕ) : Type 0 where
  pub block : Option ℕ
  pub first : IsFirst (HasPoints x v) block
  pub number : IsNumberIn x f v n block

-- that instruction, if it is one, is one of the block at a position
abbrev pub IsWithin : List Block → ℕ → Option ℕ → Type 0
IsWithin bs p None = Unit {0}
IsWithin bs p (Some id) = (b : Block) × (slice_get bs p ≡ Some b) × (has id (ids_of b.instrs) ≡ true)

-- pieces begin with instructions of their blocks
abbrev pub BeginsWithin : Table → List Block → Type 0
BeginsWithin x bs = (l p : ℕ) (e : Extent) → Among e (extents_in x l p) → IsWithin bs p e.start
