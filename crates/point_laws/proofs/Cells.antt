-- The cells of a lane, each found by its block.
use Rattle.std.proofs.Common.{◌≡◌, ℕ, Bool, true, false, cond, List, [], ◌∷◌, Option, None, Some, subst}
use Rattle.std.specs.Prelude.{nat_eq, slice_get}
use Rattle.meaning.specs.Live.{Among as Member, here as first, there as later}
use Rattle.instr_effects.proofs.Members.{member-none}
use Rattle.live_laws.proofs.Effects.Blocks.{member-slice}
use Rattle.live_lanes.specs.declared.row.Cell.{Cell}
use Rattle.live_lanes.specs.declared.row.LaneRange.{LaneRange}
use Rattle.live_lanes.specs.Table.{find_cell}
use Rattle.live_lanes.specs.Entered.{cells_of}
use Rattle.live_lanes.proofs.Cells.{is-found}

-- a cell of a row is found by its block
pub cell-found : (rows : List LaneRange) (n : ℕ) (c : Cell) → Member c (cells_of rows n) → find_cell c.block (cells_of rows n) ≡ Some c
cell-found rows n c m = go (slice_get rows n) m
  where
    go : (o : Option LaneRange) → Member c (elim o [ None ↦ [] | Some r ↦ r.cells.items ]) → find_cell c.block (elim o [ None ↦ [] | Some r ↦ r.cells.items ]) ≡ Some c
    go None j = absurd (member-none c j)
    go (Some r) j = let k = member-slice c r.cells.items j in is-found r.cells.items k.0 c r.sorted k.1

pub found-member : (p : ℕ) (cs : List Cell) (c : Cell) → find_cell p cs ≡ Some c → Member c cs
found-member p [] c e = absurd (cc)
found-member p (d ∷ cs) c e = go (nat_eq d.block p) e (found-member p cs c)
  where
    go : (u : Bool) → cond u (Some d) (find_cell p cs) ≡ Some c → (find_cell p cs ≡ Some c → Member c cs) → Member c (d ∷ cs)
    go true g ih = let same : d ≡ c = cc in subst (λ z. Member z (d ∷ cs)) same first
    go false g ih = later (ih g)
