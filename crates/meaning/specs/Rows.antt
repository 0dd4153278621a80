-- Two codes side by side.
use Rattle.std.specs.Prelude.{ℕ, cond, nat_eq, List, [], ◌∷◌, Option, Some, None}
use Rattle.meaning.specs.Lanes.{Writes}
use Rattle.meaning.specs.Code.{Edge, BlockStart, BlockEnd, Silent, Counted, Code}
pub use Rattle.meaning.specs.declared.types.EdgePair.{EdgePair}
pub use Rattle.meaning.specs.declared.types.Row.{Row}
pub use Rattle.meaning.specs.declared.types.Row.TheVariants.{BothStart, BothEnd, FirstSilent, SecondSilent, BothCounted}

abbrev pub first_edge : EdgePair → Edge
first_edge e = record { block = e.block; phis = e.first }

abbrev pub second_edge : EdgePair → Edge
second_edge e = record { block = e.block; phis = e.second }

abbrev pub first_edges : List EdgePair → List Edge
first_edges [] = []
first_edges (e ∷ es) = first_edge e ∷ first_edges es

abbrev pub second_edges : List EdgePair → List Edge
second_edges [] = []
second_edges (e ∷ es) = second_edge e ∷ second_edges es

abbrev pub first_target : Option EdgePair → Option Edge
first_target None = None
first_target (Some e) = Some (first_edge e)

abbrev pub second_target : Option EdgePair → Option Edge
second_target None = None
second_target (Some e) = Some (second_edge e)

abbrev pub first_falls : Option (Writes × Writes) → Option Writes
first_falls None = None
first_falls (Some e) = Some e.0

abbrev pub second_falls : Option (Writes × Writes) → Option Writes
second_falls None = None
second_falls (Some e) = Some e.1

abbrev pub first_of_rows : List Row → Code
first_of_rows [] = []
first_of_rows (BothStart n ∷ rows) = BlockStart n ∷ first_of_rows rows
first_of_rows (BothEnd falls exits ∷ rows) = BlockEnd (first_falls falls) (first_edges exits) ∷ first_of_rows rows
first_of_rows (FirstSilent reads ws ∷ rows) = Silent reads ws ∷ first_of_rows rows
first_of_rows (SecondSilent reads ws ∷ rows) = first_of_rows rows
first_of_rows (BothCounted r reads reads' ws ws' target exits ∷ rows) = Counted r reads ws (first_target target) (first_edges exits) ∷ first_of_rows rows

abbrev pub second_of_rows : List Row → Code
second_of_rows [] = []
second_of_rows (BothStart n ∷ rows) = BlockStart n ∷ second_of_rows rows
second_of_rows (BothEnd falls exits ∷ rows) = BlockEnd (second_falls falls) (second_edges exits) ∷ second_of_rows rows
second_of_rows (FirstSilent reads ws ∷ rows) = second_of_rows rows
second_of_rows (SecondSilent reads ws ∷ rows) = Silent reads ws ∷ second_of_rows rows
second_of_rows (BothCounted r reads reads' ws ws' target exits ∷ rows) = Counted r reads' ws' (second_target target) (second_edges exits) ∷ second_of_rows rows

-- the rows after the start of block n
abbrev pub found_row : ℕ → List Row → List Row
found_row n [] = []
found_row n (BothStart m ∷ rows) = cond (nat_eq m n) rows (found_row n rows)
found_row n (BothEnd falls exits ∷ rows) = found_row n rows
found_row n (FirstSilent reads ws ∷ rows) = found_row n rows
found_row n (SecondSilent reads ws ∷ rows) = found_row n rows
found_row n (BothCounted r reads reads' ws ws' target exits ∷ rows) = found_row n rows
