-- Rows with looks.
use Rattle.std.specs.Prelude.{List, [], ◌∷◌, flat_map, None}
use Rattle.target_base.specs.declared.types.Unit.{Unit as UnitNumber}
use Rattle.meaning.specs.declared.types.Row.{Row}
use Rattle.meaning.specs.declared.types.Row.TheVariants.{BothCounted}
use Rattle.alloc_check.specs.Looks.{looking, looked_at}

-- a look of both functions
abbrev pub look_row : List UnitNumber → Row
look_row us = BothCounted looking (looked_at us) (looked_at us) [] [] None []

-- a counted pair with a look before it; any other row alone
abbrev pub row_with_look : List UnitNumber → Row → List Row
row_with_look us (BothCounted r reads reads' ws ws' target exits) = look_row us ∷ BothCounted r reads reads' ws ws' target exits ∷ []
row_with_look us row = row ∷ []

abbrev pub rows_with_looks : List UnitNumber → List Row → List Row
rows_with_looks us rows = flat_map (row_with_look us) rows
