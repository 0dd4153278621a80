-- Rows that hold imply refinement of the functions that are their sides.
use Rattle.std.proofs.Common.{◌≡◌, true, refl, Result, Ok, Err, IfOk}
use Rattle.alloc_check.specs.declared.check.Verdict.{Verdict}
use Rattle.alloc_check.specs.declared.check.Verdict.TheVariants.{Yes, No}
use Rattle.alloc_check.specs.Verdict.{IfYes}
use Rattle.target_base.specs.declared.types.Target.{Target}
use Rattle.meaning.specs.declared.types.Row.{Row}
use Rattle.std.specs.Prelude.{List}
use Rattle.meaning.specs.Agree.{Family, rows_hold}
use Rattle.meaning.specs.Facts.{known_at_start}
use Rattle.meaning.specs.Rows.{first_of_rows, second_of_rows}
use Rattle.meaning.specs.Code.{Function as Meaning}
use Rattle.mir_func.specs.Value.{Function}
use Rattle.mir_meaning.specs.Codes.{refines, meaning_of, given_of}
use Rattle.laws.proofs.Agreement.{rows_refine}
use Rattle.alloc_check.specs.Bare.{AreSides}
use Rattle.alloc_check.proofs.BareRuns.{bare-refines}

pub judged-refines : (t : Target) (f g : Function) (family : Family) (rows : List Row) → AreSides t f g rows → rows_hold family rows (known_at_start (given_of t f) (given_of t g)) ≡ true → refines t f g
unfolding meaning_of
judged-refines t f g family rows sides h =
    let f' : Meaning = record { code = first_of_rows rows; given = given_of t f } in
    let g' : Meaning = record { code = second_of_rows rows; given = given_of t g } in
    bare-refines (meaning_of t f) (meaning_of t g) f' g' sides.first refl sides.second refl (rows_refine f' g' family rows refl refl h)

-- what holds anyway holds where the verdict is Yes
pub any-verdict : {E : Type 0} (P : Type 0) → P → (r : Result Verdict E) → IfOk r (IfYes P)
any-verdict P p (Err e) = tt
any-verdict P p (Ok v) = go v
  where
    go : (v : Verdict) → IfYes P v
    go Yes = p
    go (No place) = tt
