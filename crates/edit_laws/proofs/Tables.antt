-- A table that was computed for a function is computed for the edited one where the touched lanes are right.
use Rattle.instr_effects.specs.Numbered.{number_in}
use Rattle.live_lanes.specs.declared.table.Table.{Table}
use Rattle.live_lanes.specs.Doing.{IsComputed}
use Rattle.live_laws.proofs.Exact.Inside.{all}
use Rattle.edit_laws.specs.Edits.{edited}
use Rattle.edit_laws.specs.Tables.{TableLaw}
use Rattle.edit_laws.proofs.Codes.{codes-law}
use Rattle.edit_laws.proofs.Further.{classes-stay, with-lanes}
use Rattle.edit_laws.proofs.Kept.{kept-law}

pub table-law : TableLaw
table-law t f e x y told keeps computed rules last numbers tells laid rows right =
    let z : Table = record x { lanes = y.lanes } in
    let still : IsComputed t f z = with-lanes t f (edited f e) x y.lanes computed rules last laid.numbers (classes-stay f e) numbers in
    kept-law t f (edited f e) z y told still (all t f z still rules last) laid (codes-law t f e (number_in y.lanes) told keeps tells) rows right
