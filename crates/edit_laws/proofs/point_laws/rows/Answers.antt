use Rattle.edit_laws.proofs.Worked.{answer-changes, edits-make, store-goes, value-changes}
use Rattle.edit_laws.proofs.point_laws.rows.Goals as goal

pub returns : goal.returns
returns c = record { edits_make = edits-make; store_goes = store-goes; answer_changes = answer-changes; value_changes = value-changes }
