use Rattle.std.proofs.Common.{◌∙◌, sym}
use Rattle.std.specs.Prelude.{◌==◌, ◌%◌}
use Rattle.std.proofs.lemmas.List.Folds.{list_all-map}
use Rattle.target_base.specs.Storage.{unit_width}
use Rattle.target_desc.proofs.roles.are_in_bytes.Goals as goal

pub returns : goal.returns
returns c = c.all_in_bytes.ensures ∙ sym (list_all-map (λ n. n % 8 == 0) (unit_width c.args.units.now) c.args.us.now)
