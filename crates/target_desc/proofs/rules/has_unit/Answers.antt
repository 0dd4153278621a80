use Rattle.std.proofs.Common.{◌∙◌}
use Rattle.std.specs.Prelude.{◌==◌}
use Rattle.word_set.proofs.Places.{any_of_map}
use Rattle.target_desc.proofs.rules.has_unit.Goals as goal

pub returns : goal.returns
returns c = c.any_unit.ensures ∙ any_of_map (λ x. x.0) (λ n. c.args.u.0 == n) c.args.us.now
