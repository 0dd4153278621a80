use Rattle.std.proofs.Common.{◌∙◌}
use Rattle.std.specs.Prelude.{◌==◌}
use Rattle.word_set.proofs.Places.{any_of_map}
use Rattle.target_desc.proofs.rules.has_reg.Goals as goal

pub returns : goal.returns
returns c = c.any_reg.ensures ∙ any_of_map (λ x. x.0) (λ n. c.args.r.0 == n) c.args.rs.now
