use Rattle.std.proofs.Common.{◌∙◌}
use Rattle.std.specs.Prelude.{◌==◌}
use Rattle.target_base.specs.Roles.{tied_to}
use Rattle.word_set.proofs.Places.{any_of_flat}
use Rattle.target_desc.proofs.opaque.any_tied_to.Goals as goal

pub returns : goal.returns
returns c = c.any_role_tied_to.ensures ∙ any_of_flat tied_to (λ m. c.args.n == m) c.args.rs.now
