use Rattle.std.proofs.Common.{◌∙◌}
use Rattle.target_base.specs.Roles.{is_implicit}
use Rattle.target_base.proofs.Lookups.{first_found}
use Rattle.target_base.proofs.roles.first_implicit.Goals as goal

pub returns-clause-first : goal.returns-clause-first
returns-clause-first c = c.find_implicit.ensures ∙ first_found is_implicit c.args.roles.now
