use Rattle.std.proofs.Common.{◌∙◌, ap, nat_eq}
use Rattle.std.specs.List.{list_any}
use Rattle.bound_operands.specs.Seen.{seen_all}
use Rattle.place_solve.proofs.Ties.{tied_among}
use Rattle.place_solve.proofs.variables.has_tied_use.Goals as goal

pub returns : goal.returns
returns c = c.is_among.ensures ∙ (ap (list_any (nat_eq c.args.number)) c.requires ∙ tied_among c.args.number (seen_all c.args.bound.now))
