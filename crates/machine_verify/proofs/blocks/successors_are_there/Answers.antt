use Rattle.std.proofs.Common.{◌∙◌, sym}
use Rattle.std.proofs.lemmas.List.Folds.{list_all-map}
use Rattle.machine_verify.specs.Sets.{has}
use Rattle.machine_verify.proofs.blocks.successors_are_there.Goals as goal

pub returns : goal.returns
returns c = c.lead_there.ensures ∙ sym (list_all-map (has c.args.numbers.now) (λ e. e.block) c.args.edges.now)
