use Rattle.std.proofs.Common.{sym, ap, ◌∙◌, get_or, None}
use Rattle.instr_effects.specs.Runs.{run_numbers}
use Rattle.instr_effects.proofs.Runs.{nothing_at}
use Rattle.instr_effects.proofs.run.LaneSequence.number.Goals as goal

pub returns-in-Nothing : goal.returns-in-Nothing
returns-in-Nothing c = sym (ap (λ r. get_or (run_numbers r) c.args.k None) c.in-Nothing.is ∙ nothing_at c.in-Nothing.field-0 c.args.k)
