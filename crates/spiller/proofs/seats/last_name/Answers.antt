use Rattle.std.proofs.Common.{◌∙◌, ap}
use Rattle.mir_func.specs.declared.func.Instr.{Instr}
use Rattle.spiller.proofs.Steps.{last-named}
use Rattle.spiller.proofs.seats.last_name.Goals as goal

pub returns-in-len1-up : goal.returns-in-len1-up
returns-in-len1-up c = ap (λ (x : Instr). x.id) c.get.ensures ∙ last-named c.args.instrs.now c.last-item.result c.in-len1-up.len_at_least c.last-item.is
