use Rattle.std.proofs.Common.{◌∙◌, ap, Some}
use Rattle.mir_func.specs.declared.func.Instr.{Instr}
use Rattle.split_choose.proofs.Ends.{last_found, last_missing}
use Rattle.split_choose.proofs.places.last_in.Goals as goal

pub returns-in-Some : goal.returns-in-Some
returns-in-Some c = last_found c.args.instrs.now c.args.id c.get.result.now (ap (λ (i : Instr). Some i) c.get.ensures ∙ c.in-Some.ensures.value)

pub returns-in-None : goal.returns-in-None
returns-in-None c = last_missing c.args.instrs.now c.args.id c.in-None.ensures.value
