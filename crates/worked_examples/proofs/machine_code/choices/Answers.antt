use Rattle.worked_examples.proofs.MachineCodeLemmas.Choosing as proved
use Rattle.worked_examples.proofs.machine_code.choices.Goals as goal

pub returns : goal.returns
returns c = record { nothing_serves = proved.nothing_serves; first_choices = proved.first_choices }
