use Rattle.worked_examples.proofs.CodeLemmas.Living as proved
use Rattle.worked_examples.proofs.code.live_lanes.Goals as goal

pub returns : goal.returns
returns c = record { idle_copies = proved.idle_copies; read_copies = proved.read_copies; stores_are_read = proved.stores_are_read }
