use Rattle.mir_meaning.proofs.Points.{points_are_code}
use Rattle.mir_meaning.proofs.Faults.{law_of_faults}
use Rattle.mir_meaning.proofs.Doubts.{law_of_doubts}
use Rattle.mir_meaning.proofs.Renaming.{law_of_renaming}
use Rattle.worked_examples.proofs.machine_code.laws.Goals as goal

pub returns : goal.returns
returns c = record { law_of_points = points_are_code; law_of_faults = law_of_faults; law_of_doubts = law_of_doubts; law_of_renaming = law_of_renaming }
