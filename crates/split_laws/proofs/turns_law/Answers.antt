use Rattle.split_laws.proofs.LocalTurns.{local_labels_in_turn}
use Rattle.split_laws.proofs.OfferTurns.{block_labels_in_turn, cut_labels_in_turn, region_labels_in_turn}
use Rattle.split_laws.proofs.turns_law.Goals as goal

pub returns-clause-block : goal.returns-clause-block
returns-clause-block c = block_labels_in_turn

pub returns-clause-region : goal.returns-clause-region
returns-clause-region c = region_labels_in_turn

pub returns-clause-cut : goal.returns-clause-cut
returns-clause-cut c = cut_labels_in_turn

pub returns-clause-local : goal.returns-clause-local
returns-clause-local c = local_labels_in_turn
