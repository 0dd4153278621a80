use Rattle.std.proofs.Common.{◌∙◌, ap}
use Rattle.mir_meaning.specs.Registers.{has_number}
use Rattle.spiller.proofs.NumbersTaken.{inserted}
use Rattle.spiller.proofs.slot_map.add_number.Goals as goal

pub returns : goal.returns
returns c = λ n. ap (λ keys. has_number keys n) c.in_ok-insert.ensures.keys ∙ inserted c.args.taken.now.keys c.args.number n
