use Rattle.spiller.proofs.NumbersTaken.{numbers-more}
use Rattle.spiller.proofs.slot_map.numbers_below.Goals as goal

pub numbers-preserved : goal.numbers-preserved
numbers-preserved c = numbers-more c.numbers.n c.numbers.ns.items c.push.new.self.items c.numbers.invariant c.in_ok-push.ensures.items
