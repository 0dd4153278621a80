use Rattle.slot_index.proofs.Ordered.{numbers_tell_order}
use Rattle.slot_index.proofs.Slots.number.Goals as goal

pub returns-clause-tells : goal.returns-clause-tells
returns-clause-tells c = numbers_tell_order _ (rw (← c.self.view_is) c.self.invariant.numbered.rising)
