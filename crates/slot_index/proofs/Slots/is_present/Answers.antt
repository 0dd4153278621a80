use Rattle.slot_index.proofs.Room.{present_iff}
use Rattle.slot_index.proofs.Slots.is_present.Goals as goal

pub returns : goal.returns
returns c = present_iff c.args.self.now c.args.id c.number.result c.number.ensures.value c.number.ensures.numbered.positive
