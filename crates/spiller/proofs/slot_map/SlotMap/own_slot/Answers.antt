use Rattle.std.proofs.Common.{◌∙◌, sym}
use Rattle.spiller.specs.Slots.{given_numbers}
use Rattle.spiller.specs.RangeSlots.{pairs_of}
use Rattle.spiller.specs.SlotMaps.{slots_of}
use Rattle.spiller.proofs.SlotsGiven.{next-is, own-new}
use Rattle.spiller.proofs.slot_map.SlotMap.own_slot.Goals as goal

pub returns-in-None : goal.returns-in-None
returns-in-None c = λ fits.
    let m = c.args.self.now in
    own-new (slots_of m) c.args.v m.next (sym c.slot_of.ensures ∙ c.in-None.is) (next-is m.taken.keys (given_numbers (pairs_of m.given.items)) m.next m.none_below m.not_taken m.given_below fits)
