use Rattle.std.proofs.Common.{◌≡◌, ◌<◌, List, [], length, get_or, ap, ◌∙◌, arith}
use Rattle.slot_colour.specs.Clashes.{is_clash}
use Rattle.slot_colour.specs.Colouring.{placed, taken_on}
use Rattle.slot_colour.proofs.Taken.{taken-next}
use Rattle.slot_colour.proofs.choice.taken_from.Goals as goal

pub slots-preserved : goal.slots-preserved
slots-preserved c = λ ordered.
    let clash = is_clash c.args.live.now.table in
    let lines = c.args.declared.now in
    let ns = c.args.slots.now in
    let k = c.slots.n-index in
    let lt : k < length ns = omega arith in
    let made : c.in_ok-slot.slot ≡ placed clash lines c.slots.taken.items (get_or ns k 0) = c.in_ok-slot.ensures ordered ∙ ap (λ ts. placed clash lines ts (get_or ns k 0)) c.as_slice.ensures.value in
    taken-next clash lines c.slots.taken.items c.push.new.self.items (taken_on clash lines [] ns) ns k c.in_ok-slot.slot lt made c.in_ok-push.ensures.items (c.slots.invariant ordered)
