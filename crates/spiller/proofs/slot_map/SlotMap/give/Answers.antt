use Rattle.std.proofs.Common.{◌∙◌, ◌++◌, ℕ, List, cond, sym, ap, arith}
use Rattle.std.specs.Prelude.{nat_eq, Option, Some}
use Rattle.mir_meaning.specs.Registers.{has_number}
use Rattle.spiller.specs.declared.slot_map.RangeSlot.{RangeSlot}
use Rattle.spiller.specs.Slots.{slot_among, given_numbers}
use Rattle.spiller.specs.RangeSlots.{pairs_of}
use Rattle.spiller.specs.SlotMaps.{slots_of}
use Rattle.spiller.proofs.SlotsGiven.{next-is, own-new, with-new, slot-more, pairs-more, numbers-more, below-more, given-more}
use Rattle.spiller.proofs.slot_map.SlotMap.give.Goals as goal

pub invariant_of-self-2 : goal.invariant_of-self-2
invariant_of-self-2 c =
    let m = c.args.self.now in
    let o = c.original-original.result in
    let slot : RangeSlot = record { original = o; number = m.next; class = c.unwrap_or.result } in
    let list = c.in_ok-put_slot.ensures.list in
    let new = c.put_slot.new.given.items in
    let given = given_numbers (pairs_of m.given.items) in
    let next = c.free_from-self.result in
    let free = c.free_from-self.ensures in
    let sat = c.saturating_add.ensures in
    record {
      finds = λ q.
          c.in_ok-put_slot.ensures.number q
          ∙ ap (λ (r : Option ℕ). cond (nat_eq o q) (Some m.next) r) (m.finds q)
          ∙ sym (ap (λ (g : List (ℕ × ℕ)). slot_among g q) (pairs-more m.given.items new slot list)
          ∙ slot-more (pairs_of m.given.items) o m.next q (ap (slot_among (pairs_of m.given.items)) c.original-original.ensures ∙ (sym c.slot_of.ensures ∙ c.in_default.is)));
      none_below = λ n h.
          ap (λ (g : List ℕ). has_number (m.taken.keys ++ g) n) (numbers-more m.given.items new slot list)
          ∙ below-more m.taken.keys given m.next next (omega arith) c.free_from-self.type_inv m.none_below (λ q lo hi. free.below q (omega arith) hi) n h;
      not_taken = λ small. free.free small;
      given_below = λ n small h.
          given-more m.taken.keys given m.next next (omega arith) c.free_from-self.type_inv m.given_below n small (sym (ap (λ (g : List ℕ). has_number g n) (numbers-more m.given.items new slot list)) ∙ h);
    }

pub returns-clause-number : goal.returns-clause-number
returns-clause-number c = λ fits.
    let m = c.args.self.now in
    own-new (slots_of m) c.args.v m.next (sym c.slot_of.ensures ∙ c.in_default.is) (next-is m.taken.keys (given_numbers (pairs_of m.given.items)) m.next m.none_below m.not_taken m.given_below fits)

pub returns-clause-slots : goal.returns-clause-slots
returns-clause-slots c = λ fits.
    let m = c.args.self.now in
    let o = c.original-original.result in
    let slot : RangeSlot = record { original = o; number = m.next; class = c.unwrap_or.result } in
    let none = sym c.slot_of.ensures ∙ c.in_default.is in
    with-new (slots_of m) c.args.v o m.next (pairs_of c.put_slot.new.given.items) none c.original-original.ensures
    (own-new (slots_of m) c.args.v m.next none (next-is m.taken.keys (given_numbers (pairs_of m.given.items)) m.next m.none_below m.not_taken m.given_below fits))
    (pairs-more m.given.items c.put_slot.new.given.items slot c.in_ok-put_slot.ensures.list)
