-- Where siblings are apart, each range is apart from its slot.
use Rattle.std.proofs.Common.{◌≡◌, ◌∙◌, ℕ, true, false, Option, Some, None, refl, sym, subst}
use Rattle.target_base.specs.declared.types.Target.{Target}
use Rattle.mir_func.specs.Value.{Function}
use Rattle.mir_meaning.specs.Points.{Point}
use Rattle.spiller.specs.Slots.{Slots, next_slot, own_slot, slot_of}
use Rattle.spill_laws.specs.Refined.{SlotApart}
use Rattle.sibling_laws.specs.Siblings.{AreSiblingsApart, SiblingsGiveSlotApart, SlotPoint}
use Rattle.sibling_laws.proofs.Originals.{next-free, own-given, own-next}

-- the next slot is nowhere
pub next-nowhere : (t : Target) (f : Function) (s : Slots) → AreSiblingsApart t f s → (p : Point) → SlotPoint t f (next_slot s) p → ⊥
next-nowhere t f s apart p h = let z : true ≡ false = sym (apart.given (next_slot s) p h) ∙ next-free s in cc

pub siblings-give-slot-apart : SiblingsGiveSlotApart
siblings-give-slot-apart t f s v apart h = go (slot_of s v) refl
  where
    go : (q : Option ℕ) → slot_of s v ≡ q → SlotApart t f v (own_slot s v)
    go (Some n) e = subst (SlotApart t f v) (sym (own-given s v n e)) (apart.slots v n h e)
    go None e = subst (SlotApart t f v) (sym (own-next s v e)) (λ p k j w a b. next-nowhere t f s apart p (j, w, b))
