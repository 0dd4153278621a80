use Rattle.std.proofs.Common.{◌≡◌, sym, ap, ◌∙◌, true, false}
use Rattle.alloc_check.specs.Marks.{source_slot, is_marked}
use Rattle.alloc_check.proofs.Marked.{stays-unmarked}
use Rattle.alloc_check.proofs.cells.stays_by.Goals as goal

pub returns-then-not-is_marked : goal.returns-then-not-is_marked
returns-then-not-is_marked c =
    let marks = c.args.marks.now.fine.items in
    let slot = source_slot 256 c.args.source.now in
    let e : is_marked marks slot ≡ false =
    ap (λ m. is_marked m slot) (sym c.as_slice.ensures.value) ∙ (ap (is_marked c.as_slice.result.now) (sym c.source_slot.ensures) ∙ (sym c.is_marked.ensures ∙ c.if-not-is_marked.true)) in
    sym (stays-unmarked 256 marks c.args.writes.now c.args.source.now c.requires.fine e)
