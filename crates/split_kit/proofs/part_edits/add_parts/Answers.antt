use Rattle.std.proofs.Common.{arith, get_or}
use Rattle.live_edits.specs.Runs.{edits_of}
use Rattle.split_kit.specs.PartEdits.{part_edits}
use Rattle.split_kit.proofs.PartLists.{IsNext, next-of, flat-next}
use Rattle.split_kit.proofs.part_edits.add_parts.Goals as goal

pub ids-preserved : goal.ids-preserved
ids-preserved c = λ own finds within same few.
    let n : IsNext own c.ids.id-index (get_or c.args.ids.now c.ids.id-index 0) = next-of own c.args.ids.now c.ids.id-index 0 same (omega arith) in
    flat-next (part_edits c.args.view.live.now.func c.args.view.v c.args.label) own c.ids.id-index _ n (edits_of c.args.edits.now.items) (edits_of c.ids.edits.items) (edits_of c.add_part_at.new.edits.items)
    (c.ids.invariant own finds within same few)
    (c.in_ok-add_part_at.ensures n.instr finds (within n.instr n.member) n.same few)
