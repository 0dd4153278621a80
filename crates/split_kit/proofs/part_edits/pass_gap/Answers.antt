use Rattle.std.proofs.Common.{◌≡◌, ◌∙◌, ap, ℕ, take}
use Rattle.std.specs.Prelude.{flat_map}
use Rattle.live_edits.specs.Runs.{edits_of}
use Rattle.split_kit.specs.PartEdits.{copy_edits, gap_live, part_edits, stand_before}
use Rattle.split_kit.proofs.PartLists.{ids-taken, within-taken, three}
use Rattle.split_kit.proofs.part_edits.pass_gap.Goals as goal

pub returns-clause-edits : goal.returns-clause-edits
returns-clause-edits c = λ own finds order within same few.
    let live = c.args.view.live.now in
    let count : ℕ = stand_before live.table.order.slots c.args.gap.before c.args.ids.now in
    let is_count : c.before_gap-count.result ≡ count = c.before_gap-count.ensures ∙ ap (λ s. stand_before s c.args.gap.before c.args.ids.now) c.slots.ensures in
    three (edits_of c.args.edits.now.items) (edits_of c.add_parts.new.edits.items) (edits_of c.add_copy.new.edits.items)
    (flat_map (part_edits live.func c.args.view.v c.args.labels.0) (take count own))
    (copy_edits live.func c.args.gap (gap_live live.table live.func.blocks c.args.view.v c.args.position c.args.gap.before) c.args.labels.0 c.args.labels.1)
    (c.in_ok-add_parts.ensures (take count own) finds (within-taken live.func.blocks count own within) (c.split_slice.ensures.first ∙ (ap (λ n. take n c.args.ids.now) is_count ∙ (ap (take count) same ∙ ids-taken count own))) few)
    (c.in_ok-add_copy.ensures order few)
