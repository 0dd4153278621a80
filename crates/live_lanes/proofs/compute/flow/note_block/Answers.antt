use Rattle.std.proofs.Common.{subst, ap, ◌∙◌}
use Rattle.live_lanes.specs.Ways.{successors}
use Rattle.live_lanes.specs.Flowing.{NotesAll}
use Rattle.live_lanes.proofs.Raised.{on-ok}
use Rattle.live_lanes.proofs.compute.flow.note_block.Goals as goal

pub returns : goal.returns
returns c = on-ok c.note_at.result c.note_at.ensures (λ r. subst (λ xs. NotesAll c.args.flow.now.items c.note_at.new.flow.items xs c.args.at) (c.as_slice-2.ensures.value ∙ c.in_ok-nexts.ensures.items ∙ c.successors.ensures ∙ ap (λ flow. successors flow c.args.at) c.as_slice.ensures.value) r)
