use Rattle.std.proofs.Common.{◌≡◌, ◌≤◌, length, take}
use Rattle.live_lanes.specs.Ordered.{all_ids, last_id}
use Rattle.live_edits.proofs.draft.last_id_before.Given as goal

abbrev pub invariant-blocks-2 : goal.invariant-blocks-2
invariant-blocks-2 l = record {
  within : l.left ≤ length l.blocks;
  same : last_id (all_ids (take l.left l.blocks)) ≡ last_id (all_ids (take l.count l.blocks));
}

abbrev pub decreases-blocks-2 : goal.decreases-blocks-2
decreases-blocks-2 l = l.left
