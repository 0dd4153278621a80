use Rattle.std.proofs.Common.{◌≡◌, ◌+◌, Bool, length}
use Rattle.mir_meaning.specs.Points.{Point}
use Rattle.live_lanes.specs.Tells.{touching_ids}
use Rattle.live_edits.specs.Runs.{edits_of}
use Rattle.split_kit.specs.PartEdits.{ShowsParts}
use Rattle.split_kit.proofs.WalkLaw.{IsLeft}
use Rattle.split_kit.proofs.block_walk.all_edits.Given as goal

abbrev pub invariant-walk : goal.invariant-walk
invariant-walk l =
    let live = l.view.live.now in
    (test : Point → Bool) → ShowsParts live.table live.func l.view.v l.marks test → l.touched ≡ touching_ids live.func l.view.v → IsLeft live.table live.func l.view.v l.marks test l.ids_left l.marks_left (edits_of l.edits.items)

abbrev pub decreases-walk : goal.decreases-walk
decreases-walk l = length l.ids_left + length l.marks_left
