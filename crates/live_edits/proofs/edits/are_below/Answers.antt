use Rattle.std.proofs.Common.{◌<◌, ◌≤◌, length, arith}
use Rattle.live_edits.proofs.EditedParts.{below-none, below-more}
use Rattle.live_edits.proofs.edits.are_below.Goals as goal

pub notes-preserved : goal.notes-preserved
notes-preserved c =
    let within : c.notes.notes-index < length c.args.all.now = omega arith in
    λ rest. c.notes.invariant (below-more c.args.count c.args.all.now c.notes.notes-index c.notes-item.result within c.notes-item.is c.if-notes-count.false rest)

pub returns : goal.returns
returns c =
    let past : length c.args.all.now ≤ c.notes.notes-index = omega arith in
    λ e. c.notes.invariant (below-none c.args.count c.args.all.now c.notes.notes-index past)
