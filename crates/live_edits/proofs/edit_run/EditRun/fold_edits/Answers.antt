use Rattle.std.proofs.Common.{◌<◌, length, get_or, refl, arith}
use Rattle.live_edits.specs.Folded.{edit_at}
use Rattle.live_edits.proofs.JoiningFound.{edits-more}
use Rattle.live_edits.proofs.edit_run.EditRun.fold_edits.Goals as goal

pub touched-preserved : goal.touched-preserved
touched-preserved c =
    let k = c.touched.id-index in
    let ids = c.args.touched.now in
    let within : k < length ids = omega arith in
    λ order. edits-more (edit_at c.args.target.now c.args.self.now.draft.func c.args.join) c.touched.edits.items c.push.new.self.items c.in_ok-edit_at.field-0 ids k 0 (get_or ids k 0) within refl
    c.in_ok-push.ensures.items (c.in_ok-edit_at.ensures order) (c.touched.invariant order)
