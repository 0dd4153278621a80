use Rattle.std.proofs.Common.{rules, ◌≡◌, ◌-◌, None, length, get_or, arith}
use Rattle.interference.specs.declared.saved_lists.AssignedPiece.{AssignedPiece}
use Rattle.live_edits.proofs.RiseSteps.{among-at}
use Rattle.interference.proofs.matrix_edit.is_last.Goals as goal

pub returns : goal.returns
returns c = λ e.
    let pieces = c.args.pieces.now in
    let none : AssignedPiece = record { range = 0; unit = 0; piece = record { lane = 0; block = 0; start = None } } in
    let same : c.args.piece ≡ get_or pieces (length pieces - 1) none = search rules in
    among-at pieces (length pieces - 1) c.args.piece none (omega (arith, c.if-count-eq0.false)) same
