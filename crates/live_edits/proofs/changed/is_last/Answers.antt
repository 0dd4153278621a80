use Rattle.std.proofs.Common.{rules, ◌≡◌, ◌-◌, None, length, get_or, arith}
use Rattle.live_lanes.specs.declared.ask.extent.ChangedPiece.{ChangedPiece}
use Rattle.live_edits.proofs.RiseSteps.{among-at}
use Rattle.live_edits.proofs.changed.is_last.Goals as goal

pub returns : goal.returns
returns c = λ e.
    let pieces = c.args.pieces.now in
    let none : ChangedPiece = record { lane = 0; block = 0; start = None } in
    let same : c.args.piece ≡ get_or pieces (length pieces - 1) none = search rules in
    among-at pieces (length pieces - 1) c.args.piece none (omega (arith, c.if-count-eq0.false)) same
