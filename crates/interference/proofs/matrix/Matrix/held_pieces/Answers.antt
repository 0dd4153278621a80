use Rattle.std.proofs.Common.{◌∙◌, ◌≤◌, None, List, length, take, get_or, sym, subst, arith}
use Rattle.std.proofs.lemmas.List.{take_all, get_or_default}
use Rattle.live_lanes.specs.declared.ask.extent.ChangedPiece.{ChangedPiece}
use Rattle.interference.specs.HeldLanes.{AreHeldPieces, IsHolder}
use Rattle.interference.proofs.HeldLanes.{no-pieces, pieces-more}
use Rattle.interference.proofs.matrix.Matrix.held_pieces.Goals as goal

pub pieces-init : goal.pieces-init
pieces-init c = record {
  holder = λ table. subst (λ l. IsHolder c.args.self.now l c.holder_of-last.result.holder) (sym c.holder_of-last.ensures.lane) (c.holder_of-last.ensures.holder table);
  pieces = λ table. subst (AreHeldPieces c.args.self.now (take 0 c.pieces-piece-items.result.now)) (sym c.new-pieces.ensures.items) (no-pieces c.args.self.now c.pieces-piece-items.result.now);
}

pub pieces-preserved : goal.pieces-preserved
pieces-preserved c =
    let m = c.args.self.now in
    let cs : List ChangedPiece = c.pieces-piece-items.result.now in
    let none : ChangedPiece = record { lane = 0; block = 0; start = None } in
    record {
      holder = λ table. subst (λ l. IsHolder m l c.holder_after-last.result.holder) (sym c.holder_after-last.ensures.lane) (c.holder_after-last.ensures.holder table (c.pieces.invariant.holder table));
      pieces = λ table. pieces-more m cs c.pieces.piece-index (get_or cs c.pieces.piece-index none) c.holder_after-last.result.holder c.pieces.pieces.items c.add_held.new.pieces.items c.pieces-test.true (get_or_default cs c.pieces.piece-index none (get_or cs c.pieces.piece-index none) c.pieces-test.true) (c.holder_after-last.ensures.holder table (c.pieces.invariant.holder table)) (c.pieces.invariant.pieces table) c.in_ok-add_held.ensures;
    }

pub returns : goal.returns
returns c = λ table.
    let m = c.args.self.now in
    let cs : List ChangedPiece = c.pieces-piece-items.result.now in
    let past : length cs ≤ c.pieces.piece-index = omega (arith, c.pieces-test.false) in
    subst (λ (xs : List ChangedPiece). AreHeldPieces m xs c.pieces.pieces.items) (take_all c.pieces.piece-index cs past ∙ c.pieces-piece-items.ensures) (c.pieces.invariant.pieces table)
