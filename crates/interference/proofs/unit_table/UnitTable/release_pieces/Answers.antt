use Rattle.std.proofs.Common.{◌≤◌, ◌∙◌, None, List, length, take, get_or, sym, subst, arith}
use Rattle.std.proofs.lemmas.List.{take_all}
use Rattle.interference.specs.declared.saved_lists.AssignedPiece.{AssignedPiece}
use Rattle.interference.specs.ChangedLists.{TakesPiece}
use Rattle.interference.specs.EditedPieces.{stays, HoldThose}
use Rattle.interference.proofs.EditedPieces.{piece-taken, one-taken, changed-there}
use Rattle.interference.proofs.unit_table.UnitTable.release_pieces.Goals as goal

pub pieces-preserved : goal.pieces-preserved
pieces-preserved c =
    let slots = c.args.slots.now in
    let ps : List AssignedPiece = c.args.pieces.now in
    let none : AssignedPiece = record { range = 0; unit = 0; piece = record { lane = 0; block = 0; start = None } } in
    let k = c.pieces.piece-index in
    let p : AssignedPiece = get_or ps k none in
    record {
      taken = λ whole apart holds.
          subst (λ (xs : List AssignedPiece). HoldThose slots whole (stays xs) c.take_piece.new.self) (sym (one-taken ps k none c.pieces-test.true))
          (piece-taken (take k ps) p slots whole c.pieces.self c.take_piece.new.self apart (c.pieces.invariant.taken whole apart holds) c.in_ok-take_piece.ensures.ok);
      there = λ u b. changed-there (TakesPiece slots p.range p.piece.start) p.unit p.piece.block c.pieces.self c.take_piece.new.self c.in_ok-take_piece.ensures.ok u b ∙ c.pieces.invariant.there u b;
      back = λ start back. c.in_ok-take_piece.ensures.back start (c.pieces.invariant.back start back);
    }

pub returns-clause-ok : goal.returns-clause-ok
returns-clause-ok c = λ whole apart holds.
    let ps : List AssignedPiece = c.args.pieces.now in
    let past : length ps ≤ c.pieces.piece-index = omega (arith, c.pieces-test.false) in
    subst (λ (xs : List AssignedPiece). HoldThose c.args.slots.now whole (stays xs) c.pieces.self) (take_all c.pieces.piece-index ps past) (c.pieces.invariant.taken whole apart holds)
