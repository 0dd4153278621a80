use Rattle.std.proofs.Common.{◌≤◌, ◌∙◌, None, List, length, get_or, sym, subst, arith}
use Rattle.std.proofs.lemmas.List.{take_all}
use Rattle.live_lanes.specs.declared.live.LiveFunc.{LiveFunc}
use Rattle.live_lanes.specs.Looks.{InOrder}
use Rattle.interference.specs.declared.saved_lists.AssignedPiece.{AssignedPiece}
use Rattle.interference.specs.ChangedLists.{extent_now}
use Rattle.interference.specs.EditedPieces.{stays_or_comes, whole_by, HoldThose}
use Rattle.interference.proofs.EditedPieces.{one-more-held, found-there, one-taken}
use Rattle.interference.proofs.unit_table.UnitTable.hold_pieces.Goals as goal

pub pieces-preserved : goal.pieces-preserved
pieces-preserved c =
    let live = c.args.live.now in
    let slots = live.table.order.slots in
    let ps : List AssignedPiece = c.args.pieces.now in
    let none : AssignedPiece = record { range = 0; unit = 0; piece = record { lane = 0; block = 0; start = None } } in
    let k = c.pieces.piece-index in
    let p : AssignedPiece = get_or ps k none in
    record {
      put = λ m same may held holds.
          subst (λ (xs : List AssignedPiece). HoldThose slots (whole_by m live.table) (stays_or_comes ps xs) c.add_piece.new.self) (sym (one-taken ps k none c.pieces-test.true))
          (one-more-held m live same ps k none c.pieces-test.true c.args.self.now c.pieces.self c.add_piece.new.self may (c.pieces.invariant.there (subst (λ (y : LiveFunc). InOrder y.table) same may.order)) held (c.pieces.invariant.put m same may held holds) c.in_ok-add_piece.ensures.ok);
      there = λ order u b. found-there slots (extent_now live.table p) p c.pieces.self c.add_piece.new.self (c.in_ok-add_piece.ensures.ok order) u b ∙ c.pieces.invariant.there order u b;
      back = λ start back. c.in_ok-add_piece.ensures.back start (c.pieces.invariant.back start back);
    }

pub returns-clause-ok : goal.returns-clause-ok
returns-clause-ok c = λ m same may held holds.
    let live = c.args.live.now in
    let ps : List AssignedPiece = c.args.pieces.now in
    let past : length ps ≤ c.pieces.piece-index = omega (arith, c.pieces-test.false) in
    subst (λ (xs : List AssignedPiece). HoldThose live.table.order.slots (whole_by m live.table) (stays_or_comes ps xs) c.pieces.self) (take_all c.pieces.piece-index ps past) (c.pieces.invariant.put m same may held holds)
