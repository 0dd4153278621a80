use Rattle.std.proofs.Common.{arith, sym, ap, ◌∙◌}
use Rattle.live_edits.specs.declared.pieces.PieceSpot.{PieceSpot}
use Rattle.live_edits.proofs.AskLists.{asks-same, asks-more}
use Rattle.live_edits.proofs.log.LoggedRows.ask.Goals.{then-is_live+in_ok-push, else-is_live}
use Rattle.live_edits.proofs.log.LoggedRows.ask.Goals as goal

pub pieces-preserved : goal.pieces-preserved
pieces-preserved c = λ rise.
    let slots = c.args.order.now.slots in
    let rows = c.args.self.now.rows.rows.items in
    let first : PieceSpot = record { lane = 0; block = 0; index = 0; near = 0 } in
    elim c.if-is_live.branch [
      | then-is_live+in_ok-push w ↦ asks-more slots c.args.flow.now rows c.args.pieces.now c.pieces.spot-index first (omega arith) c.args.reasons.now.items c.pieces.reasons.items (c.pieces.invariant rise) c.if-is_live.reasons.items c.reason-cause.result
          (ap (λ v. v.items) w.reasons-is ∙ w.in_ok-push.ensures.items) (c.reason-cause.ensures.found rise (sym c.is_live.ensures ∙ w.if-is_live.true))
      | else-is_live w ↦ asks-same slots c.args.flow.now rows c.args.pieces.now c.pieces.spot-index first (omega arith) c.args.reasons.now.items c.pieces.reasons.items (c.pieces.invariant rise) c.if-is_live.reasons.items
          (ap (λ v. v.items) w.reasons-is) (λ dead. c.reason-cause.ensures.whole rise dead (sym c.is_live.ensures ∙ w.if-is_live.false))
    ]
