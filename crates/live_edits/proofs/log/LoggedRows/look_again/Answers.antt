use Rattle.std.proofs.Common.{List, [], length, ◌+◌, ◌++◌, ◌≤◌, sym, ap, subst, arith}
use Rattle.std.proofs.lemmas.List.{drop_all}
use Rattle.live_edits.specs.declared.pieces.PieceSpot.{PieceSpot}
use Rattle.live_lanes.specs.Entered.{causes}
use Rattle.edit_laws.specs.Update.{Falls, falling}
use Rattle.live_edits.specs.declared.log.LoggedRows.{LoggedRows}
use Rattle.live_edits.specs.Pieces.{nodes_of}
use Rattle.live_edits.proofs.Logged.{lives-same, lives-then}
use Rattle.live_edits.proofs.KeptPieces.{pieces-same}
use Rattle.live_edits.proofs.LookedAgain.{RunsSoFar, runs-at-first, LooksSoFar, stays-so-far, loses-so-far}
use Rattle.live_edits.proofs.log.LoggedRows.look_again.Goals.{then-not-holds+in_ok-lose_cause, else-not-holds}
use Rattle.live_edits.proofs.log.LoggedRows.look_again.Goals as goal

pub suspects-init : goal.suspects-init
suspects-init c = record {
  looked = λ touched code told carried.
      let rows = c.args.self.now.rows.rows.items in
      let list = nodes_of c.args.suspects.now in
      subst (λ (fallen : List PieceSpot). RunsSoFar touched code c.args.order.now.slots c.args.flow.now rows rows list list (nodes_of fallen)) (sym c.new-fallen.ensures.items)
      (runs-at-first touched code c.args.order.now.slots c.args.flow.now rows list carried);
  pieces = pieces-same c.args.self.now.rows.rows.items;
  logged = lives-same c.args.self.now;
}

pub returns-in_err-lose_cause-clause-logged : goal.returns-in_err-lose_cause-clause-logged
returns-in_err-lose_cause-clause-logged c = lives-then c.args.self.now c.suspects.self c.lose_cause.new.self c.suspects.invariant.logged c.lose_cause.ensures.logged

pub suspects-preserved : goal.suspects-preserved
suspects-preserved c =
    let ids = c.args.ids.now.keys in
    let slots = c.args.order.now.slots in
    let flow = c.args.flow.now in
    let old = c.args.self.now in
    let suspects = c.args.suspects.now in
    let k = c.suspects.spot-index in
    let none : PieceSpot = record { lane = 0; block = 0; index = 0; near = 0 } in
    elim c.if-not-holds.branch [
      | then-not-holds+in_ok-lose_cause w ↦
          subst (λ (now : LoggedRows). LooksSoFar ids slots flow old now suspects (k + 1) c.if-not-holds.fallen.items) (sym w.self-is)
          (subst (λ (fallen : List PieceSpot). LooksSoFar ids slots flow old w.lose_cause.new.self suspects (k + 1) fallen) (ap (λ fallen. fallen.items) (sym w.fallen-is))
          (loses-so-far ids slots flow old c.suspects.self suspects k c.suspects.fallen.items none c.suspects-test.true c.suspects.invariant w.lose_cause.new.self w.lose_cause.new.fallen.items
          (c.holds.ensures.live w.if-not-holds.true) w.in_ok-lose_cause.ensures.given w.in_ok-lose_cause.ensures.fallen w.lose_cause.ensures.pieces w.lose_cause.ensures.logged))
      | else-not-holds w ↦
          subst (λ (now : LoggedRows). LooksSoFar ids slots flow old now suspects (k + 1) c.if-not-holds.fallen.items) (sym w.self-is)
          (subst (λ (fallen : List PieceSpot). LooksSoFar ids slots flow old c.suspects.self suspects (k + 1) fallen) (ap (λ fallen. fallen.items) (sym w.fallen-is))
          (stays-so-far ids slots flow old c.suspects.self suspects k c.suspects.fallen.items none c.suspects-test.true c.suspects.invariant (λ touched told rise. c.holds.ensures.held touched told rise w.if-not-holds.false)))
    ]

pub returns-clause-looks : goal.returns-clause-looks
returns-clause-looks c = λ touched code told carried.
    let old = c.args.self.now.rows.rows.items in
    let now = c.suspects.self.rows.rows.items in
    let list = nodes_of c.args.suspects.now in
    let fallen = nodes_of c.suspects.fallen.items in
    let past : length c.args.suspects.now ≤ c.suspects.spot-index = omega arith in
    subst (λ todo. Falls touched code (falling (causes old) list [] list) (falling (causes now) todo fallen (list ++ fallen))) (ap nodes_of (drop_all c.suspects.spot-index c.args.suspects.now past))
    (c.suspects.invariant.looked touched code told carried).run
