use Rattle.std.proofs.Common.{refl, sym, ◌∙◌, get_or}
use Rattle.live_edits.specs.declared.pieces.PieceSpot.{PieceSpot}
use Rattle.live_lanes.specs.Ends.{row_end}
use Rattle.live_lanes.specs.Lasting.{AllRise}
use Rattle.live_lanes.proofs.Gives.{all-rise}
use Rattle.live_edits.specs.Pieces.{node_of}
use Rattle.live_lanes.proofs.Basics.{none-among}
use Rattle.live_edits.proofs.Logged.{lives-same, lives-then}
use Rattle.live_edits.proofs.EndSteps.{ended-more, wrong-there, end-stays, end-given}
use Rattle.live_edits.proofs.log.LoggedRows.end_again.Goals as goal
use Rattle.live_edits.proofs.log.LoggedRows.end_again.Goals.{in-Some+in_ok-set_end, in_default}

abbrev no-spot : PieceSpot
no-spot = record { lane = 0; block = 0; index = 0; near = 0 }

pub returns-in_err-set_end-clause-logged : goal.returns-in_err-set_end-clause-logged
returns-in_err-set_end-clause-logged c = lives-then c.args.self.now c.pieces.self c.set_end.new.self c.pieces.invariant.logged c.in_err-set_end.ensures.logged

pub pieces-init : goal.pieces-init
pieces-init c = record {
  ended = λ r. record { shapes_stay = λ l b. refl; causes_stay = λ l b n. refl; ended = λ n m. absurd (none-among n m); kept = λ n h. refl };
  logged = lives-same c.args.self.now;
}

pub pieces-preserved : goal.pieces-preserved
pieces-preserved c =
    let slots = c.args.order.now.slots in
    let flow = c.args.flow.now in
    let old = c.args.self.now.rows.rows.items in
    let mid = c.pieces.self.rows.rows.items in
    let pieces = c.args.pieces.now in
    let k = c.pieces.spot-index in
    let x = get_or pieces k no-spot in
    let so = c.pieces.invariant.ended in
    let rises = λ (r : AllRise slots old). all-rise slots old mid (so r).shapes_stay r in
    elim c.match-new_end.branch [
      | in-Some+in_ok-set_end w ↦ (rw w.self-is record {
        ended = λ r.
            let end = w.in-Some.end in
            let new = w.in-Some.ensures.changed (rises r) in
            ended-more slots flow old mid w.set_end.new.self.rows.rows.items pieces k (so r) x no-spot c.pieces-test.true refl end new.0 (end-given mid w.set_end.new.self.rows.rows.items (node_of x) end (w.in_ok-set_end.ensures.given (wrong-there slots flow mid x.lane x.block x.index (λ e. new.1 (e ∙ sym new.0)))));
        logged = lives-then c.args.self.now c.pieces.self w.set_end.new.self c.pieces.invariant.logged w.in_ok-set_end.ensures.logged;
      })
      | in_default w ↦ (rw w.self-is record {
        ended = λ r.
            let end = row_end mid x.lane x.block x.index in
            ended-more slots flow old mid mid pieces k (so r) x no-spot c.pieces-test.true refl end (c.new_end.ensures.same (rises r) w.in_default.is) (end-stays mid (node_of x) end refl);
        logged = c.pieces.invariant.logged;
      })
    ]
