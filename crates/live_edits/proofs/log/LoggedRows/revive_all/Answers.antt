use Rattle.std.proofs.Common.{refl, sym, ◌∙◌, get_or}
use Rattle.live_lanes.specs.declared.row.Cause.TheVariants as why
use Rattle.live_edits.specs.declared.pieces.Need.{Need}
use Rattle.live_edits.proofs.Logged.{lives-same, lives-then}
use Rattle.live_edits.proofs.KeptPieces.{pieces-same, pieces-then}
use Rattle.live_edits.proofs.RiseSteps.{raised-none, raised-all, raised-passes, raised-rises}
use Rattle.live_edits.proofs.log.LoggedRows.revive_all.Goals as goal
use Rattle.live_edits.proofs.log.LoggedRows.revive_all.Goals.{then-is_live+in_ok-add, else-is_live+in_ok-set_cause+in_ok-push}

abbrev no-need : Need
no-need = record { spot = record { lane = 0; block = 0; index = 0; near = 0 }; cause = why.None }

pub needs-init : goal.needs-init
needs-init c =
    let rows = c.args.self.now.rows.rows.items in
    record { raised = raised-none rows c.args.needs.now c.args.risen.now.items c.args.around.now.spots.items; pieces = pieces-same rows; logged = lives-same c.args.self.now }

pub returns-in_err-set_cause-clause-logged : goal.returns-in_err-set_cause-clause-logged
returns-in_err-set_cause-clause-logged c = lives-then c.args.self.now c.needs.self c.set_cause.new.self c.needs.invariant.logged c.in_err-set_cause.ensures.logged

pub returns-in_err-push-clause-logged : goal.returns-in_err-push-clause-logged
returns-in_err-push-clause-logged c = lives-then c.args.self.now c.needs.self c.set_cause.new.self c.needs.invariant.logged c.in_ok-set_cause.ensures.logged

pub needs-preserved : goal.needs-preserved
needs-preserved c =
    let old = c.args.self.now.rows.rows.items in
    let mid = c.needs.self.rows.rows.items in
    let needs = c.args.needs.now in
    let k = c.needs.need-index in
    let from = c.args.risen.now.items in
    let around = c.args.around.now.spots.items in
    let so = c.needs.invariant.raised in
    let x = get_or needs k no-need in
    let live = c.is_live.ensures in
    elim c.if-is_live.branch [
      | then-is_live+in_ok-add w ↦ (rw (w.self-is, w.risen-is, w.around-is) record {
        raised = raised-passes old mid needs k from c.needs.risen.items around c.needs.around.spots.items so x no-need c.needs-test.true refl w.add.new.self.spots.items w.in_ok-add.ensures.has (sym live ∙ w.if-is_live.true);
        pieces = c.needs.invariant.pieces;
        logged = c.needs.invariant.logged;
      })
      | else-is_live+in_ok-set_cause+in_ok-push w ↦ (rw (w.self-is, w.risen-is, w.around-is) record {
        raised = raised-rises old mid needs k from c.needs.risen.items around c.needs.around.spots.items so x no-need c.needs-test.true refl w.set_cause.new.self.rows.rows.items w.push.new.self.items c.needs.invariant.pieces w.in_ok-push.ensures.items (sym live ∙ w.if-is_live.false) w.in_ok-set_cause.ensures.given;
        pieces = pieces-then old mid w.set_cause.new.self.rows.rows.items c.needs.invariant.pieces w.in_ok-set_cause.ensures.pieces;
        logged = lives-then c.args.self.now c.needs.self w.set_cause.new.self c.needs.invariant.logged w.in_ok-set_cause.ensures.logged;
      })
    ]

pub returns-clause-raises : goal.returns-clause-raises
returns-clause-raises c = raised-all c.args.self.now.rows.rows.items c.needs.self.rows.rows.items c.args.needs.now c.needs.need-index c.args.risen.now.items c.needs.risen.items c.args.around.now.spots.items c.needs.around.spots.items c.needs-test.false c.needs.invariant.raised
