use Rattle.std.proofs.Common.{◌<◌, ◌≤◌, arith, sym, length, subst}
use Rattle.live_edits.specs.Pieces.{node_of}
use Rattle.live_edits.specs.Updated.{AreNeedsOf, Raises}
use Rattle.live_edits.proofs.Logged.{lives-then}
use Rattle.live_edits.proofs.KeptPieces.{pieces-then}
use Rattle.live_edits.proofs.RiseRuns.{risen-first, risen-more, risen-all}
use Rattle.live_edits.proofs.log.LoggedRows.rise.Goals as goal
use Rattle.live_edits.proofs.log.LoggedRows.rise.Goals.{else-risen-test, then-risen-test+then-k-len}

pub risen-init : goal.risen-init
risen-init c =
    let old = c.args.self.now.rows.rows.items in
    let new = c.revive_all.new.self.rows.rows.items in
    let risen = c.revive_all.new.risen.items in
    let around = c.args.around.now.spots.items in
    let around' = c.revive_all.new.around.spots.items in
    let done = c.in_ok-revive_all.ensures in
    record {
      some = risen-first c.args.order.now.slots c.args.flow.now old new c.args.reasons.now risen around around' done.pieces (subst (λ from. Raises old new c.args.reasons.now from risen around around') c.new-risen.ensures.items done.raises);
      pieces = done.pieces;
      logged = done.logged;
    }

pub risen-preserved : goal.risen-preserved
risen-preserved c =
    let slots = c.args.order.now.slots in
    let flow = c.args.flow.now in
    let old = c.args.self.now.rows.rows.items in
    let mid = c.risen.self.rows.rows.items in
    let new = c.revive_all-in-risen.new.self.rows.rows.items in
    let risen = c.risen.risen in
    let x = c.index.result.now in
    let within : c.risen.k < length risen.items = omega (arith, risen.ok.0, c.len.ensures, c.if-k-len.false) in
    let now = c.risen.invariant in
    let done = c.in_ok-revive_all-2.ensures in
    record {
      some = risen-more slots flow old mid new c.args.reasons.now c.risen.k risen.items c.args.around.now.spots.items c.risen.around.spots.items now.some now.pieces done.pieces x x within c.index.ensures c.as_slice.result.now (λ r. subst (λ ns. AreNeedsOf slots flow mid (node_of x) ns) (sym c.as_slice.ensures.value) (c.in_ok-find_needs.ensures r)) c.revive_all-in-risen.new.risen.items c.revive_all-in-risen.new.around.spots.items done.raises;
      pieces = pieces-then old mid new now.pieces done.pieces;
      logged = lives-then c.args.self.now c.risen.self c.revive_all-in-risen.new.self now.logged done.logged;
    }

pub returns-clause-rises : goal.returns-clause-rises
returns-clause-rises c =
    let risen = c.risen.risen in
    let all : length risen.items ≤ c.risen.k = elim c.risen-test.branch [ else-risen-test w ↦ omega (arith, risen.ok.0, risen.ok.1, risen.small, w.risen-test.false) | then-risen-test+then-k-len w ↦ omega (arith, risen.ok.0, w.len.ensures, w.if-k-len.true) ] in
    risen-all c.args.order.now.slots c.args.flow.now c.args.self.now.rows.rows.items c.risen.self.rows.rows.items c.args.reasons.now c.risen.k risen.items c.args.around.now.spots.items c.risen.around.spots.items all c.risen.invariant.some

pub returns-in_err-revive_all-2-clause-logged : goal.returns-in_err-revive_all-2-clause-logged
returns-in_err-revive_all-2-clause-logged c = lives-then c.args.self.now c.risen.self c.revive_all-in-risen.new.self c.risen.invariant.logged c.in_err-revive_all-2.ensures.logged
