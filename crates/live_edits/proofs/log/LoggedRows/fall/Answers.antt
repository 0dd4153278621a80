use Rattle.std.proofs.Common.{◌<◌, ◌≤◌, List, length, arith, subst, sym}
use Rattle.live_lanes.specs.Lasting.{AllRise}
use Rattle.live_edits.specs.declared.pieces.Need.{Need}
use Rattle.live_edits.specs.Pieces.{node_of}
use Rattle.live_edits.specs.Updated.{AreNeedsOf}
use Rattle.live_edits.proofs.Logged.{lives-same, lives-then}
use Rattle.live_edits.proofs.KeptPieces.{pieces-same, pieces-then}
use Rattle.live_edits.proofs.FallLoop.{falls-none, falls-more, falls-all}
use Rattle.live_edits.proofs.log.LoggedRows.fall.Goals as goal
use Rattle.live_edits.proofs.log.LoggedRows.fall.Goals.{else-fallen-test, then-fallen-test+then-k-len}

pub fallen-init : goal.fallen-init
fallen-init c = record {
  falls = falls-none c.args.order.now.slots c.args.flow.now c.args.self.now.rows.rows.items c.args.fallen.now.items c.args.around.now.spots.items;
  pieces = pieces-same c.args.self.now.rows.rows.items;
  logged = lives-same c.args.self.now;
}

pub fallen-preserved : goal.fallen-preserved
fallen-preserved c =
    let old = c.args.self.now.rows.rows.items in
    let mid = c.fallen.self.rows.rows.items in
    let new = c.lose_all.new.self.rows.rows.items in
    let fallen = c.fallen.fallen in
    let within : c.fallen.k < length fallen.items = omega (arith, fallen.ok.0, c.len.ensures, c.if-k-len.false) in
    let found = λ (rise : AllRise c.args.order.now.slots mid).
    subst (λ (ns : List Need). AreNeedsOf c.args.order.now.slots c.args.flow.now mid (node_of c.index-piece.result.now) ns) (sym c.as_slice.ensures.value) (c.in_ok-find_needs.ensures rise) in
    let i = c.fallen.invariant in
    record {
      falls = falls-more c.args.order.now.slots c.args.flow.now old mid new c.fallen.k c.index-piece.result.now c.as_slice.result.now c.args.fallen.now.items fallen.items c.lose_all.new.fallen.items c.args.around.now.spots.items c.fallen.around.spots.items c.lose_all.new.around.spots.items
          i.falls within c.index-piece.ensures found c.in_ok-lose_all.ensures.loses c.in_ok-lose_all.ensures.around i.pieces;
      pieces = pieces-then old mid new i.pieces c.in_ok-lose_all.ensures.pieces;
      logged = lives-then c.args.self.now c.fallen.self c.lose_all.new.self i.logged c.in_ok-lose_all.ensures.logged;
    }

pub returns-in_err-lose_all-clause-logged : goal.returns-in_err-lose_all-clause-logged
returns-in_err-lose_all-clause-logged c = lives-then c.args.self.now c.fallen.self c.lose_all.new.self c.fallen.invariant.logged c.lose_all.ensures.logged

pub returns : goal.returns
returns c =
    let fallen = c.fallen.fallen in
    let all : length fallen.items ≤ c.fallen.k = elim c.fallen-test.branch [ else-fallen-test w ↦ omega (arith, fallen.ok.0, fallen.ok.1, fallen.small, w.fallen-test.false) | then-fallen-test+then-k-len w ↦ omega (arith, fallen.ok.0, w.len.ensures, w.if-k-len.true) ] in
    let i = c.fallen.invariant in
    record {
      falls = falls-all c.args.order.now.slots c.args.flow.now c.args.self.now.rows.rows.items c.fallen.self.rows.rows.items c.fallen.k c.args.fallen.now.items fallen.items c.args.around.now.spots.items c.fallen.around.spots.items i.falls all;
      pieces = i.pieces;
      logged = i.logged;
    }
