use Rattle.std.proofs.Common.{◌≡◌, ◌++◌, ◌∷◌, [], ◌+◌, List, take, get_or, sym, ◌∙◌, subst, arith, rules}
use Rattle.live_lanes.specs.declared.row.Cause.TheVariants as reasons
use Rattle.live_edits.specs.declared.pieces.Need.{Need}
use Rattle.live_edits.specs.Logged.{LogsLives}
use Rattle.live_edits.specs.Pieces.{HasAll, KeepsPieces}
use Rattle.live_edits.specs.Fallen.{spots_of, LosesAll}
use Rattle.live_edits.proofs.Logged.{lives-same, lives-then}
use Rattle.live_edits.proofs.KeptPieces.{pieces-same, pieces-then}
use Rattle.live_edits.proofs.FallNeeds.{LosesOne, passes-one, loses-one, loses-none, loses-more, taken-more, around-more}
use Rattle.live_edits.proofs.SpotLists.{has-first}
use Rattle.live_edits.proofs.log.LoggedRows.lose_all.Goals as goal
use Rattle.live_edits.proofs.log.LoggedRows.lose_all.Goals.{then-eq+in_ok-lose_cause, else-eq}

abbrev nothing : Need
nothing = record { spot = record { lane = 0; block = 0; index = 0; near = 0 }; cause = reasons.None }

pub needs-init : goal.needs-init
needs-init c = record {
  loses = loses-none c.args.self.now.rows.rows.items c.args.fallen.now.items;
  around = has-first c.args.around.now.spots.items;
  pieces = pieces-same c.args.self.now.rows.rows.items;
  logged = lives-same c.args.self.now;
}

pub needs-preserved : goal.needs-preserved
needs-preserved c =
    let old = c.args.self.now.rows.rows.items in
    let mid = c.needs.self.rows.rows.items in
    let needs = c.args.needs.now in
    let k = c.needs.need-index in
    let need = get_or needs k nothing in
    let more : take (k + 1) needs ≡ take k needs ++ need ∷ [] = taken-more needs k nothing (omega arith) in
    let one : LosesOne mid c.if-eq.self.rows.rows.items need c.needs.fallen.items c.if-eq.fallen.items =
    elim c.if-eq.branch [
      | then-eq+in_ok-lose_cause w ↦
          let is : c.cause_of.result ≡ need.cause = search rules in
          rw (w.self-is, w.fallen-is) (loses-one mid w.lose_cause.new.self.rows.rows.items need c.needs.fallen.items w.lose_cause.new.fallen.items (sym c.cause_of.ensures ∙ is) w.in_ok-lose_cause.ensures.given w.in_ok-lose_cause.ensures.fallen)
      | else-eq w ↦
          let other : c.cause_of.result ≡ need.cause → ⊥ = λ e. search rules in
          rw (w.self-is, w.fallen-is) (passes-one mid need c.needs.fallen.items (λ e. other (c.cause_of.ensures ∙ e)))
    ] in
    let kept : KeepsPieces mid c.if-eq.self.rows.rows.items =
    elim c.if-eq.branch [ then-eq+in_ok-lose_cause w ↦ rw w.self-is w.in_ok-lose_cause.ensures.pieces | else-eq w ↦ rw w.self-is (pieces-same mid) ] in
    let log : LogsLives c.needs.self c.if-eq.self =
    elim c.if-eq.branch [ then-eq+in_ok-lose_cause w ↦ rw w.self-is w.in_ok-lose_cause.ensures.logged | else-eq w ↦ rw w.self-is (lives-same c.needs.self) ] in
    let i = c.needs.invariant in
    record {
      loses = subst (λ (ns : List Need). LosesAll old c.if-eq.self.rows.rows.items ns c.args.fallen.now.items c.if-eq.fallen.items) (sym more)
          (loses-more old mid c.if-eq.self.rows.rows.items (take k needs) need c.args.fallen.now.items c.needs.fallen.items c.if-eq.fallen.items i.loses i.pieces one);
      around = subst (λ (ns : List Need). HasAll c.add.new.self.spots.items (c.args.around.now.spots.items ++ spots_of ns)) (sym more)
          (around-more c.args.around.now.spots.items c.needs.around.spots.items c.add.new.self.spots.items (take k needs) need i.around c.in_ok-add.ensures.has);
      pieces = pieces-then old mid c.if-eq.self.rows.rows.items i.pieces kept;
      logged = lives-then c.args.self.now c.needs.self c.if-eq.self i.logged log;
    }

pub returns-in_err-lose_cause-clause-logged : goal.returns-in_err-lose_cause-clause-logged
returns-in_err-lose_cause-clause-logged c = lives-then c.args.self.now c.needs.self c.lose_cause.new.self c.needs.invariant.logged c.lose_cause.ensures.logged

pub returns-in_err-add-clause-logged : goal.returns-in_err-add-clause-logged
returns-in_err-add-clause-logged c =
    let log : LogsLives c.needs.self c.if-eq.self =
    elim c.if-eq.branch [ then-eq+in_ok-lose_cause w ↦ rw w.self-is w.in_ok-lose_cause.ensures.logged | else-eq w ↦ rw w.self-is (lives-same c.needs.self) ] in
    lives-then c.args.self.now c.needs.self c.if-eq.self c.needs.invariant.logged log
