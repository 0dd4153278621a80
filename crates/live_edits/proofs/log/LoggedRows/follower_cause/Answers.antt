use Rattle.std.proofs.Common.{Some, sym, ap, ◌∙◌}
use Rattle.std.specs.Prelude.{find}
use Rattle.live_lanes.specs.Graph.{is_live}
use Rattle.live_lanes.specs.Entered.{causes}
use Rattle.live_edits.proofs.AskFound.{follower-found, none-follows}
use Rattle.live_edits.proofs.log.LoggedRows.follower_cause.Goals as goal

pub returns-in-Some-clause-found : goal.returns-in-Some-clause-found
returns-in-Some-clause-found c = λ slots lasts live.
    let s = c.args.spot in
    let rows = c.args.self.now.rows.rows.items in
    follower-found slots c.args.flow.now rows s.lane s.block s.index (Some c.in-Some.next) (lasts c.if-not-leads_out.false)
    (sym c.in-Some.is ∙ (c.live_block.ensures ∙ ap (λ bs. find (λ x. is_live (causes rows s.lane x 0)) bs) c.successors.ensures))

pub returns-in-None-clause-whole : goal.returns-in-None-clause-whole
returns-in-None-clause-whole c = λ slots lasts dead.
    let s = c.args.spot in
    let rows = c.args.self.now.rows.rows.items in
    none-follows slots c.args.flow.now rows s.lane s.block s.index c.live_block.result
    (c.live_block.ensures ∙ ap (λ bs. find (λ x. is_live (causes rows s.lane x 0)) bs) c.successors.ensures) c.in-None.is
