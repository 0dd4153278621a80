use Rattle.std.proofs.Common.{refl}
use Rattle.live_lanes.specs.Table.{with_cause}
use Rattle.live_edits.proofs.Logged.{lives-same}
use Rattle.live_edits.proofs.Lives.{added-lives, added-pieces, life-lives, cause-back, cause-pieces}
use Rattle.live_edits.proofs.log.LoggedRows.set_cause.Goals as goal

pub returns-in_err-place-clause-pieces : goal.returns-in_err-place-clause-pieces
returns-in_err-place-clause-pieces c = added-pieces c.args.self.now.rows.rows.items c.log_life.new.self.rows.rows.items c.log_life.ensures.rows

pub returns-in_err-place-clause-logged : goal.returns-in_err-place-clause-logged
returns-in_err-place-clause-logged c = added-lives c.args.self.now c.log_life.new.self c.log_life.ensures.rows c.in_err-place.ensures.log

pub returns-clause-pieces : goal.returns-clause-pieces
returns-clause-pieces c =
    let logs = c.in_ok-place.ensures.life in
    cause-pieces c.args.self.now c.log_life.new.self _ c.args.spot c.args.cause logs c.give_cause_at.ensures

pub returns-clause-logged : goal.returns-clause-logged
returns-clause-logged c =
    let logs = c.in_ok-place.ensures.life in
    life-lives c.args.self.now c.log_life.new.self _ c.args.spot (λ v. with_cause v c.args.spot.index c.args.cause) logs c.give_cause_at.ensures refl (cause-back c.args.spot.index c.args.cause)

pub returns-then-spot-len-clause-logged : goal.returns-then-spot-len-clause-logged
returns-then-spot-len-clause-logged c = lives-same c.args.self.now
