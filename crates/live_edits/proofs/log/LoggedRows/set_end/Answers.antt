use Rattle.std.proofs.Common.{refl, arith, ◌<◌, length}
use Rattle.live_lanes.specs.Table.{with_end}
use Rattle.live_edits.proofs.Logged.{lives-same}
use Rattle.live_edits.proofs.Lives.{added-lives, added-causes, life-lives, end-back, end-causes, end-absent}
use Rattle.live_edits.proofs.log.LoggedRows.set_end.Goals as goal

pub returns-in_err-place-clause-causes : goal.returns-in_err-place-clause-causes
returns-in_err-place-clause-causes c = added-causes c.args.self.now.rows.rows.items c.log_life.new.self.rows.rows.items c.log_life.ensures.rows

pub returns-in_err-place-clause-logged : goal.returns-in_err-place-clause-logged
returns-in_err-place-clause-logged c = added-lives c.args.self.now c.log_life.new.self c.log_life.ensures.rows c.in_err-place.ensures.log

pub returns-clause-causes : goal.returns-clause-causes
returns-clause-causes c =
    let logs = c.in_ok-place.ensures.life in
    end-causes c.args.self.now c.log_life.new.self _ c.args.spot c.args.end logs c.give_end_at.ensures

pub returns-clause-logged : goal.returns-clause-logged
returns-clause-logged c =
    let logs = c.in_ok-place.ensures.life in
    life-lives c.args.self.now c.log_life.new.self _ c.args.spot (λ v. with_end v c.args.spot.index c.args.end) logs c.give_end_at.ensures refl (end-back c.args.spot.index c.args.end)

pub returns-clause-absent : goal.returns-clause-absent
returns-clause-absent c =
    let logs = c.in_ok-place.ensures.life in
    let rows = c.args.self.now.rows.rows in
    let within : c.args.spot.lane < length rows.items = omega (arith, rows.ok.0, c.len.ensures, c.if-spot-len.false) in
    end-absent c.args.self.now c.log_life.new.self _ c.args.spot c.args.end logs c.give_end_at.ensures within

pub returns-then-spot-len-clause-logged : goal.returns-then-spot-len-clause-logged
returns-then-spot-len-clause-logged c = lives-same c.args.self.now
