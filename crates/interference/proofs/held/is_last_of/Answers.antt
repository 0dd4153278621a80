use Rattle.std.proofs.Common.{rules, ◌≡◌, ◌-◌, get_or, arith}
use Rattle.live_edits.proofs.RiseSteps.{among-at}
use Rattle.interference.proofs.held.is_last_of.Goals as goal

pub returns : goal.returns
returns c = λ e.
    let xs = c.args.stretches.now in
    let h = c.args.held in
    let same : h ≡ get_or xs (c.args.count - 1) h = search rules in
    among-at xs (c.args.count - 1) h h (omega arith) same
