use Rattle.split_choose.specs.Built.{counted}
use Rattle.split_choose.proofs.Finding.{none-changed, one-changed}
use Rattle.split_choose.proofs.spans.add_uses_at.Goals as goal

pub returns-in-Some : goal.returns-in-Some
returns-in-Some c up =
    one-changed (counted c.args.target.now c.args.v c.args.instr.now) c.args.position c.args.spans.now c.in-Some.at c.index-spans-at.result c.count_uses.new.span up (c.in-Some.ensures.place up) c.index-spans-at.is c.count_uses.ensures

pub returns-in_default : goal.returns-in_default
returns-in_default c up = none-changed (counted c.args.target.now c.args.v c.args.instr.now) c.args.position c.args.spans.now (c.in_default.ensures.place up)
