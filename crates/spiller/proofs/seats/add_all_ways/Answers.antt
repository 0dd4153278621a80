use Rattle.std.proofs.Common.{map}
use Rattle.spiller.specs.Views.{way_of}
use Rattle.spiller.specs.Additions.{own_uses}
use Rattle.spiller.proofs.Steps.{all-ways-step}
use Rattle.spiller.proofs.seats.add_all_ways.Goals as goal

pub instrs-preserved : goal.instrs-preserved
instrs-preserved c =
    let v = c.args.view.v in
    all-ways-step (own_uses c.args.view.target.now c.args.view.live.now.func v) c.args.instrs.now c.instrs.instr-index c.instr-item.result c.get.result.now
    (map (way_of v) c.args.ways.now.items) (map (way_of v) c.instrs.ways.items) (map (way_of v) c.add_ways.new.ways.items)
    c.instrs-test.true c.instr-item.is c.get.ensures c.instrs.invariant c.in_ok-add_ways.ensures
