use Rattle.std.proofs.Common.{◌≡◌, ◌∙◌, ◌+◌, ap, arith}
use Rattle.spiller.specs.Views.{gap_before, own_setting, planned, way_of}
use Rattle.spiller.specs.Readings.{source_in}
use Rattle.spiller.specs.Seating.{IsGiven}
use Rattle.spiller.proofs.Steps.{all-got, give-plan-step, give-tinies-step}
use Rattle.spiller.proofs.seats.give_ways.Goals as goal

pub ways-preserved : goal.ways-preserved
ways-preserved c =
    let v = c.args.view.v in
    let n = c.args.plan.now.next_range in
    let k = c.ways.way-index in
    let inv = c.ways.invariant in
    let new = c.in_ok-give_way.ensures in
    let further : n + k + 1 ≡ n + (k + 1) = omega arith in
    record {
      tinies = give-tinies-step v n k c.ways.plan.next_range c.args.ways.now _ c.ways.reads.items c.push.new.self.items c.in_ok-give_way.field-0 c.ways-test.true inv.tinies inv.next new.tiny c.in_ok-push.ensures.items;
      plan = λ finds sources given. give-plan-step v (own_setting c.args.view) (gap_before c.args.view c.args.at) c.args.at sources n k c.ways.plan.next_range c.args.ways.now _ (planned c.args.plan.now) (planned c.ways.plan) (planned c.give_way.new.plan) c.ways-test.true inv.next (inv.plan finds sources given) (new.plan finds sources (all-got (IsGiven c.args.view.live.now.func (source_in c.args.remat.now) c.args.at sources) (way_of v) c.args.ways.now k _ c.ways-test.true given));
      next = new.range ∙ (ap (λ m. m + 1) inv.next ∙ further);
    }
