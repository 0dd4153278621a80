use Rattle.std.proofs.Common.{◌∙◌, ap, sym, refl}
use Rattle.live_lanes.proofs.Raised.{on-ok}
use Rattle.spiller.specs.Walks.{rest_behind, touches_at}
use Rattle.spiller.proofs.FlowsGathered.{definition-own, no-definition}
use Rattle.spiller.proofs.reaching.add_definition.Goals as goal

pub returns-then-is_written : goal.returns-then-is_written
returns-then-is_written c =
    let x = c.args.view.live.now.table in
    let flow = c.args.flow.now in
    let rest = c.rest_behind-rest.ensures ∙ ap (rest_behind c.args.id) (c.touches_at.ensures ∙ ap (λ bs. touches_at bs c.position_of-position.result) c.as_slice.ensures.value) in
    record {
      others = on-ok c.add_reached.result c.add_reached.ensures (λ r. r.others);
      own = λ ordered. on-ok c.add_reached.result c.add_reached.ensures (λ r.
          definition-own x c.args.view.v flow c.args.id c.position_of-position.result c.rest_behind-rest.result.now c.args.reached.now.items c.add_reached.new.reached.items (sym (c.is_written.ensures ordered) ∙ c.if-is_written.true) c.position_of-position.ensures rest r);
    }

pub returns : goal.returns
returns c = record {
  others = λ k i n. refl;
  own = λ ordered. no-definition c.args.view.live.now.table c.args.view.v c.args.flow.now c.args.id c.args.reached.now.items (sym (c.is_written.ensures ordered) ∙ c.if-is_written.false);
}
