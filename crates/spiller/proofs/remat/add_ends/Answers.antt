use Rattle.std.proofs.Common.{◌∙◌, ap, map, flat_map}
use Rattle.std.proofs.lemmas.Result.{on_ok_weaker}
use Rattle.spiller.specs.Additions.{own_uses}
use Rattle.spiller.specs.Views.{way_of}
use Rattle.spiller.proofs.ListSteps.{first-ways, lists-operands}
use Rattle.spiller.proofs.remat.add_ends.Goals as goal

pub returns : goal.returns
returns c = λ forms.
    let view = c.args.view in
    let is = c.args.instrs.now in
    on_ok_weaker c.add_all_tied.result
    (λ l. lists-operands view c.args.definitions.now is c.as_slice.result.now c.args.readings.now.items c.add_end_ways.new.readings.items c.add_all_tied.new.readings.items forms
    (ap (map (way_of view.v)) c.as_slice.ensures.value ∙ first-ways view.v c.new-ways.result.items c.add_all_ways.new.ways.items (flat_map (own_uses view.target.now view.live.now.func view.v) is) c.new-ways.ensures.items c.in_ok-add_all_ways.ensures)
    (c.in_ok-add_end_ways.ensures forms) l)
    c.add_all_tied.ensures
