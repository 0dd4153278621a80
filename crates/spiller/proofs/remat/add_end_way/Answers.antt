use Rattle.std.proofs.Common.{◌∙◌, ap}
use Rattle.std.proofs.lemmas.Result.{on_ok_weaker}
use Rattle.spiller.specs.Listed.{keyed_way}
use Rattle.spiller.specs.Planned.{way_key}
use Rattle.spiller.specs.Views.{way_of}
use Rattle.spiller.proofs.ListSteps.{lists-one, way-asks}
use Rattle.spiller.proofs.remat.add_end_way.Goals as goal

pub returns : goal.returns
returns c = λ forms.
    let view = c.args.view in
    let is = c.args.instrs.now in
    let w = c.args.way in
    let by = c.in_ok-by.by.items in
    on_ok_weaker c.add_reading.result
    (λ l. lists-one view c.args.definitions.now (λ s. keyed_way s is (way_of view.v w)) c.way_demand.result by c.args.readings.now.items c.add_reading.new.readings.items
    (λ slot facts. way-asks view is w c.way_demand.result by slot facts forms
    c.in_ok-by.ensures
    (c.way_demand.ensures.key view.v ∙ ap (λ n. way_key n (way_of view.v w)) c.place_name.ensures) c.way_demand.ensures.index c.way_demand.ensures.wish) l)
    c.add_reading.ensures
