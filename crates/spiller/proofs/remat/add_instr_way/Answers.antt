use Rattle.std.proofs.Common.{◌∙◌, ◌++◌, [], ◌∷◌, ap}
use Rattle.std.proofs.lemmas.Result.{on_ok_weaker}
use Rattle.spiller.specs.Listed.{keyed_way, readers}
use Rattle.spiller.specs.Views.{way_of}
use Rattle.spiller.proofs.ListSteps.{lists-one, way-asks}
use Rattle.spiller.proofs.remat.add_instr_way.Goals as goal

pub returns : goal.returns
returns c = λ form.
    let view = c.args.view in
    let is = c.args.instr.now ∷ [] in
    let w = c.args.way in
    let by = c.add_reader.new.by.items in
    on_ok_weaker c.add_reading.result
    (λ l. lists-one view c.args.definitions.now (λ s. keyed_way s is (way_of view.v w)) c.way_demand.result by c.args.readings.now.items c.add_reading.new.readings.items
    (λ slot facts. way-asks view is w c.way_demand.result by slot facts (form, tt)
    (c.in_ok-add_reader.ensures ∙ ap (λ xs. xs ++ readers view (way_of view.v w) is) c.new-by.ensures.items)
    (c.way_demand.ensures.key view.v) c.way_demand.ensures.index c.way_demand.ensures.wish) l)
    c.add_reading.ensures
