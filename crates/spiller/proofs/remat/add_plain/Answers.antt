use Rattle.std.proofs.Common.{[], ◌∷◌}
use Rattle.std.proofs.lemmas.Result.{on_ok_weaker}
use Rattle.spiller.specs.Listed.{keyed_move}
use Rattle.spiller.proofs.ListSteps.{lists-one, move-asks}
use Rattle.spiller.proofs.remat.add_plain.Goals as goal

pub returns : goal.returns
returns c =
    let view = c.args.view in
    let i = c.args.instr.now in
    on_ok_weaker c.add_lone.result
    (λ l. lists-one view c.args.definitions.now (λ s. keyed_move s i c.args.index) c.move_demand-demand.result (i.id ∷ []) c.args.readings.now.items c.add_lone.new.readings.items
    (λ slot facts. move-asks view i c.args.index c.move_demand-demand.result slot facts c.move_demand-demand.ensures) l)
    c.add_lone.ensures
