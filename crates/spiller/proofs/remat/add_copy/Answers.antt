use Rattle.std.proofs.Common.{◌∙◌, [], ◌∷◌, ap, sym}
use Rattle.std.proofs.lemmas.Result.{on_ok_weaker}
use Rattle.spiller.specs.Listed.{keyed_copy}
use Rattle.spiller.specs.Rematerialised.{if_whole}
use Rattle.spiller.proofs.ListSteps.{copy-asks, lists-if, lists-if-not, lists-one}
use Rattle.spiller.proofs.remat.add_copy.Goals as goal

pub returns-then-not-is_own : goal.returns-then-not-is_own
returns-then-not-is_own c =
    lists-if-not c.args.view c.args.definitions.now c.args.from.now (λ s. keyed_copy s c.args.instr.now c.args.to.now c.args.from.now) c.args.readings.now.items (sym c.is_own.ensures ∙ c.if-not-is_own.true)

pub returns : goal.returns
returns c =
    let view = c.args.view in
    let ds = c.args.definitions.now in
    let i = c.args.instr.now in
    let d = c.args.to.now in
    let o = c.args.from.now in
    let old = c.args.readings.now.items in
    let new = c.add_lone.new.readings.items in
    on_ok_weaker c.add_lone.result
    (λ l. lists-if view ds o (λ s. keyed_copy s i d o) old new (sym c.is_own.ensures ∙ c.if-not-is_own.false)
    (lists-one view ds (λ s. keyed_copy s i d o) c.move_demand-demand.result (i.id ∷ []) old new
    (λ slot facts. copy-asks view i d o c.if_whole-wish.result c.move_demand-demand.result slot facts c.move_demand-demand.ensures (c.if_whole-wish.ensures ∙ ap (if_whole o.index) c.copy_wish.ensures)) l))
    c.add_lone.ensures
