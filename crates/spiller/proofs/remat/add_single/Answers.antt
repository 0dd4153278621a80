use Rattle.std.proofs.Common.{[], ◌∷◌, ◌∙◌, None, Some, ap, sym}
use Rattle.std.proofs.lemmas.Result.{on_ok_weaker}
use Rattle.mir_func.specs.Binding.{effect_of}
use Rattle.spiller.specs.Listed.{keyed_effect, keyed_operands}
use Rattle.spiller.specs.Views.{spilling_of}
use Rattle.spiller.proofs.ListSteps.{lists-same}
use Rattle.spiller.proofs.remat.add_single.Goals as goal

pub returns-in-None : goal.returns-in-None
returns-in-None c = λ form.
    let i = c.args.instr.now in
    let e = sym c.effect_of.ensures ∙ c.in-None.is in
    on_ok_weaker c.add_instr.result
    (λ l. lists-same c.args.view c.args.definitions.now (λ s. keyed_operands s (i ∷ [])) (λ s. keyed_effect s i (effect_of c.args.view.target.now i) i.operands) c.args.readings.now.items c.add_instr.new.readings.items
    (λ slot facts. ap (λ q. keyed_effect (spilling_of c.args.view slot facts) i q i.operands) (sym e)) l)
    (c.add_instr.ensures form)

pub returns-in-Some : goal.returns-in-Some
returns-in-Some c = λ form.
    let i = c.args.instr.now in
    let e = sym c.effect_of.ensures ∙ c.in-Some.is in
    on_ok_weaker c.add_by_effect.result
    (λ l. lists-same c.args.view c.args.definitions.now (λ s. keyed_effect s i (Some c.in-Some.effect) i.operands) (λ s. keyed_effect s i (effect_of c.args.view.target.now i) i.operands) c.args.readings.now.items c.add_by_effect.new.readings.items
    (λ slot facts. ap (λ q. keyed_effect (spilling_of c.args.view slot facts) i q i.operands) (sym e)) l)
    (c.add_by_effect.ensures form)
