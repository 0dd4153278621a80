use Rattle.std.proofs.Common.{[], ◌∷◌, ◌∙◌, Some, ap, sym}
use Rattle.std.proofs.lemmas.Result.{on_ok_weaker}
use Rattle.target_base.specs.declared.types.Effect.TheVariants as effects
use Rattle.mir_func.specs.Binding.{register_at}
use Rattle.spiller.specs.Listed.{keyed_effect, keyed_operands}
use Rattle.spiller.specs.Views.{spilling_of}
use Rattle.spiller.proofs.ListSteps.{copied-none, lists-same}
use Rattle.spiller.proofs.remat.add_copies.Goals as goal

pub returns-in-None : goal.returns-in-None
returns-in-None c = λ form.
    let i = c.args.instr.now in
    let e = ap (λ os. register_at os 0) (sym c.as_slice.ensures) ∙ (sym c.register_at.ensures ∙ c.in-None.is) in
    on_ok_weaker c.add_instr.result
    (λ l. lists-same c.args.view c.args.definitions.now (λ s. keyed_operands s (i ∷ [])) (λ s. keyed_effect s i (Some effects.Copy) i.operands) c.args.readings.now.items c.add_instr.new.readings.items
    (λ slot facts. copied-none (spilling_of c.args.view slot facts) i i.operands e) l)
    (c.add_instr.ensures form)

pub returns-in-Some : goal.returns-in-Some
returns-in-Some c = λ form. c.add_copied.ensures (ap (λ os. register_at os 0) (sym c.as_slice.ensures) ∙ (sym c.register_at.ensures ∙ c.in-Some.is)) form
