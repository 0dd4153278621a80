use Rattle.std.proofs.Common.{[], ◌∷◌, ◌∙◌, Some, cond, ap, sym}
use Rattle.std.proofs.lemmas.Result.{on_ok_weaker}
use Rattle.target_base.specs.declared.types.Effect.TheVariants as effects
use Rattle.mir_func.specs.Binding.{register_at}
use Rattle.spiller.specs.Listed.{keyed_effect, keyed_move, keyed_operands}
use Rattle.spiller.specs.Setting.{is_own}
use Rattle.spiller.specs.Views.{spilling_of}
use Rattle.spiller.proofs.ListSteps.{lists-same, stored-first, stored-none}
use Rattle.spiller.proofs.remat.add_stores.Goals as goal

pub returns-in-None : goal.returns-in-None
returns-in-None c = λ form.
    let i = c.args.instr.now in
    let e = ap (λ os. register_at os 0) (sym c.as_slice.ensures) ∙ (sym c.register_at.ensures ∙ c.in-None.is) in
    on_ok_weaker c.add_instr.result
    (λ l. lists-same c.args.view c.args.definitions.now (λ s. keyed_operands s (i ∷ [])) (λ s. keyed_effect s i (Some effects.Spill) i.operands) c.args.readings.now.items c.add_instr.new.readings.items
    (λ slot facts. stored-none (spilling_of c.args.view slot facts) i i.operands e) l)
    (c.add_instr.ensures form)

pub returns-in-Some : goal.returns-in-Some
returns-in-Some c = λ form.
    let i = c.args.instr.now in
    let o = c.in-Some.from in
    let e = ap (λ os. register_at os 0) (sym c.as_slice.ensures) ∙ (sym c.register_at.ensures ∙ c.in-Some.is) in
    on_ok_weaker c.add_store.result
    (λ l. lists-same c.args.view c.args.definitions.now (λ s. cond (is_own s o) (keyed_move s i o.index ∷ []) []) (λ s. keyed_effect s i (Some effects.Spill) i.operands) c.args.readings.now.items c.add_store.new.readings.items
    (λ slot facts. stored-first (spilling_of c.args.view slot facts) i i.operands o e) l)
    c.add_store.ensures
