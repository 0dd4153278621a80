use Rattle.std.proofs.Common.{[], ◌∷◌, ◌∙◌, Some, ap, sym}
use Rattle.std.proofs.lemmas.Result.{on_ok_weaker}
use Rattle.target_base.specs.declared.types.Effect.TheVariants as effects
use Rattle.spiller.specs.Listed.{keyed_effect, keyed_operands}
use Rattle.spiller.specs.Views.{spilling_of}
use Rattle.spiller.proofs.ListSteps.{lists-same, other-effect}
use Rattle.spiller.proofs.Singles.{copy-effect, spill-effect}
use Rattle.spiller.proofs.remat.add_by_effect.Goals as goal

pub returns-then-is_copy : goal.returns-then-is_copy
returns-then-is_copy c = λ form.
    let i = c.args.instr.now in
    let is = copy-effect c.args.effect (sym c.is_copy.ensures ∙ c.if-is_copy.true) in
    on_ok_weaker c.add_copies.result
    (λ l. lists-same c.args.view c.args.definitions.now (λ s. keyed_effect s i (Some effects.Copy) i.operands) (λ s. keyed_effect s i (Some c.args.effect) i.operands) c.args.readings.now.items c.add_copies.new.readings.items
    (λ slot facts. ap (λ e. keyed_effect (spilling_of c.args.view slot facts) i (Some e) i.operands) (sym is)) l)
    (c.add_copies.ensures form)

pub returns-then-is_spill : goal.returns-then-is_spill
returns-then-is_spill c = λ form.
    let i = c.args.instr.now in
    let is = spill-effect c.args.effect (sym c.is_spill.ensures ∙ c.if-is_spill.true) in
    on_ok_weaker c.add_stores.result
    (λ l. lists-same c.args.view c.args.definitions.now (λ s. keyed_effect s i (Some effects.Spill) i.operands) (λ s. keyed_effect s i (Some c.args.effect) i.operands) c.args.readings.now.items c.add_stores.new.readings.items
    (λ slot facts. ap (λ e. keyed_effect (spilling_of c.args.view slot facts) i (Some e) i.operands) (sym is)) l)
    (c.add_stores.ensures form)

pub returns : goal.returns
returns c = λ form.
    let i = c.args.instr.now in
    on_ok_weaker c.add_instr.result
    (λ l. lists-same c.args.view c.args.definitions.now (λ s. keyed_operands s (i ∷ [])) (λ s. keyed_effect s i (Some c.args.effect) i.operands) c.args.readings.now.items c.add_instr.new.readings.items
    (λ slot facts. other-effect (spilling_of c.args.view slot facts) i c.args.effect i.operands (sym c.is_copy.ensures ∙ c.if-is_copy.false) (sym c.is_spill.ensures ∙ c.if-is_spill.false)) l)
    (c.add_instr.ensures form)
