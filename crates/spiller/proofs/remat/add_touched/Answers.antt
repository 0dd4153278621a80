use Rattle.std.proofs.Common.{◌∙◌, [], ◌∷◌, ap, refl, subst, sym}
use Rattle.std.specs.Prelude.{option_copied}
use Rattle.std.proofs.lemmas.Result.{on_ok_weaker}
use Rattle.mir_func.specs.Binding.{does, effect_of, is_terminator}
use Rattle.live_laws.proofs.Effects.Moving.{some-same}
use Rattle.spiller.specs.Listed.{keyed_effect, keyed_operands, keyed_readings, place_at}
use Rattle.spiller.specs.Placing.{IsPlainForm}
use Rattle.spiller.specs.Views.{spilling_of}
use Rattle.spiller.proofs.ListSteps.{lists-same}
use Rattle.spiller.proofs.ReadingsListed.{at-one, ends-are, ends-formed, ends-listed, finds, not-none, one-formed}
use Rattle.spiller.proofs.remat.add_touched.Goals as goal

pub returns-in-None : goal.returns-in-None
returns-in-None c = λ b p j i may stands there named. absurd (not-none i (sym (ap option_copied c.in-None.is) ∙ c.instr.ensures (finds c.args.view may) p j b i stands there named))

pub returns-then-is_terminator : goal.returns-then-is_terminator
returns-then-is_terminator c = λ b p j i may stands there named.
    let view = c.args.view in
    let t = view.target.now in
    let same = some-same c.in-Some.instr.now i (sym (ap option_copied c.in-Some.is) ∙ c.instr.ensures (finds view may) p j b i stands there named) in
    let ends = ap (does is_terminator t) (sym same) ∙ (sym c.is_terminator.ensures ∙ c.if-is_terminator.true) in
    let is = c.ends_at.ensures ∙ ends-are view may p j b i stands there c.args.id named in
    on_ok_weaker c.add_ends.result
    (λ l. lists-same view c.args.definitions.now (λ s. keyed_operands s c.ends_at.result.now) (λ s. keyed_readings s (place_at t b i)) c.args.readings.now.items c.add_ends.new.readings.items
    (λ slot facts. ends-listed view may p j b i stands there (spilling_of view slot facts) refl ends c.ends_at.result.now is) l)
    (c.add_ends.ensures (ends-formed view may p j b i stands there ends c.ends_at.result.now is))

pub returns-else-is_terminator : goal.returns-else-is_terminator
returns-else-is_terminator c = λ b p j i may stands there named.
    let view = c.args.view in
    let t = view.target.now in
    let same = some-same c.in-Some.instr.now i (sym (ap option_copied c.in-Some.is) ∙ c.instr.ensures (finds view may) p j b i stands there named) in
    let none = ap (does is_terminator t) (sym same) ∙ (sym c.is_terminator.ensures ∙ c.if-is_terminator.false) in
    on_ok_weaker c.add_single.result
    (λ l. lists-same view c.args.definitions.now (λ s. keyed_effect s c.in-Some.instr.now (effect_of t c.in-Some.instr.now) c.in-Some.instr.now.operands) (λ s. keyed_readings s (place_at t b i)) c.args.readings.now.items c.add_single.new.readings.items
    (λ slot facts. ap (keyed_readings (spilling_of view slot facts)) (ap (λ y. y ∷ []) same ∙ sym (at-one view may p j b i stands there none))) l)
    (c.add_single.ensures (subst IsPlainForm (sym same) (one-formed view may p j b i stands there)))
