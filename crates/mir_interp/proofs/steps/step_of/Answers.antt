use Rattle.std.proofs.Common.{◌∙◌, sym, ap, []}
use Rattle.meaning.specs.Code.{Silent}
use Rattle.mir_interp.specs.Decoded.{bare}
use Rattle.mir_interp.proofs.Decoding.{item_none, item_some}
use Rattle.mir_interp.proofs.steps.step_of.Goals as goal

pub returns-in-None : goal.returns-in-None
returns-in-None c = λ b e. ap (Silent []) c.new-nothing.ensures ∙ sym (ap bare (item_none c.args.t.now c.args.f.now b c.args.i.now (sym c.effect_of.ensures ∙ c.in-None.is)))

pub returns-in_ok-step-in-Some : goal.returns-in_ok-step-in-Some
returns-in_ok-step-in-Some c = λ b e. c.in_ok-step-in-Some.ensures b ∙ sym (ap bare (item_some c.args.t.now c.args.f.now b c.args.i.now c.in-Some.e (sym c.effect_of.ensures ∙ c.in-Some.is)))

pub returns-in_ok-step-in-Some-2 : goal.returns-in_ok-step-in-Some-2
returns-in_ok-step-in-Some-2 c = λ b e. c.in_ok-step-in-Some-2.ensures b e ∙ sym (ap bare (item_some c.args.t.now c.args.f.now b c.args.i.now c.in-Some.e (sym c.effect_of.ensures ∙ c.in-Some.is)))
