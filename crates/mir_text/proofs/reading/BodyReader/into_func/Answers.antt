use Rattle.std.proofs.Common.{◌≡◌, None, ◌∙◌, refl, ap, sym, subst}
use Rattle.mir_read.specs.Body.{BodyValue, closed, operands_of}
use Rattle.mir_read.specs.Ranges.{classes_of}
use Rattle.mir_text.specs.BodyLines.{IsFunctionWithin}
use Rattle.mir_text.proofs.Bodies.{function_is}
use Rattle.mir_text.proofs.Within.{function_small}
use Rattle.mir_text.proofs.reading.BodyReader.into_func.Goals as goal

pub returns-clause-value : goal.returns-clause-value
returns-clause-value c =
    let b : BodyValue = record { done = c.done.inside.done; opened = c.done.inside.opened; instrs = c.done.inside.instrs; next_id = c.done.inside.next_id } in
    let classes = c.in_ok-classes.ensures ∙ ap classes_of c.get.ensures in
    let body = c.done.view_is ∙ c.in_ok-done.ensures.value ∙ ap (λ (x : BodyValue). closed c.args.target.now x None) c.into_inner.ensures in
    function_is c.args.self c.into_inner-name.result b (closed c.args.target.now c.args.self.body None) c.name_or_none.result c.in_ok-classes.field-0 c.into_inner-name.ensures body c.name_or_none.ensures classes

pub returns-clause-within : goal.returns-clause-within
returns-clause-within c = λ n h.
    let r = c.args.self in
    let b : BodyValue = record { done = c.done.inside.done; opened = c.done.inside.opened; instrs = c.done.inside.instrs; next_id = c.done.inside.next_id } in
    let classes = c.in_ok-classes.ensures ∙ ap classes_of c.get.ensures in
    let ids : b.next_id ≡ r.body.next_id = ap (λ (x : BodyValue). x.next_id) c.done.view_is ∙ c.in_ok-done.ensures.ids ∙ ap (λ (x : BodyValue). x.next_id) c.into_inner.ensures in
    let operands : operands_of b ≡ operands_of r.body = ap operands_of c.done.view_is ∙ c.in_ok-done.ensures.operands ∙ ap operands_of c.into_inner.ensures in
    let same = function_is r c.into_inner-name.result b b c.name_or_none.result c.in_ok-classes.field-0 c.into_inner-name.ensures refl c.name_or_none.ensures classes in
    subst (IsFunctionWithin n) (sym same) (function_small n r b h ids operands)
