use Rattle.std.proofs.Common.{◌≡◌, ◌+◌, ◌∙◌, refl, sym, subst, length, true, false, arith}
use Rattle.std.specs.Prelude.{codes}
use Rattle.mir_lines.specs.Bytes.{is_word}
use Rattle.mir_read.specs.Body.{is_begun}
use Rattle.mir_text.specs.BodyLines.{IsFunctionWithin}
use Rattle.mir_text.proofs.Within.{function_grows, reading_adds}
use Rattle.mir_text.proofs.Bodies.{ends_here, body_goes}
use Rattle.mir_text.proofs.document.body_or_end.Goals as goal

pub returns-then-is-clause-value : goal.returns-then-is-clause-value
returns-then-is-clause-value c =
    let a : is_word c.args.line.now (codes "...") ≡ true = cc in
    let b : is_begun c.args.reading.body ≡ true = cc in
    ends_here c.args.target.now c.args.names.now c.args.before c.args.reading c.args.line.now c.in_ok-f.f c.args.before refl a b (c.in_ok-f.ensures ∙ c.in_ok-into_func.ensures.value)

pub returns-then-is-clause-within : goal.returns-then-is-clause-within
returns-then-is-clause-within c = λ n h.
    function_grows n (n + length c.args.line.now) c.in_ok-f.f (subst (IsFunctionWithin n) (sym c.in_ok-f.ensures) (c.in_ok-into_func.ensures.within n h)) (omega arith)

pub returns-clause-value : goal.returns-clause-value
returns-clause-value c =
    let a : is_word c.args.line.now (codes "...") ≡ false = cc in
    body_goes c.args.target.now c.args.names.now c.args.before c.args.reading c.args.line.now c.in_ok-line.field-0 c.before-2.inside.items.items c.before-2.view_is a c.in_ok-line.ensures.value

pub returns-clause-within : goal.returns-clause-within
returns-clause-within c = λ n h. reading_adds n (length c.args.line.now) c.args.reading c.in_ok-line.field-0 h c.in_ok-line.ensures.adds
