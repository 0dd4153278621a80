use Rattle.std.proofs.Common.{◌≡◌, ◌∙◌, ap, sym, arith, ◌+◌, drop, ◌∷◌, ◌<◌, length, false}
use Rattle.std.proofs.lemmas.List.{drop_more}
use Rattle.mir_func.specs.Binding.{is_implicit_operand, explicit_roles, explicit_operands}
use Rattle.mir_meaning.specs.Rules.{explicit_fit}
use Rattle.machine_verify.specs.Operands.{fits_next}
use Rattle.machine_verify.proofs.Fit.{explicit_stop}
use Rattle.machine_verify.proofs.operands.explicit_fit.Goals as goal

pub returns-then-not-fits_next : goal.returns-then-not-fits_next
returns-then-not-fits_next c =
    let t = c.args.target.now in
    let e = c.args.effect in
    let os = c.args.operands.now in
    let i = c.loop-o.o-index in
    let o = c.o-item.result in
    let rs = explicit_roles c.loop-o.left.now in
    let below : i < length os = omega arith in
    let explicit : is_implicit_operand o ≡ false = grind (arith, c.is_implicit_operand.ensures, c.if-not-is_implicit_operand.true) in
    let unfit : fits_next t e c.next_role-role.result.0 o ≡ false = grind (arith, c.fits_next.ensures, c.if-not-fits_next.true) in
    sym (c.loop-o.invariant
    ∙ (ap (λ xs. explicit_fit t e rs (explicit_operands xs)) (drop_more os i o below ∙ ap (λ x. x ∷ drop (i + 1) os) (sym c.o-item.is))
    ∙ explicit_stop t e rs c.next_role-role.result.0 o (drop (i + 1) os) c.next_role-role.ensures.role explicit unfit))
