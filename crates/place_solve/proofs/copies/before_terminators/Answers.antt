use Rattle.std.proofs.Common.{◌≡◌, ◌∙◌, arith, sym, ap, true}
use Rattle.mir_func.specs.declared.func.Instr.{Instr}
use Rattle.mir_func.specs.Binding.{does, is_terminator}
use Rattle.mir_meaning.specs.Points.{Start}
use Rattle.place_solve.specs.declared.position.PlacePosition.TheVariants as arounds
use Rattle.place_solve.proofs.Copying.{before_found, before_is, before_none}
use Rattle.place_solve.proofs.copies.before_terminators.Goals as goal

pub returns-then-is_terminator : goal.returns-then-is_terminator
returns-then-is_terminator c =
    let t = c.args.target.now in
    let e : c.get-i.result.now ≡ c.i-item.result = cc in
    let ends : does is_terminator t c.i-item.result ≡ true = ap (does is_terminator t) (sym e) ∙ sym c.is_terminator.ensures ∙ c.if-is_terminator.true in
    ap (λ (i : Instr). arounds.Before i.id) e
    ∙ before_found t c.args.instrs.now c.each.i-index c.i-item.result c.each.at _ (omega arith) c.i-item.is ends c.each.invariant
    ∙ before_is t (Start c.args.number) c.args.instrs.now

pub returns : goal.returns
returns c = before_none c.args.target.now c.args.instrs.now c.each.i-index c.each.at _ (omega arith) c.each.invariant ∙ before_is c.args.target.now (Start c.args.number) c.args.instrs.now
