use Rattle.std.proofs.Common.{◌∙◌, ap, arith, refl, subst, sym, true, ◌≡◌}
use Rattle.std.proofs.lemmas.List.{take_all}
use Rattle.mir_meaning.specs.Paths.{has}
use Rattle.spiller.proofs.ListSteps.{no-empty, no-true, take-has}
use Rattle.spiller.proofs.remat.has_repeatable.Goals as goal

pub touched-init : goal.touched-init
touched-init c = λ finds p j b i stands there h. absurd (no-empty i.id h)

pub touched-preserved : goal.touched-preserved
touched-preserved c = λ finds p j b i stands there h.
    take-has c.args.touched.now c.touched.id-index _ i.id _ c.touched-test.true h
    (c.touched.invariant finds p j b i stands there)
    (λ same. sym (c.is_repeatable_id.ensures finds p j b i stands there same) ∙ c.if-is_repeatable_id.false)

pub returns-then-is_repeatable_id : goal.returns-then-is_repeatable_id
returns-then-is_repeatable_id c = λ e. absurd (no-true e)

pub returns : goal.returns
returns c = λ e finds p j b i stands there h.
    c.touched.invariant finds p j b i stands there (subst (λ ns. has i.id ns ≡ true) (sym (take_all c.touched.id-index c.args.touched.now (omega arith))) h)
