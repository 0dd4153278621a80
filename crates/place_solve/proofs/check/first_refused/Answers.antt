use Rattle.std.proofs.Common.{ap, refl, subst, sym}
use Rattle.std.proofs.lemmas.Result.{IfOk-weaker}
use Rattle.mir_func.specs.Value.{Function}
use Rattle.mir_meaning.specs.declared.Form.TheVariants as forms
use Rattle.mir_meaning.specs.Valid.{IsValid}
use Rattle.live_laws.specs.Effects.Shaped.{AreClasses}
use Rattle.place_solve.specs.Told.{IsRefused}
use Rattle.place_solve.proofs.Refused.{refused_final}
use Rattle.place_solve.proofs.check.first_refused.Goals as goal

pub returns : goal.returns
returns c =
    let t = c.args.live.now.target in
    let g = c.args.live.now.func in
    let f = c.func-f.result.now in
    let inside = ap (λ (v : Function). v.blocks) c.f.view_is in
    IfOk-weaker c.first_unassignable.result _ _ (λ q h. subst (λ (s : Function). AreClasses t s → IsValid t forms.Source s → IsRefused t s q) c.func-f.ensures (refused_final c.args.live t t f g g c.args.live.now.table c.f.inside.blocks c.f.inside.next_id q refl refl (sym c.func-f.ensures) c.requires inside c.f.invariant.once h)) c.first_unassignable.ensures
