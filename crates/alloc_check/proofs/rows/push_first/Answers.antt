use Rattle.std.proofs.Common.{◌++◌, ◌∷◌, [], Some, refl, subst, ap, ◌∙◌}
use Rattle.meaning.specs.declared.types.Row.TheVariants.{FirstSilent}
use Rattle.alloc_check.specs.Bare.{SilentItem}
use Rattle.alloc_check.proofs.Pairs.{in-first}
use Rattle.alloc_check.specs.Compared.{IsSilent}
use Rattle.alloc_check.proofs.rows.push_first.Goals as goal

pub returns-in_ok-push-in-Some-clause-sides : goal.returns-in_ok-push-in-Some-clause-sides
returns-in_ok-push-in-Some-clause-sides c =
    let silent : SilentItem c.args.t.now c.args.f.now c.args.b.now c.args.i.now (Some c.in-Some.writes) =
    subst (SilentItem c.args.t.now c.args.f.now c.args.b.now c.args.i.now) c.in-Some.is c.in_ok-silent_writes.ensures.sides in
    in-first c.args.t.now c.args.f.now c.args.b.now c.args.i.now c.args.rows.now c.push.new.self c.in-Some.writes silent
    (c.in_ok-push-in-Some.ensures.ok ∙ ap (λ r. c.args.rows.now ++ FirstSilent r c.in-Some.writes ∷ []) c.new.ensures)

pub returns-in_ok-push-in-Some-clause-exact : goal.returns-in_ok-push-in-Some-clause-exact
returns-in_ok-push-in-Some-clause-exact c =
    let silent : IsSilent c.args.t.now c.args.f.now c.args.i.now (Some c.in-Some.writes) = subst (IsSilent c.args.t.now c.args.f.now c.args.i.now) c.in-Some.is c.in_ok-silent_writes.ensures.exact in
    let old = c.args.rows.now in (
      silent.0,
      c.in_ok-push-in-Some.ensures.ok ∙ (ap (λ r. old ++ FirstSilent r c.in-Some.writes ∷ []) c.new.ensures ∙ ap (λ ws. old ++ FirstSilent [] ws ∷ []) silent.1),
    )

pub returns-in-None-clause-exact : goal.returns-in-None-clause-exact
returns-in-None-clause-exact c = (subst (IsSilent c.args.t.now c.args.f.now c.args.i.now) c.in-None.is c.in_ok-silent_writes.ensures.exact, refl)
