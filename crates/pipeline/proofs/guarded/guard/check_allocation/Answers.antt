use Rattle.std.proofs.Common.{◌≡◌, true, rules, subst}
use Rattle.target_base.specs.declared.types.Target.{Target}
use Rattle.alloc_check.specs.Verdict.{IsRight}
use Rattle.alloc_check.specs.Looks.{KeepsReserved}
use Rattle.source_text.specs.Keeps.{keeps_text}
use Rattle.pipeline.proofs.GuardLemmas.Texts.{same_texts}
use Rattle.pipeline.proofs.guarded.guard.check_allocation.Goals as goal

pub returns-clause-right : goal.returns-clause-right
returns-clause-right c =
    let f = c.args.source.now.func in
    let g = c.in-Some.made.func in
    record {
      right = subst (λ (t : Target). IsRight t f g) c.target-target.ensures (search rules);
      reserved = subst (λ (t : Target). KeepsReserved t f g) c.target-target.ensures (search rules);
      named = same_texts g.name f.name (search rules);
      kept = subst (λ (t : Target). keeps_text t f g ≡ true) c.target-target.ensures (search rules);
    }
