use Rattle.std.proofs.Common.{◌∙◌, List, [], None, Some, ap, sym}
use Rattle.std.specs.Prelude.{option_copied}
use Rattle.spiller.specs.declared.remat.RematSource.{RematSource}
use Rattle.spiller.proofs.remat.Remat.sources_at.Goals as goal

pub returns-in-None : goal.returns-in-None
returns-in-None c = ap (λ q. elim q as (λ q. List RematSource) [ None ↦ [] | Some v ↦ v.items ]) (sym (ap option_copied c.in-None.is) ∙ c.get.ensures.value)

pub returns-in-Some : goal.returns-in-Some
returns-in-Some c = c.as_slice.ensures.value ∙ ap (λ q. elim q as (λ q. List RematSource) [ None ↦ [] | Some v ↦ v.items ]) (sym (ap option_copied c.in-Some.is) ∙ c.get.ensures.value)
