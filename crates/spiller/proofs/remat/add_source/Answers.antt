use Rattle.std.proofs.Common.{◌∙◌, ◌∷◌, ◌++◌, [], List, None, Some, ap, append-nil, sym}
use Rattle.std.proofs.lemmas.Result.{on_ok_weaker}
use Rattle.spiller.specs.declared.remat.RematSource.{RematSource}
use Rattle.spiller.specs.Readings.{placed_at, sources_at}
use Rattle.spiller.proofs.remat.add_source.Goals as goal

pub returns-in-None : goal.returns-in-None
returns-in-None c = λ n.
    let old = sources_at c.args.sources.now n in
    let key = c.args.reading.now.demand.key in
    sym (ap (λ q. old ++ placed_at n (elim q as (λ q. List RematSource) [ None ↦ [] | Some id ↦ record { key = key; id = id } ∷ [] ])) c.in-None.is ∙ append-nil old)

pub returns-in-Some : goal.returns-in-Some
returns-in-Some c =
    let key = c.args.reading.now.demand.key in
    on_ok_weaker c.put_source.result
    (λ h n. h n ∙ ap (λ q. sources_at c.args.sources.now n ++ placed_at n (elim q as (λ q. List RematSource) [ None ↦ [] | Some id ↦ record { key = key; id = id } ∷ [] ])) (sym c.in-Some.is))
    c.put_source.ensures
