use Rattle.std.proofs.Common.{◌∙◌, ◌∷◌, ◌++◌, [], ap}
use Rattle.spiller.proofs.PlacedSources.{put-source}
use Rattle.spiller.proofs.remat.put_source.Goals as goal

pub returns : goal.returns
returns c =
    let s = c.args.source in
    put-source c.args.sources.now c.take_sources-list.new.sources c.insert.new.self s c.push.new.self (c.in_ok-push.ensures.items ∙ ap (λ xs. xs ++ s ∷ []) c.take_sources-list.ensures.list) c.in_ok-insert.ensures.updates.1 c.in_ok-insert.ensures.updates.2 c.take_sources-list.ensures.others
