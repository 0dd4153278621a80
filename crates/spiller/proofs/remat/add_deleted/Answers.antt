use Rattle.spiller.proofs.ListSteps.{kept-one, left-one}
use Rattle.spiller.proofs.remat.add_deleted.Goals as goal

pub returns-then-not-is_needless : goal.returns-then-not-is_needless
returns-then-not-is_needless c = λ slot facts test finds z. left-one test c.args.definition.now.id c.is_needless.result _ c.args.deleted.now.keys z.7 (c.is_needless.ensures slot facts finds z.0 z.1 z.2 z.3 z.4 z.5 z.6) c.if-not-is_needless.true

pub returns : goal.returns
returns c = λ slot facts test finds z. kept-one test c.args.definition.now.id c.is_needless.result _ c.args.deleted.now.keys _ z.7 (c.is_needless.ensures slot facts finds z.0 z.1 z.2 z.3 z.4 z.5 z.6) c.if-not-is_needless.false c.in_ok-insert.ensures.keys
