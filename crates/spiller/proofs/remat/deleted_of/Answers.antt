use Rattle.std.proofs.Common.{◌≡◌, ◌∙◌, ap, arith, filter, map, sym}
use Rattle.std.proofs.lemmas.List.{take_all}
use Rattle.mir_meaning.specs.Paths.{has}
use Rattle.spiller.specs.declared.reaching.Definition.{Definition}
use Rattle.spiller.proofs.ListSteps.{deleted-step, item-member}
use Rattle.spiller.proofs.remat.deleted_of.Goals as goal

pub definitions-preserved : goal.definitions-preserved
definitions-preserved c = λ slot facts test finds all.
    let ds = c.args.definitions.now in
    let d = c.definition-item.result in
    deleted-step test ds c.definitions.definition-index d c.definitions.deleted.keys c.add_deleted.new.deleted.keys c.definitions-test.true c.definition-item.is
    (c.definitions.invariant slot facts test finds all)
    (c.in_ok-add_deleted.ensures slot facts test finds (all d (item-member ds c.definitions.definition-index d c.definitions-test.true c.definition-item.is)))

pub returns : goal.returns
returns c = λ slot facts test finds all n.
    c.definitions.invariant slot facts test finds all n ∙ ap (λ ds. has n (filter test (map (λ (d : Definition). d.id) ds))) (take_all c.definitions.definition-index c.args.definitions.now (omega arith))
