use Rattle.std.proofs.Common.{◌∙◌, ap, sym, arith}
use Rattle.std.proofs.lemmas.List.{take_all}
use Rattle.spiller.specs.Readings.{reached_by}
use Rattle.spiller.specs.Setting.{own_lanes}
use Rattle.spiller.specs.Views.{spilling_of}
use Rattle.spiller.proofs.ReadingsFound.{passing, passing-all, passing-new, passing-none, passing-second, passing-skip}
use Rattle.spiller.proofs.remat.only_definition.Goals as goal

pub definitions-init : goal.definitions-init
definitions-init c = λ slot facts. passing-none (reached_by c.args.reading.now.by.items (own_lanes (spilling_of c.args.view slot facts) c.args.reading.now.demand.index))

pub definitions-preserved-then-not-reaches : goal.definitions-preserved-then-not-reaches
definitions-preserved-then-not-reaches c = λ slot facts.
    let p = reached_by c.args.reading.now.by.items (own_lanes (spilling_of c.args.view slot facts) c.args.reading.now.demand.index) in
    passing-skip p c.args.definitions.now c.definitions.definition-index c.definition-item.result c.definitions.only (omega arith) c.definition-item.is (sym (c.reaches.ensures slot facts) ∙ c.if-not-reaches.true) (c.definitions.invariant slot facts)

pub returns-then-is_some : goal.returns-then-is_some
returns-then-is_some c = λ slot facts.
    let p = reached_by c.args.reading.now.by.items (own_lanes (spilling_of c.args.view slot facts) c.args.reading.now.demand.index) in
    passing-second p c.args.definitions.now c.definitions.definition-index c.definition-item.result c.definitions.only (omega arith) c.definition-item.is (sym (c.reaches.ensures slot facts) ∙ c.if-not-reaches.false) (sym c.is_some.ensures ∙ c.if-is_some.true) (c.definitions.invariant slot facts)

pub definitions-preserved : goal.definitions-preserved
definitions-preserved c = λ slot facts.
    let p = reached_by c.args.reading.now.by.items (own_lanes (spilling_of c.args.view slot facts) c.args.reading.now.demand.index) in
    passing-new p c.args.definitions.now c.definitions.definition-index c.definition-item.result c.definitions.only (omega arith) c.definition-item.is (sym (c.reaches.ensures slot facts) ∙ c.if-not-reaches.false) (sym c.is_some.ensures ∙ c.if-is_some.false) (c.definitions.invariant slot facts)

pub returns : goal.returns
returns c = λ slot facts.
    let p = reached_by c.args.reading.now.by.items (own_lanes (spilling_of c.args.view slot facts) c.args.reading.now.demand.index) in
    let ds = c.args.definitions.now in
    passing-all p ds c.definitions.only (ap (passing p) (sym (take_all c.definitions.definition-index ds (omega arith))) ∙ c.definitions.invariant slot facts)
