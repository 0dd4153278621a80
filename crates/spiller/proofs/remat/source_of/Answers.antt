use Rattle.std.proofs.Common.{◌∙◌, ap, sym, map, filter, cond, None, Some}
use Rattle.std.specs.List.{list_any}
use Rattle.spiller.specs.declared.reaching.Definition.{Definition}
use Rattle.spiller.specs.Readings.{alone, reached_by, reached_by_constant}
use Rattle.spiller.specs.Rematerialised.{repeatable_class, serves}
use Rattle.spiller.proofs.ReachesTold.{finds}
use Rattle.spiller.proofs.ReadingSources.{none-repeated, one-repeated, unreached-repeated}
use Rattle.spiller.proofs.remat.source_of.Goals as goal

pub returns-then-not-is_reached_by_constant : goal.returns-then-not-is_reached_by_constant
returns-then-not-is_reached_by_constant c = λ slot facts r ids may are tell is.
    let view = c.args.view in
    let ds = c.args.definitions.now in
    let by = c.args.reading.now.by.items in
    unreached-repeated view.target.now view.live.now.func view.live.now.table view.v may ids ds are slot facts tell r by is.by
    (ap (λ ls. list_any (reached_by_constant by ls) ds) is.lanes ∙ (sym (c.is_reached_by_constant.ensures slot facts) ∙ c.if-not-is_reached_by_constant.true))

pub returns-in-None : goal.returns-in-None
returns-in-None c = λ slot facts r ids may are tell is.
    let view = c.args.view in
    let ds = c.args.definitions.now in
    let by = c.args.reading.now.by.items in
    let only = ap (λ ls. alone (map (λ (d : Definition). d.id) (filter (reached_by by ls) ds))) is.lanes ∙ (sym (c.only_definition.ensures slot facts) ∙ c.in-None.is) in
    none-repeated view.target.now view.live.now.func view.live.now.table view.v may ids ds are slot facts tell r by is.by only

pub returns-then-id_serves : goal.returns-then-id_serves
returns-then-id_serves c = λ slot facts r ids may are tell is.
    let view = c.args.view in
    let t = view.target.now in
    let ds = c.args.definitions.now in
    let by = c.args.reading.now.by.items in
    let only = ap (λ ls. alone (map (λ (d : Definition). d.id) (filter (reached_by by ls) ds))) is.lanes ∙ (sym (c.only_definition.ensures slot facts) ∙ c.in-Some.is) in
    let z = one-repeated t view.live.now.func view.live.now.table view.v may ids ds are slot facts tell r by c.in-Some.id is.by only in
    let there = c.id_serves.ensures (finds t view.live.now.func view.live.now.table view.v may ids are.touched).finds z.position z.spot z.block z.instr z.stands z.there z.named in
    let test = ap (λ w. serves t w (repeatable_class t z.instr)) is.wish ∙ (sym there ∙ c.if-id_serves.true) in
    sym (ap (λ b. cond b (Some c.in-Some.id) None) test) ∙ z.is

pub returns-else-id_serves : goal.returns-else-id_serves
returns-else-id_serves c = λ slot facts r ids may are tell is.
    let view = c.args.view in
    let t = view.target.now in
    let ds = c.args.definitions.now in
    let by = c.args.reading.now.by.items in
    let only = ap (λ ls. alone (map (λ (d : Definition). d.id) (filter (reached_by by ls) ds))) is.lanes ∙ (sym (c.only_definition.ensures slot facts) ∙ c.in-Some.is) in
    let z = one-repeated t view.live.now.func view.live.now.table view.v may ids ds are slot facts tell r by c.in-Some.id is.by only in
    let there = c.id_serves.ensures (finds t view.live.now.func view.live.now.table view.v may ids are.touched).finds z.position z.spot z.block z.instr z.stands z.there z.named in
    let test = ap (λ w. serves t w (repeatable_class t z.instr)) is.wish ∙ (sym there ∙ c.if-id_serves.false) in
    sym (ap (λ b. cond b (Some c.in-Some.id) None) test) ∙ z.is
