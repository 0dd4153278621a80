use Rattle.std.proofs.Common.{◌++◌, [], ◌∙◌, ap, sym, rules, map-id}
use Rattle.std.proofs.lemmas.List.{flat_map_more}
use Rattle.std.proofs.lemmas.Iterator.Consumers.{YieldsList-end}
use Rattle.std.proofs.lemmas.Iterator.Adapters.{YieldsList-from_vec}
use Rattle.alloc_check.specs.LookRows.{row_with_look, rows_with_looks}
use Rattle.alloc_check.proofs.looks.rows_with_looks.Goals as goal

pub loop-row-preserved : goal.loop-row-preserved
loop-row-preserved c =
    let f = row_with_look c.args.units.now in
    c.in_ok-push_with_look.ensures ∙ (ap (λ rows. rows ++ f c.in-Some.row) c.loop-row.invariant ∙ flat_map_more f [] c.loop-row.yielded c.in-Some.row)

pub returns : goal.returns
returns c =
    let end = YieldsList-end (YieldsList-from_vec {s = c.into_iter-row-iterator.result} c.args.rows (search rules) (search rules))
    c.loop-row.yielded c.loop-row.row-iterator c.loop-row.yielded_by c.next.result c.next.new.self c.in-None.is c.next.ensures.steps in
    c.loop-row.invariant ∙ ap (rows_with_looks c.args.units.now) (sym (map-id _) ∙ end.0)
