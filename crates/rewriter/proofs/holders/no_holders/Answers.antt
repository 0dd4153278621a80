use Rattle.std.proofs.Common.{◌≡◌, ◌∙◌, arith, ap, length, []}
use Rattle.std.specs.Prelude.{replicate}
use Rattle.rewriter.proofs.Rows.{rows_more, row_count}
use Rattle.rewriter.proofs.holders.no_holders.Goals as goal

pub lists-preserved : goal.lists-preserved
lists-preserved c =
    let count = row_count c.lists.made c.push.new.self c.new.result c.in_ok-push.ensures.ok in
    record {
      same = rows_more [] c.new.result c.lists.made c.push.new.self c.new.ensures c.lists.invariant.same c.in_ok-push.ensures.ok;
      few = omega (arith, count);
    }

pub returns : goal.returns
returns c =
    let e : length c.lists.made ≡ c.args.units = omega arith in
    c.lists.invariant.same ∙ ap (λ n. replicate n []) e
