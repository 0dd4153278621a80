use Rattle.std.proofs.Common.{◌≡◌, ◌∙◌, arith, ap, length, false}
use Rattle.std.specs.Prelude.{replicate}
use Rattle.rewriter.proofs.Rows.{rows_more, row_count}
use Rattle.rewriter.proofs.live_units.LiveUnits.none.Goals as goal

pub rows-preserved : goal.rows-preserved
rows-preserved c =
    let count = row_count c.rows.made c.push.new.self c.in_ok-flags.flags c.in_ok-push.ensures.ok in
    record {
      same = rows_more (replicate c.args.units false) c.in_ok-flags.flags c.rows.made c.push.new.self c.in_ok-flags.ensures c.rows.invariant.same c.in_ok-push.ensures.ok;
      few = omega (arith, count);
    }

pub returns : goal.returns
returns c =
    let e : length c.rows.made ≡ c.args.blocks = omega arith in
    c.rows.invariant.same ∙ ap (λ n. replicate n (replicate c.args.units false)) e
