use Rattle.std.proofs.Common.{◌≡◌, ◌∙◌, arith, get_or, map}
use Rattle.std.proofs.lemmas.List.{get_or_default}
use Rattle.place_solve.specs.Choice.{need_of}
use Rattle.place_solve.proofs.Covering.{holders_next, holders_all}
use Rattle.place_solve.proofs.cover.holders.Goals as goal

pub each-preserved : goal.each-preserved
each-preserved c =
    let left = c.args.left.now in
    let here = c.as_slice-here.result.now in
    let at : here ≡ get_or left c.each.k here = c.as_slice-here.ensures ∙ (c.index-left-k.is ∙ get_or_default left c.each.k c.index-left-k.result here (omega arith)) in
    record {
      bound = omega (arith, c.each.invariant.bound, c.one_if-count.ensures.bound);
      counted = holders_next c.args.target.now c.args.units.now c.args.behind.now left c.each.k _ here _ c.each.count _ _ (omega arith) (omega arith) at c.must_hold.ensures c.one_if-count.ensures.value c.each.invariant.counted;
    }

pub returns : goal.returns
returns c = holders_all c.args.target.now c.args.units.now (map need_of c.args.behind.now) c.args.left.now c.each.k c.each.count _ (omega arith) c.each.invariant.counted
