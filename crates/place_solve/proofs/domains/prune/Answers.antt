use Rattle.std.proofs.Common.{◌≡◌, ◌∙◌, arith, get_or}
use Rattle.std.proofs.lemmas.List.{get_or_default}
use Rattle.place_solve.specs.Choice.{need_of}
use Rattle.place_solve.proofs.Narrowing.{narrowed_next, narrowed_all}
use Rattle.place_solve.proofs.domains.prune.Goals as goal

pub each-preserved : goal.each-preserved
each-preserved c =
    let left = c.args.left.now in
    let here = c.as_slice-here.result.now in
    let at : here ≡ get_or left c.each.k here = c.as_slice-here.ensures ∙ (c.index-left-k.is ∙ get_or_default left c.each.k c.index-left-k.result here (omega arith)) in
    narrowed_next c.args.target.now (need_of c.args.w, c.args.q) c.args.behind.now left c.each.k _ here c.in_ok-regs.regs c.each.made c.push.new.self _ (omega arith) (omega arith) at c.in_ok-regs.ensures c.in_ok-push.ensures.ok c.each.invariant
