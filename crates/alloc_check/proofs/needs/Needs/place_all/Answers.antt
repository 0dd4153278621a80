use Rattle.std.proofs.Common.{subst, arith}
use Rattle.alloc_check.specs.Cells.{asked, Puts}
use Rattle.alloc_check.proofs.Celled.{puts-next}
use Rattle.alloc_check.proofs.needs.Needs.place_all.Goals as goal

pub loop-f-preserved : goal.loop-f-preserved
loop-f-preserved c k =
    let middle = asked c.loop-f.self in
    let new = asked c.place.new.self in
    let f = c.f-item.result in
    let puts : Puts middle f new = subst (λ x. Puts middle x new) c.in_ok-copied.ensures c.in_ok-place.ensures in
    puts-next k c.args.facts.now (asked c.args.self.now) middle new c.loop-f.f-index f (omega arith) c.f-item.is (c.loop-f.invariant k) puts
