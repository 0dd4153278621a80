use Rattle.std.proofs.Common.{arith, length-set, refl}
use Rattle.phi_elim.proofs.Walks.{drop_all, walk_all}
use Rattle.phi_elim.proofs.Arriving.{phi_number_small}
use Rattle.phi_elim.specs.Phis.{all_in_place}
use Rattle.phi_elim.proofs.Placing.{place_more, count_more}
use Rattle.phi_elim.proofs.blocks.put_all_in_place.Goals as goal

pub each-preserved : goal.each-preserved
each-preserved c =
    let t = c.args.target.now in
    let x = c.get_mut.result.now in
    let y = c.put_in_place.new.i in
    let more = place_more t c.each.c c.each.k c.each.instrs _ x y (omega arith) c.get_mut.ensures.value c.in_ok-c.ensures.instr c.each.invariant.0 in
    let n = count_more t c.each.k c.each.instrs x y (omega arith) c.get_mut.ensures.value in
    (rw c.in_ok-c.ensures.next more, omega (arith, n, c.in_ok-c.ensures.next, c.each.invariant.1), omega (arith, c.in_ok-c.ensures.next, phi_number_small t x, c.each.invariant.2), rw length-set c.each.invariant.3)

pub returns-clause-instrs : goal.returns-clause-instrs
returns-clause-instrs c =
    let none = drop_all c.each.k c.each.instrs (omega arith) in
    walk_all c.each.instrs c.each.k _ _ (omega arith) c.each.invariant.0 (rw none refl)

pub returns-clause-next : goal.returns-clause-next
returns-clause-next c =
    let none = drop_all c.each.k c.each.instrs (omega arith) in
    let n = rw none at c.each.invariant.1 in
    omega (arith, n)
