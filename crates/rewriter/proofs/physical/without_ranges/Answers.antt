use Rattle.std.proofs.Common.{arith, refl}
use Rattle.std.proofs.lemmas.List.{length-map}
use Rattle.phi_elim.proofs.Sizes.{instrs_below}
use Rattle.phi_elim.proofs.Numbering.{ids_once, length-blocks_numbered}
use Rattle.rewriter.proofs.Physicals.{fewer_in_all}
use Rattle.rewriter.proofs.physical.without_ranges.Goals as goal

pub number_at_most-next_id-requires : goal.number_at_most-next_id-requires
number_at_most-next_id-requires c =
    let few = fewer_in_all c.args.target.now c.args.registers.now c.f.inside.blocks in
    let below = instrs_below c.f.inside.next_id c.f.inside.blocks c.f.invariant.once in
    rw c.in_ok-put_blocks.ensures (omega (arith, few, below))

pub invariant_of-result : goal.invariant_of-result
invariant_of-result c = record {
  nonempty = rw (c.number_at_most-next_id.ensures.blocks, length-blocks_numbered, c.in_ok-put_blocks.ensures, length-map) c.f.invariant.nonempty;
  once = λ x. rw (c.number_at_most-next_id.ensures.blocks, c.number_at_most-next_id.ensures.count) (ids_once x c.put_blocks.new.blocks);
}

pub returns-clause-physical : goal.returns-clause-physical
returns-clause-physical c = record {
  head = c.in_ok-head.head;
  is = rw (← c.f.view_is, c.number_at_most-next_id.ensures.blocks, c.number_at_most-next_id.ensures.count, c.in_ok-put_blocks.ensures, c.in_ok-frames.ensures, c.new.ensures) refl;
}

pub returns-clause-exact : goal.returns-clause-exact
returns-clause-exact c =
    rw (← c.f.view_is, c.number_at_most-next_id.ensures.blocks, c.number_at_most-next_id.ensures.count, c.in_ok-put_blocks.ensures, c.in_ok-frames.ensures, c.in_ok-head.ensures, c.new.ensures) refl
