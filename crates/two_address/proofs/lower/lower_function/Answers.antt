use Rattle.std.proofs.Common.{arith, refl}
use Rattle.mir_func.specs.Value.{Function}
use Rattle.phi_elim.proofs.Sizes.{instrs_below, operand_count-all}
use Rattle.phi_elim.proofs.Numbering.{ids_once, length-blocks_numbered}
use Rattle.two_address.specs.Lowered.{ties_lowered}
use Rattle.two_address.proofs.Steps.{length-blocks_lowered}
use Rattle.two_address.proofs.Sizes.{lowered_room, lowered_bulk}
use Rattle.two_address.proofs.lower.lower_function.Goals as goal

pub lower_blocks-requires : goal.lower_blocks-requires
lower_blocks-requires c =
    let r = rw (← c.f.view_is) at c.requires in
    let small = instrs_below c.f.inside.next_id c.f.inside.blocks c.f.invariant.once in
    rw c.as_slice.ensures (omega (arith, r, small, operand_count-all c.f.inside.blocks))

pub number_blocks-next_id-requires : goal.number_blocks-next_id-requires
number_blocks-next_id-requires c =
    let f : Function = record { name = c.f.inside.name; head = c.f.inside.head; classes = c.f.inside.classes; frames = c.f.inside.frames; blocks = c.f.inside.blocks; next_id = c.f.inside.next_id } in
    let room = lowered_room c.args.target.now f c.f.invariant (rw (← c.f.view_is) at c.requires) in
    rw (c.in_ok-made.ensures.blocks, c.as_slice.ensures) room

pub invariant_of-result : goal.invariant_of-result
invariant_of-result c = record {
  nonempty = rw (c.number_blocks-next_id.ensures.blocks, length-blocks_numbered, c.in_ok-made.ensures.blocks, length-blocks_lowered) c.f.invariant.nonempty;
  once = λ x. rw (c.number_blocks-next_id.ensures.blocks, c.number_blocks-next_id.ensures.count) (ids_once x c.lower_blocks.new.blocks);
}

pub returns-clause-value : goal.returns-clause-value
unfolding ties_lowered
returns-clause-value c =
    rw (← c.f.view_is, c.number_blocks-next_id.ensures.blocks, c.number_blocks-next_id.ensures.count, c.in_ok-extend.ensures.ok, c.as_slice-2.ensures.value, c.in_ok-made.ensures.classes, c.in_ok-made.ensures.blocks, c.as_slice.ensures) refl

pub returns-clause-bulk : goal.returns-clause-bulk
unfolding ties_lowered
returns-clause-bulk c =
    let f : Function = record { name = c.f.inside.name; head = c.f.inside.head; classes = c.f.inside.classes; frames = c.f.inside.frames; blocks = c.f.inside.blocks; next_id = c.f.inside.next_id } in
    let small = lowered_bulk c.args.target.now f c.f.invariant in
    rw (← c.f.view_is, c.number_blocks-next_id.ensures.blocks, c.number_blocks-next_id.ensures.count, c.in_ok-extend.ensures.ok, c.as_slice-2.ensures.value, c.in_ok-made.ensures.classes, c.in_ok-made.ensures.blocks, c.as_slice.ensures) small
