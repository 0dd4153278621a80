use Rattle.std.proofs.Common.{◌≡◌, ◌∙◌, arith, refl, length}
use Rattle.mir_func.specs.Value.{Function}
use Rattle.phi_elim.specs.Phis.{arrivals_in, all_instrs, lowered_blocks, phis_lowered}
use Rattle.phi_elim.proofs.Sizes.{instrs_below, lowered_room}
use Rattle.phi_elim.proofs.Numbering.{ids_once, length-blocks_numbered}
use Rattle.phi_elim.proofs.Placing.{length-lowered_blocks}
use Rattle.phi_elim.proofs.phis.without_phis.Goals as goal

pub all_arrivals-requires : goal.all_arrivals-requires
all_arrivals-requires c =
    let r = rw (← c.f.view_is) at c.requires in
    let small = instrs_below c.f.inside.next_id c.f.inside.blocks c.f.invariant.once in
    rw (c.len-first.ensures, c.as_slice.ensures) (omega (arith, r, small))

pub lower_blocks-requires : goal.lower_blocks-requires
lower_blocks-requires c =
    let r = rw (← c.f.view_is) at c.requires in
    let small = instrs_below c.f.inside.next_id c.f.inside.blocks c.f.invariant.once in
    rw c.len-first.ensures (omega (arith, r, small))

pub number_blocks-next_id-requires : goal.number_blocks-next_id-requires
number_blocks-next_id-requires c =
    let f : Function = record { name = c.f.inside.name; head = c.f.inside.head; classes = c.f.inside.classes; frames = c.f.inside.frames; blocks = c.f.inside.blocks; next_id = c.f.inside.next_id } in
    let room = lowered_room c.args.target.now f c.f.invariant (rw (← c.f.view_is) at c.requires) in
    rw (c.in_ok-lower_blocks.ensures, c.as_slice-5.ensures.value, c.in_ok-arrivals.ensures, c.as_slice.ensures, c.len-first.ensures) room

pub invariant_of-result : goal.invariant_of-result
invariant_of-result c = record {
  nonempty = rw (c.number_blocks-next_id.ensures.blocks, length-blocks_numbered, c.in_ok-lower_blocks.ensures, length-lowered_blocks) c.f.invariant.nonempty;
  once = λ x. rw (c.number_blocks-next_id.ensures.blocks, c.number_blocks-next_id.ensures.count) (ids_once x c.lower_blocks.new.blocks);
}

pub returns : goal.returns
unfolding phis_lowered
returns c =
    rw (← c.f.view_is, c.number_blocks-next_id.ensures.blocks, c.number_blocks-next_id.ensures.count, c.in_ok-extend.ensures.ok, c.as_slice-4.ensures.value, c.in_ok-incoming.ensures, c.as_slice-2.ensures, c.as_slice-3.ensures, c.in_ok-lower_blocks.ensures, c.as_slice-5.ensures.value, c.in_ok-arrivals.ensures, c.as_slice.ensures, c.len-first.ensures) refl
