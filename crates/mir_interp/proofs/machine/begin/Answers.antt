use Rattle.std.proofs.Common.{◌∙◌, sym}
use Rattle.mir_interp.specs.Holds.{held_by}
use Rattle.mir_interp.proofs.Writing.{begun, first_block, same_blocks}
use Rattle.mir_interp.proofs.machine.begin.Goals as goal

pub returns-in_ok-give_all-in-Some : goal.returns-in_ok-give_all-in-Some
returns-in_ok-give_all-in-Some g c = λ symbols m env h none.
    let bs = first_block c.as_slice-2.result.now c.in-Some.b.now c.in-Some.ensures.value in
    begun env c.args.t.now c.args.f.now c.in-Some.b.now bs.0 (held_by c.args.store.now) (held_by c.give.new.store) (held_by c.give_all.new.store) c.as_slice.result.now c.as_slice-in-Some.result.now
    (sym (c.as_slice-2.ensures ∙ same_blocks _ _ c.f.view_is) ∙ bs.1) c.as_slice.ensures c.as_slice-in-Some.ensures none (c.in_ok-give.ensures symbols m env h) (c.in_ok-give_all-in-Some.ensures symbols m env h)
