use Rattle.std.proofs.Common.{◌≡◌, ◌∙◌, ℕ, refl, sym, ap, arith, get_or}
use Rattle.std.specs.Prelude.{Option, option_map}
use Rattle.target_base.specs.declared.types.Reg.{Reg}
use Rattle.evictor.specs.Hints.{assignment_of}
use Rattle.evictor.proofs.Spots.{ids_are}
use Rattle.evictor.proofs.Hinted.{hint_more, hint_all}
use Rattle.evictor.proofs.hints.hint.Goals as goal

pub touched-preserved : goal.touched-preserved
touched-preserved c = λ finds ids.
    let m = c.args.m.now in
    let list = c.as_slice-id-items.result.now in
    c.best_with-best.ensures ∙ hint_more m.live.target m.live.func (assignment_of m) c.args.freqs.now c.args.v c.touched.id-index (get_or list c.touched.id-index 0) list c.hint_at.result c.touched.best ids c.touched-test.true refl (c.hint_at.ensures finds) (c.touched.invariant finds ids)

pub returns : goal.returns
returns c = λ tells count same.
    let m = c.args.m.now in
    let ids = c.as_slice-id-items.ensures.value ∙ (tells.touched c.args.v c.in_ok-touched.touched.items (rw c.live.ensures at c.in_ok-touched.ensures) ∙ sym (ids_are c.args.v 0 m.live.func.blocks)) in
    let is = hint_all m.live.target m.live.func (assignment_of m) c.args.freqs.now c.args.v c.touched.id-index c.as_slice-id-items.result.now c.touched.best ids (omega arith) same count (c.touched.invariant tells.finds ids) in
    c.hinted_register.ensures ∙ ap (option_map (λ (h : ℕ × Reg). h.1)) is
