use Rattle.std.proofs.Common.{◌<◌, ◌≤◌, ◌-◌, ◌∙◌, List, length, set, ap, sym, subst, arith}
use Rattle.std.proofs.lemmas.List.{length-set}
use Rattle.interference.specs.declared.held.RangeExtent.{RangeExtent}
use Rattle.interference.specs.Clashes.{held_of, is_none}
use Rattle.interference.specs.Parts.{parts_of, part_in}
use Rattle.interference.specs.Changes.{IsCut}
use Rattle.interference.proofs.Parts.{part-there}
use Rattle.interference.proofs.Placed.{within-part}
use Rattle.interference.proofs.PutBack.{part-set, set-again}
use Rattle.interference.proofs.Written.{held-cut, filled-others}
use Rattle.interference.proofs.held.HeldList.cut.Goals as goal

pub returns-clause-filled : goal.returns-clause-filled
returns-clause-filled c = λ full.
    let vs = c.args.self.now.parts.items in
    let lt : c.args.gap.part < length vs = omega arith in
    c.drop_empty.ensures.filled (omega (arith, length-set vs c.args.gap.part c.take_out.new.part)) (filled-others vs c.args.gap.part c.index_mut.result.now c.take_out.new.part lt c.index_mut.ensures.value full)

pub returns-clause-held : goal.returns-clause-held
returns-clause-held c = λ h some at.
    let vs = c.args.self.now.parts.items in
    let lt : c.args.gap.part < length vs = omega arith in
    let there = part-there vs c.args.gap.part c.index_mut.result.now lt c.index_mut.ensures.value in
    let few = within-part (part_in (parts_of c.args.self.now) c.args.gap.part) (c.args.gap.count - 1) h at in
    let low : c.args.gap.count ≤ length c.index_mut.result.now.items = subst (λ (p : List RangeExtent). c.args.gap.count ≤ length p) (sym there) (omega arith) in
    subst (λ (ns : List RangeExtent). IsCut h (held_of c.args.self.now) ns) (sym c.drop_empty.ensures.held)
    (held-cut vs c.args.gap.part c.index_mut.result.now c.take_out.new.part lt c.index_mut.ensures.value (c.args.gap.count - 1) h at (c.take_out.ensures.removed some low))

pub returns-clause-part : goal.returns-clause-part
returns-clause-part c = λ two v.
    let vs = c.args.self.now.parts.items in
    let lt : c.args.gap.part < length vs = omega arith in
    let there = part-there vs c.args.gap.part c.index_mut.result.now lt c.index_mut.ensures.value in
    let some = c.take_out.ensures.some (subst (λ (p : List RangeExtent). 2 ≤ length p) (sym there) two) in
    ap (λ ps. set ps c.args.gap.part v) (c.drop_empty.ensures.part (ap is_none (part-set vs c.args.gap.part c.take_out.new.part lt) ∙ some))
    ∙ set-again vs c.args.gap.part c.take_out.new.part v
