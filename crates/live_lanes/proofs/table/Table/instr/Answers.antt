use Rattle.std.proofs.Common.{◌≡◌, ◌∙◌, length, Some, sym, ap, subst, arith}
use Rattle.std.specs.Prelude.{slice_get}
use Rattle.live_lanes.specs.Ordered.{ids_of, AreRising}
use Rattle.live_lanes.proofs.Finding.{home-of, found-within, read-there}
use Rattle.live_lanes.proofs.table.Table.instr.Goals as goal

pub returns-then-position-blocks : goal.returns-then-position-blocks
returns-then-position-blocks c = λ finds p j b i e f g.
    let at = c.block_of-position.ensures ∙ home-of c.args.blocks.now c.args.self.now.order.block_of.items p j b i c.args.id finds.homes e f g in
    let within = found-within c.args.blocks.now p b e in
    let past = c.if-position-blocks.true in
    absurd (omega arith)

pub returns : goal.returns
returns c = λ finds p j b i e f g.
    let at = c.block_of-position.ensures ∙ home-of c.args.blocks.now c.args.self.now.order.block_of.items p j b i c.args.id finds.homes e f g in
    let here = read-there c.args.blocks.now c.block_of-position.result p b c.index-blocks-position.result at e in
    let is = c.as_slice.ensures ∙ ap (λ x. x.instrs) here in
    c.instr_among.ensures (subst (λ xs. AreRising c.args.self.now.order.slots 0 (ids_of xs)) (sym is) (finds.ranked p b e)) j i (ap (λ xs. slice_get xs j) is ∙ f) g
