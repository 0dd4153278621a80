use Rattle.std.proofs.Common.{◌≡◌, ◌∙◌, List, None, Some, sym, ap, drop}
use Rattle.std.specs.Prelude.{slice_get}
use Rattle.mir_func.specs.declared.func.Block.{Block}
use Rattle.live_lanes.proofs.Finding.{home-of}
use Rattle.place_solve.specs.Tinies.{place_among}
use Rattle.place_solve.proofs.Placed.{same-block}
use Rattle.place_solve.proofs.tinies.place_at.Goals as goal

pub returns-in-None : goal.returns-in-None
returns-in-None c = λ finds p j b i e f g.
    let bs : List Block = c.args.live.now.func.blocks in
    let at = c.position_of.ensures ∙ home-of bs c.args.live.now.table.order.block_of.items p j b i c.args.at finds.homes e f g in
    let none : None ≡ Some b = c.in-None.ensures ∙ ap (slice_get bs) at ∙ e in
    absurd (cc)

pub returns-in-Some : goal.returns-in-Some
returns-in-Some c = λ finds p j b i e f g.
    let bs : List Block = c.args.live.now.func.blocks in
    let at = c.position_of.ensures ∙ home-of bs c.args.live.now.table.order.block_of.items p j b i c.args.at finds.homes e f g in
    let same = same-block c.in-Some.block.now b (c.in-Some.ensures ∙ ap (slice_get bs) at ∙ e) in
    c.place_in.ensures finds p j i (e ∙ ap (λ x. Some x) (sym same)) (ap (λ x. slice_get x.instrs j) same ∙ f) g ∙ ap (λ x. place_among c.args.live.now.target (drop j x.instrs)) same
