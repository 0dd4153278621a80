use Rattle.std.proofs.Common.{◌≡◌, ◌≤◌, ◌<◌, List, Some, length, get_or, sym, ap, ◌∙◌, subst, arith}
use Rattle.std.specs.Prelude.{slice_get}
use Rattle.std.proofs.lemmas.Option.{slice_get-get_or}
use Rattle.mir_func.specs.declared.func.Block.{Block}
use Rattle.mir_func.specs.declared.func.Instr.{Instr}
use Rattle.live_lanes.specs.Ordered.{ids_of, AreRising}
use Rattle.live_lanes.specs.Held.{any_held, passing}
use Rattle.live_lanes.proofs.Summed.{block-past, block-here}
use Rattle.live_lanes.proofs.table.Table.points_at.Goals as goal

pub returns-then-at-blocks : goal.returns-then-at-blocks
returns-then-at-blocks c = λ o r.
    let x = c.args.self.now in
    let bs : List Block = c.args.blocks.now in
    let past : length bs ≤ c.args.block = c.if-at-blocks.true in
    block-past x bs c.args.own.first c.args.own.count c.args.block past

pub returns : goal.returns
returns c = λ o r.
    let x = c.args.self.now in
    let bs : List Block = c.args.blocks.now in
    let h : Block = c.index-blocks-at.result in
    let within : c.args.block < length bs = c.if-at-blocks.false in
    let own : h ≡ get_or bs c.args.block h = c.index-blocks-at.is in
    let there : slice_get bs c.args.block ≡ Some h = slice_get-get_or bs c.args.block h within ∙ ap (λ b. Some b) (sym own) in
    let same : c.as_slice.result.now ≡ h.instrs = c.as_slice.ensures in
    let rising : AreRising x.order.slots 0 (ids_of c.as_slice.result.now) = subst (λ (is : List Instr). AreRising x.order.slots 0 (ids_of is)) (sym same) (r c.args.block h there) in
    block-here x bs c.args.own.first c.args.own.count c.args.block c.points_in.result h within own (c.points_in.ensures o rising ∙ ap (λ (is : List Instr). passing x.order.slots (any_held x.order.slots x.rows.rows.items c.args.own.first c.args.own.count c.args.block) (ids_of is)) same)
