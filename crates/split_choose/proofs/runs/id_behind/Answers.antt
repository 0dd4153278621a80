use Rattle.std.proofs.Common.{◌≡◌, ◌∙◌, ◌+◌, ℕ, sym, ap, Some, None, slice_get, drop, List}
use Rattle.mir_func.specs.declared.func.Block.{Block}
use Rattle.mir_func.specs.declared.func.Instr.{Instr}
use Rattle.split_choose.specs.Offers.{first_id}
use Rattle.split_choose.proofs.Running.{home-behind}
use Rattle.split_choose.proofs.runs.id_behind.Goals as goal

pub returns-in_err-block : goal.returns-in_err-block
returns-in_err-block c before r =
    let home = c.position_of.ensures ∙ home-behind c.args.live.now.table c.args.live.now.func.blocks c.args.id before r in
    let there : None ≡ Some r.block = c.in_err-block.ensures ∙ (ap (slice_get c.args.live.now.func.blocks) home ∙ r.found) in
    cc

pub returns : goal.returns
returns c before r =
    let home = c.position_of.ensures ∙ home-behind c.args.live.now.table c.args.live.now.func.blocks c.args.id before r in
    let there : Some c.in_ok-block.block.now ≡ Some r.block = c.in_ok-block.ensures ∙ (ap (slice_get c.args.live.now.func.blocks) home ∙ r.found) in
    let same : c.in_ok-block.block.now ≡ r.block = cc in
    let place = c.place_of.ensures r.finds r.position r.place r.block r.instr r.found r.stands r.named in
    c.next_id.ensures ∙ (ap (λ (is : List Instr). first_id (drop (c.place_of.result + 1) is)) (c.as_slice.ensures ∙ ap (λ (b : Block). b.instrs) same) ∙ (ap (λ (n : ℕ). first_id (drop (n + 1) r.block.instrs)) place ∙ sym r.behind))
