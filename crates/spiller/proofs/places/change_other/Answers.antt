use Rattle.std.proofs.Common.{◌+◌, ◌∙◌, ◌∷◌, [], sym}
use Rattle.std.specs.Prelude.{slice_get}
use Rattle.spiller.specs.Views.{gap_before, gap_behind, planned, spilling_of}
use Rattle.spiller.specs.Spilled.{change, place_change}
use Rattle.spiller.proofs.Moves.{then-gone, then-swapped}
use Rattle.spiller.specs.Readings.{goes_in, source_in}
use Rattle.spiller.proofs.Singles.{block-in, instr-in, needed-is, needless-is, single-known}
use Rattle.spiller.proofs.places.change_other.Goals as goal

pub returns-then-is_deleted : goal.returns-then-is_deleted
returns-then-is_deleted c facts w p j b is_block is_instr plain e known placed =
    let view = c.args.view in
    let i = c.args.instr.now in
    let s = spilling_of view view.slot facts in
    let answer = source_in c.args.remat.now in
    let goes = goes_in c.args.remat.now in
    let gap = gap_behind b (slice_get b.instrs (j + 1)) in
    let p0 = planned c.args.plan.now in
    let needless = sym (w.tells.gone b i (block-in view facts answer goes w p j b i is_block is_instr) (instr-in view facts answer goes w p j b i is_block is_instr)) ∙ (sym c.is_deleted.ensures ∙ c.if-is_deleted.true) in
    then-gone c.erase.result s (gap_before view i.id) gap i (change s c.args.plan.now.next_id c.args.plan.now.next_range (i ∷ [])) p0 (planned c.erase.new.self) (needless-is s c.args.plan.now.next_id c.args.plan.now.next_range i e known placed needless) c.erase.ensures

pub returns : goal.returns
returns c facts w p j b is_block is_instr plain e known placed =
    let view = c.args.view in
    let i = c.args.instr.now in
    let s = spilling_of view view.slot facts in
    let answer = source_in c.args.remat.now in
    let goes = goes_in c.args.remat.now in
    let gap = gap_behind b (slice_get b.instrs (j + 1)) in
    let p0 = planned c.args.plan.now in
    let needed = sym (w.tells.gone b i (block-in view facts answer goes w p j b i is_block is_instr) (instr-in view facts answer goes w p j b i is_block is_instr)) ∙ (sym c.is_deleted.ensures ∙ c.if-is_deleted.false) in
    then-swapped c.change_instr.result s (gap_before view i.id) gap (i ∷ []) (change s c.args.plan.now.next_id c.args.plan.now.next_range (i ∷ [])) (place_change s c.args.plan.now.next_range (i ∷ [])) p0 (planned c.change_instr.new.plan) (needed-is s c.args.plan.now.next_id c.args.plan.now.next_range i e known placed needed)
    (c.change_instr.ensures facts gap (single-known view facts answer goes w p j b i is_block is_instr e known plain placed))
