use Rattle.std.proofs.Common.{◌∙◌, ◌++◌, ap, sym, refl, ℕ, List}
use Rattle.std.specs.Prelude.{Bool, Option, filter}
use Rattle.meaning.specs.Live.{Among}
use Rattle.mir_func.specs.declared.func.Block.{Block}
use Rattle.mir_func.specs.declared.func.Instr.{Instr}
use Rattle.mir_meaning.specs.Points.{touches}
use Rattle.live_lanes.specs.declared.ask.labels.Mark.{Mark}
use Rattle.live_lanes.specs.Touching.{leaves_block}
use Rattle.live_laws.proofs.Effects.Blocks.{member-slice, slice-member}
use Rattle.live_edits.specs.Runs.{edits_of}
use Rattle.live_edits.proofs.JoiningMembers.{filter-member}
use Rattle.split_kit.specs.PartEdits.{AreWithin, first_label, gap_edits, gap_live, marks_in}
use Rattle.split_kit.proofs.BlockLaw.{block-is}
use Rattle.split_kit.proofs.GapEdits.{ok-then}
use Rattle.split_kit.proofs.part_edits.add_block.Goals as goal

pub returns : goal.returns
returns c = ok-then c.add_gaps.result _ _ (λ e. λ test all b shows at own marks.
    let live = c.args.view.live.now in
    let v : ℕ = c.args.view.v in
    let bs : List Block = live.func.blocks in
    let slots = live.table.order.slots in
    let told : Option ℕ → Bool = gap_live live.table bs v c.args.position in
    let is : List Instr = filter (touches v) b.instrs in
    let gs : List Mark = marks_in all b.number in
    let member : Among b bs = slice-member bs c.args.position b at in
    let within : AreWithin bs is = (λ i m. let k = member-slice i b.instrs (filter-member (touches v) b.instrs i m) in record { position = c.args.position; place = k.0; block = b; there = at; instr = k.1 }) in
    e is shows.finds shows.order within own shows.few
    ∙ ap (λ es. edits_of c.args.edits.now.items ++ es)
    (ap (λ n. gap_edits live.func v slots told n is c.args.marks.now) c.label_at_start.ensures
    ∙ (ap (λ ms. gap_edits live.func v slots told (first_label ms) is ms) marks
    ∙ sym (block-is test live.func v all b slots told gs refl (shows.marks.spots b member) (shows.finds.ranked c.args.position b at) (λ i m. shows.seen.entry b i member m) (shows.seen.end c.args.position b at ∙ ap (leaves_block live.table v c.args.position) (sym at)))))) c.add_gaps.ensures
