use Rattle.std.proofs.Common.{◌≡◌, ◌+◌, ◌++◌, ◌∙◌, suc, List, length, Some, OnOk, ap, sym, subst, arith}
use Rattle.std.specs.Prelude.{slice_get, slice_index}
use Rattle.std.proofs.lemmas.Option.{slice_get-get_or}
use Rattle.mir_func.specs.declared.func.Instr.{Instr}
use Rattle.mir_func.specs.Value.{Function}
use Rattle.live_lanes.specs.Entered.{cells_of}
use Rattle.live_lanes.specs.Ordered.{ids_of, AreRising}
use Rattle.interval_laws.specs.Told.{start_number}
use Rattle.ra_top.proofs.ReportLemmas.Intervals.Numbers.{number-in, next-start}
use Rattle.ra_top.proofs.ReportLemmas.Intervals.Rows.{cell-text}
use Rattle.ra_top.proofs.report.intervals.lanes.put_cell.Goals as goal

pub put_segments-requires : goal.put_segments-requires
put_segments-requires c =
    let bs = c.args.live.now.func.blocks in
    let p = c.in-Some.number in
    let b = c.in-Some-get.block.now in
    let h = c.in-Some-get.ensures.lookup in
    let view = ap (λ (x : Function). x.blocks) c.behind-live.view_is in
    let blocks : c.as_slice-blocks.result.now ≡ bs = cc in
    let at : slice_get bs p ≡ Some b = ap (λ xs. slice_get xs p) (sym blocks) ∙ slice_get-get_or c.as_slice-blocks.result.now p b h.3.0 ∙ ap Some (sym h.1) in
    let own : c.as_slice.result.now ≡ b.instrs = cc in
    let next = next-start bs p b at in
    let within = next.1 in
    let start : c.number_in.result ≡ start_number bs p = c.number_in.ensures ∙ ap (λ s. slice_index s p) c.requires.starts ∙ number-in 0 bs p (omega (arith, within)) ∙ (let z : 0 + start_number bs p ≡ start_number bs p = omega arith in z) in
    let size = ap (λ (is : List Instr). length is) own in
    let more = next.0 in
    let most = next.2 in
    let short = c.requires.ready.short in
    record {
      rising = subst (λ is. AreRising c.args.live.now.table.order.slots 0 (ids_of is)) (sym own) (c.requires.ready.ranked p b at);
      short = omega (arith, start, size, more, most, short);
    }

pub returns : goal.returns
returns c =
    let bs = c.args.live.now.func.blocks in
    let p = c.in-Some.number in
    let b = c.in-Some-get.block.now in
    let h = c.in-Some-get.ensures.lookup in
    let view = ap (λ (x : Function). x.blocks) c.behind-live.view_is in
    let blocks : c.as_slice-blocks.result.now ≡ bs = cc in
    let at : slice_get bs p ≡ Some b = ap (λ xs. slice_get xs p) (sym blocks) ∙ slice_get-get_or c.as_slice-blocks.result.now p b h.3.0 ∙ ap Some (sym h.1) in
    let own : c.as_slice.result.now ≡ b.instrs = cc in
    let next = next-start bs p b at in
    let within = next.1 in
    let start : c.number_in.result ≡ start_number bs p = c.number_in.ensures ∙ ap (λ s. slice_index s p) c.requires.starts ∙ number-in 0 bs p (omega (arith, within)) ∙ (let z : 0 + start_number bs p ≡ start_number bs p = omega arith in z) in
    let end : c.number_in-2.result ≡ start_number bs (suc p) = c.number_in-2.ensures ∙ ap (λ s. slice_index s (p + 1)) c.requires.starts ∙ number-in 0 bs (p + 1) (omega (arith, within)) ∙ (let z : 0 + start_number bs (p + 1) ≡ start_number bs (p + 1) = omega arith in z) ∙ (let one : p + 1 ≡ suc p = omega arith in ap (start_number bs) one) in
    subst (λ ls. OnOk c.put_segments.result (c.put_segments.new.out ≡ c.args.out.now ++ ls)) (cell-text c.args.live.now.table.order.slots bs (slice_get (cells_of c.args.live.now.table.rows.rows.items c.args.lane) c.args.place) p c.number_in.result c.number_in-2.result b c.as_slice.result.now c.in-Some.ensures at own start end) c.put_segments.ensures
