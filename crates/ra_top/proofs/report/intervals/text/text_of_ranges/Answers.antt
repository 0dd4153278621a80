use Rattle.std.proofs.Common.{◌≡◌, ◌∙◌, length, sym, ap, subst, arith}
use Rattle.mir_func.specs.Value.{Function}
use Rattle.ra_top.specs.Report.Intervals.Told.{AreShort, start_numbers}
use Rattle.ra_top.proofs.ReportLemmas.Intervals.Parts.{ranges-text}
use Rattle.ra_top.proofs.report.intervals.text.text_of_ranges.Goals as goal

pub starts_in-requires : goal.starts_in-requires
starts_in-requires c = subst (λ (g : Function). AreShort g.blocks) (sym c.func-f.ensures) c.requires.ready.short

pub put_ranges-requires : goal.put_ranges-requires
put_ranges-requires c =
    let all : length c.as_slice-used.result.now ≡ length c.args.live.now.func.classes = ap length c.as_slice-used.ensures.value ∙ c.in_ok-uses.ensures.all ∙ ap (λ (g : Function). length g.classes) c.func-f.ensures in
    let few = c.requires.few in
    record {
      ready = c.requires.ready;
      starts = c.as_slice-numbers.ensures.value ∙ c.in_ok-starts.ensures ∙ ap (λ (g : Function). start_numbers 0 g.blocks) c.func-f.ensures;
      few = omega (arith, all, few);
    }

pub returns : goal.returns
returns c =
    let a = c.args in
    ranges-text a.target.now a.live.now.table a.live.now.func c.func-f.result.now a.freqs.now c.as_slice-freqs.result.now c.new-out.result c.put_ranges.new.out c.in_ok-uses.uses.items c.as_slice-used.result.now c.func-f.ensures c.as_slice-freqs.ensures c.in_ok-uses.ensures.right c.in_ok-uses.ensures.all c.as_slice-used.ensures.value c.new-out.ensures c.in_ok-put_ranges.ensures
