use Rattle.std.proofs.Common.{◌≡◌, ◌∙◌, ℕ, length, replicate, ap, sym, subst, drop}
use Rattle.std.specs.Prelude.{slice_get, option_map}
use Rattle.mir_func.specs.Value.{Function}
use Rattle.ra_top.specs.Report.Intervals.Told.{unused, with_blocks, AreUses}
use Rattle.ra_top.proofs.ReportLemmas.Intervals.Uses.{uses-right, written-back}
use Rattle.ra_top.proofs.report.intervals.uses.uses_of.Goals as goal

pub returns-clause-right : goal.returns-clause-right
returns-clause-right c =
    let n = c.len.result in
    let made : c.as_mut_slice.result.now ≡ replicate n unused = c.as_mut_slice.ensures.value ∙ c.in_ok-uses.ensures.items in
    let size : length c.add_blocks.new.uses ≡ c.in_ok-uses.uses.len = c.add_blocks.ensures.count ∙ c.as_mut_slice.ensures.len in
    let count : length c.add_blocks.new.uses ≡ n = size ∙ c.in_ok-uses.ensures.len in
    let blocks : c.as_slice.result.now ≡ c.args.f.now.blocks = c.as_slice.ensures ∙ ap (λ (x : Function). x.blocks) c.f.view_is in
    let each : (v : ℕ) → slice_get c.add_blocks.new.uses v ≡ option_map (with_blocks c.args.freqs.now v c.args.f.now.blocks) (slice_get (replicate n unused) v) =
    λ v. c.add_blocks.ensures.each v ∙ ap (λ us. option_map (with_blocks c.args.freqs.now v c.as_slice.result.now) (slice_get us v)) made ∙ ap (λ bs. option_map (with_blocks c.args.freqs.now v bs) (slice_get (replicate n unused) v)) blocks in
    subst (AreUses c.args.freqs.now c.args.f.now.blocks) (sym (written-back c.add_blocks.new.uses (drop (length c.add_blocks.new.uses) c.in_ok-uses.uses.items) c.in_ok-uses.uses.len size)) (uses-right c.args.freqs.now c.args.f.now.blocks n c.add_blocks.new.uses count each)
