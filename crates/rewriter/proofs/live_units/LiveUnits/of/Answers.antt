use Rattle.std.proofs.Common.{◌≡◌, ◌∙◌, ap, length, take, false}
use Rattle.std.specs.Prelude.{replicate}
use Rattle.rewriter.proofs.Marked.{all_marked}
use Rattle.rewriter.proofs.live_units.LiveUnits.of.Goals as goal

pub returns : goal.returns
returns c p u =
    let live = c.args.live.now in
    let none : c.in_ok-made.made.blocks ≡ replicate (length live.func.blocks) (replicate (length live.target.units) false) =
    c.in_ok-made.ensures
    ∙ (ap (λ n. replicate n (replicate c.unit_count.result false)) c.block_count.ensures
    ∙ ap (λ n. replicate (length live.func.blocks) (replicate n false)) c.unit_count.ensures) in
    all_marked live.target live.table (take 4294967296 c.args.registers.now) (length live.func.blocks) (length live.target.units) c.in_ok-made.made c.mark_units.new.self c.mark_ranges.new.self none c.mark_units.ensures c.mark_ranges.ensures p u
