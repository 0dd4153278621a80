use Rattle.split_choose.proofs.Free.{free-same, free-other, free-not}
use Rattle.std.proofs.Common.{◌≡◌, ◌∙◌, sym, ap}
use Rattle.std.specs.Prelude.{◌&&◌}
use Rattle.split_choose.proofs.runs.is_free_from.Goals as goal

pub returns-then-a-z : goal.returns-then-a-z
returns-then-a-z c parents freqs p q k n places finds named unbordered told at_k at_n next is_a is_z =
    free-same c.args.view.m.now c.args.view.v finds places parents freqs c.args.register c.args.view.spans.now told named unbordered k n p q c.args.a c.args.z c.entry_of-low.result c.exit_of-high.result c.is_free_in.result
    at_k at_n next is_a is_z c.if-a-z.true c.entry_of-low.ensures c.exit_of-high.ensures (c.is_free_in.ensures parents freqs places finds told)

pub returns-then-is_free_in : goal.returns-then-is_free_in
returns-then-is_free_in c parents freqs p q k n places finds named unbordered told at_k at_n next is_a is_z =
    let r = c.is_free_in-2.result in
    let s = c.is_free_in-then-is_free_in.result in
    ap (λ u. u && s) (sym c.if-is_free_in.true)
    ∙ free-other c.args.view.m.now c.args.view.v finds places parents freqs c.args.register c.args.view.spans.now told named unbordered k n p q c.args.a c.args.z c.entry_of-low.result c.exit_of-high.result r s
    at_k at_n next is_a is_z c.if-a-z.false c.entry_of-low.ensures c.exit_of-high.ensures (c.is_free_in-2.ensures parents freqs places finds told) (c.is_free_in-then-is_free_in.ensures parents freqs places finds told)

pub returns-else-is_free_in : goal.returns-else-is_free_in
returns-else-is_free_in c parents freqs p q k n places finds named unbordered told at_k at_n next is_a is_z =
    c.if-is_free_in.false
    ∙ free-not c.args.view.m.now c.args.view.v finds places parents freqs c.args.register c.args.view.spans.now told named unbordered k n p q c.args.a c.args.z c.entry_of-low.result c.exit_of-high.result c.is_free_in-2.result
    at_k at_n next is_a is_z c.if-a-z.false c.entry_of-low.ensures c.exit_of-high.ensures (c.is_free_in-2.ensures parents freqs places finds told) c.if-is_free_in.false
