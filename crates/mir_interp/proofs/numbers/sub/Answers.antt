use Rattle.std.proofs.Common.{◌∙◌, ◌+◌, ◌-◌, ◌^◌, ◌%◌, ◌≤◌, ap, arith}
use Rattle.mir_interp.proofs.Bits.{wrap_then_add, left_over}
use Rattle.mir_interp.proofs.numbers.sub.Goals as goal

pub returns-else-b-top : goal.returns-else-b-top
returns-else-b-top c =
    let le : c.args.b ≤ 2 ^ c.args.w - 1 = omega arith in
    c.add.ensures
    ∙ (wrap_then_add (c.args.a + (c.ones-top.result - c.args.b)) 1 c.args.w c.requires
    ∙ (ap (λ t. (c.args.a + (t - c.args.b) + 1) % 2 ^ c.args.w) c.ones-top.ensures
    ∙ ap (λ n. n % 2 ^ c.args.w) (left_over c.args.a c.args.w c.args.b le)))
