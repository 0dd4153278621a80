use Rattle.std.proofs.Common.{◌∙◌, ◌+◌, ◌-◌, ◌^◌, ◌%◌, ◌/◌, ◌≤◌, ap, arith}
use Rattle.std.proofs.Math.Pow.{pow_mono}
use Rattle.mir_interp.proofs.Bits.{sar_high}
use Rattle.mir_interp.proofs.numbers.sar.Goals as goal

pub overflow_sub-ones : goal.overflow_sub-ones
overflow_sub-ones c =
    let le : c.args.w - c.args.b % c.args.w ≤ c.args.w = omega arith in
    let p : 2 ^ (c.args.w - c.args.b % c.args.w) ≤ 2 ^ c.args.w = pow_mono le in
    omega arith

pub returns-else-a-half : goal.returns-else-a-half
returns-else-a-half c =
    let le : c.args.b % c.args.w ≤ c.args.w = omega arith in
    let ge : 2 ^ (c.args.w - 1) ≤ c.args.a = omega arith in
    c.add.ensures
    ∙ (ap (λ t. (t + (c.ones.result - c.ones-else-a-half.result)) % 2 ^ c.args.w) c.shift_right-else-a-half.ensures
    ∙ (ap (λ t. (c.args.a / 2 ^ (c.args.b % c.args.w) + (t - c.ones-else-a-half.result)) % 2 ^ c.args.w) c.ones.ensures
    ∙ (ap (λ t. (c.args.a / 2 ^ (c.args.b % c.args.w) + ((2 ^ c.args.w - 1) - t)) % 2 ^ c.args.w) c.ones-else-a-half.ensures
    ∙ sar_high c.args.w c.args.a (c.args.b % c.args.w) le ge)))
