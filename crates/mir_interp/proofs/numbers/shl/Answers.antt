use Rattle.std.proofs.Common.{◌∙◌, ◌*◌, ◌^◌, ◌%◌, ◌<◌, ◌≡◌, ap, arith}
use Rattle.std.proofs.Math.Nat.{mod-eq_of_lt}
use Rattle.mir_interp.proofs.Bits.{wrap}
use Rattle.mir_interp.proofs.numbers.shl.Goals as goal

pub returns : goal.returns
returns c =
    let lt : c.args.b % c.args.w < 128 = omega arith in
    let e : c.args.b % c.args.w % 128 ≡ c.args.b % c.args.w = mod-eq_of_lt lt in
    c.low_bits.ensures
    ∙ (ap (λ n. n % 2 ^ c.args.w) c.wrapping_shl.ensures
    ∙ (ap (λ t. c.args.a * 2 ^ t % 2 ^ 128 % 2 ^ c.args.w) e ∙ wrap (c.args.a * 2 ^ (c.args.b % c.args.w)) c.args.w c.requires))
