use Rattle.std.proofs.Common.{◌≡◌, ◌+◌, ◌*◌, ap, arith, get_or}
use Rattle.mir_lines.specs.Numbers.{digit_value}
use Rattle.mir_lines.proofs.Values.{product_fits, value_past, numeral_past}
use Rattle.mir_lines.proofs.numbers.numeral.Goals as goal

pub overflow_mul-n : goal.overflow_mul-n
overflow_mul-n c = let h = product_fits c.loop-b.n c.args.base c.args.most c.loop-b.invariant.small c.requires.most c.requires.base in omega (arith, h)

pub overflow_add-n : goal.overflow_add-n
overflow_add-n c = let h = product_fits c.loop-b.n c.args.base c.args.most c.loop-b.invariant.small c.requires.most c.requires.base in omega (arith, h, c.digit_value.ensures.small)

pub returns-then-n-most-clause-value : goal.returns-then-n-most-clause-value
returns-then-n-most-clause-value c =
    let step : c.loop-b.n * c.args.base + c.digit_value.result ≡ c.loop-b.n * c.args.base + digit_value (get_or c.args.text.now c.loop-b.b-index 0) = ap (λ d. c.loop-b.n * c.args.base + d) c.digit_value.ensures.value in
    numeral_past c.args.sort c.args.base c.args.most c.args.text.now
    (value_past c.args.base c.loop-b.n (c.loop-b.n * c.args.base + c.digit_value.result) c.loop-b.b-index c.args.most c.args.text.now c.requires.some c.loop-b.invariant.same c.loop-b-test.true step c.if-n-most.true)
