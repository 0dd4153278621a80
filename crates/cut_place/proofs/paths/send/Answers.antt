use Rattle.std.proofs.Common.{◌≡◌, ◌<◌, ◌≤◌, ◌+◌, ◌^◌, ℕ, length, arith}
use Rattle.cut_place.proofs.Sums.{value_fits}
use Rattle.cut_place.proofs.paths.send.Goals as goal

pub overflow_add-result : goal.overflow_add-result
overflow_add-result c =
    let most : c.args.value + c.in-Some.amount ≤ 2 ^ 126 =
    value_fits c.args.arcs.now c.augment.new.flow (c.args.value + c.in-Some.amount) c.augment.ensures.within
    (c.augment.ensures.balanced c.args.value c.requires.balanced) c.requires.small c.requires.few
    in omega (arith, most)
