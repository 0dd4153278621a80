use Rattle.std.proofs.Common.{ap, ◌≡◌, ◌∙◌, length}
use Rattle.std.specs.Prelude.{nat_lt}
use Rattle.place_solve.proofs.Crowds.{counted_is}
use Rattle.place_solve.proofs.check.is_crowded.Goals as goal

pub returns : goal.returns
returns c =
    let vs = c.in_ok-variables.variables.items in
    let e : length c.as_slice.result.now ≡ length vs = ap length c.as_slice.ensures.value in
    ap (nat_lt 6) e ∙ counted_is c.args.target.now c.args.f.now c.args.instrs.now c.own_place-place.result.now c.args.j vs c.own_place-place.ensures c.in_ok-variables.ensures
