use Rattle.place_solve.proofs.Serving.{own_read}
use Rattle.place_solve.proofs.check.own_admits.Goals as goal

pub returns : goal.returns
returns c = λ ordered. own_read c.args.live.now.target c.target-target.result.now c.args.live.now.func c.func-f.result.now c.args.live.now.table c.args.instrs.now c.args.j c.own_place-place.result c.own_around-around.result c.as_slice.result.now c.in_ok-variables.variables.items c.in_ok-first_choice.field-0 (λ v. v.items) c.is_some.result c.target-target.ensures c.func-f.ensures c.own_place-place.ensures c.own_around-around.ensures c.in_ok-variables.ensures c.as_slice.ensures.value (c.in_ok-first_choice.ensures ordered) c.is_some.ensures
