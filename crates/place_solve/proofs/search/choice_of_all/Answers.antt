use Rattle.std.proofs.Common.{◌≡◌, ◌∙◌, ap, arith, length, map, rules}
use Rattle.place_solve.specs.Choice.{options_in, choices_apart, needs_left, first}
use Rattle.place_solve.proofs.Firsts.{first_of_all}
use Rattle.place_solve.proofs.Narrowing.{nogoods_none}
use Rattle.place_solve.proofs.search.choice_of_all.Goals as goal

pub choose-requires : goal.choose-requires
choose-requires c =
    let long : length c.as_slice.result.now ≡ length c.args.variables.now = ap length c.as_slice.ensures.value ∙ c.in_ok-options.ensures.long in
    record {
      few = omega (arith, long);
      known = nogoods_none c.target.result.now c.args.variables.now _ c.in_ok-nogoods.ensures;
    }

pub returns : goal.returns
returns c = λ o.
    let options = c.as_slice.ensures.value ∙ c.in_ok-options.ensures.value o in
    let long : length c.as_slice.result.now ≡ length c.args.variables.now = ap length c.as_slice.ensures.value ∙ c.in_ok-options.ensures.long in
    c.in_ok-found.ensures.first
    ∙ ap (λ t. first (choices_apart t (needs_left c.args.variables.now c.as_slice.result.now) c.as_slice.result.now)) c.target.ensures
    ∙ first_of_all c.args.live.now.target c.args.live.now.table c.args.around c.args.variables.now c.as_slice.result.now long options
