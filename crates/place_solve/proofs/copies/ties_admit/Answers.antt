use Rattle.std.proofs.Common.{◌≡◌, ◌∙◌, List, ap}
use Rattle.std.proofs.lemmas.Result.{IfOk-weaker}
use Rattle.target_base.specs.declared.types.Role.{Role}
use Rattle.target_base.specs.declared.types.Target.{Target}
use Rattle.mir_func.specs.Binding.{bound, roles_of}
use Rattle.bound_operands.specs.Seen.{bound_by, seen_all}
use Rattle.place_solve.proofs.Copying.{ties_are}
use Rattle.place_solve.proofs.copies.ties_admit.Goals as goal

pub returns : goal.returns
returns c =
    let i = c.args.i.now in
    let bs = seen_all c.as_slice-2.result.now in
    let is : bs ≡ bound c.args.live.now.target i =
    ap seen_all c.as_slice-2.ensures.value ∙ c.in_ok-bound.ensures
    ∙ ap (λ (rs : List Role). bound_by rs c.as_slice.result.now) (c.roles_of.ensures ∙ ap (λ (t : Target). roles_of t i) c.target.ensures)
    ∙ ap (bound_by (roles_of c.args.live.now.target i)) c.as_slice.ensures in
    IfOk-weaker c.operands_admit.result _ _ (λ told h ordered. ties_are c.args.live.now.target c.args.live.now.func c.args.live.now.table i bs told is (h ordered)) c.operands_admit.ensures
