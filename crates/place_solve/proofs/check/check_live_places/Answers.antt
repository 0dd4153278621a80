use Rattle.std.proofs.Common.{subst}
use Rattle.std.proofs.lemmas.Result.{err_from_is_err_and}
use Rattle.place_solve.specs.Own.{IsCrowded}
use Rattle.place_solve.specs.Told.{IsRefused}
use Rattle.place_solve.proofs.Refused.{moved, own_of_all, serve_of_all}
use Rattle.place_solve.proofs.check.check_live_places.Goals as goal

pub returns-in_err-place-2-clause-variables : goal.returns-in_err-place-2-clause-variables
returns-in_err-place-2-clause-variables c = let p = err_from_is_err_and c.from_residual-in_err-place-2.result c.from_residual-in_err-place-2.ensures.1 in rw (p.1, p.2) tt

pub returns-in_err-place-2-clause-few_at_unassignable : goal.returns-in_err-place-2-clause-few_at_unassignable
returns-in_err-place-2-clause-few_at_unassignable c = let p = err_from_is_err_and c.from_residual-in_err-place-2.result c.from_residual-in_err-place-2.ensures.1 in rw (p.1, p.2) tt

pub returns-in-None-clause-own_at_ok : goal.returns-in-None-clause-own_at_ok
returns-in-None-clause-own_at_ok c = λ classes valid. own_of_all c.args.live.now.target c.args.live.now.func (subst (IsRefused c.args.live.now.target c.args.live.now.func) c.in-None.is (c.in_ok-place-2.ensures classes valid))

pub returns-in-None-clause-serve_at_ok : goal.returns-in-None-clause-serve_at_ok
returns-in-None-clause-serve_at_ok c =
    let few = moved (λ t f. IsCrowded t f c.in_ok-place.field-0) c.target.result.now c.args.live.now.target c.func.result.now c.args.live.now.func c.target.ensures c.func.ensures c.in_ok-place.ensures in
    λ classes valid. serve_of_all c.args.live.now.target c.args.live.now.func (subst (IsCrowded c.args.live.now.target c.args.live.now.func) c.in_default.is few) (subst (IsRefused c.args.live.now.target c.args.live.now.func) c.in-None.is (c.in_ok-place-2.ensures classes valid))

pub returns-in-Some-2-clause-few_at_unassignable : goal.returns-in-Some-2-clause-few_at_unassignable
returns-in-Some-2-clause-few_at_unassignable c =
    let few = moved (λ t f. IsCrowded t f c.in_ok-place.field-0) c.target.result.now c.args.live.now.target c.func.result.now c.args.live.now.func c.target.ensures c.func.ensures c.in_ok-place.ensures in
    subst (IsCrowded c.args.live.now.target c.args.live.now.func) c.in_default.is few

pub returns-in-None-clause-few_at_ok : goal.returns-in-None-clause-few_at_ok
returns-in-None-clause-few_at_ok c =
    let few = moved (λ t f. IsCrowded t f c.in_ok-place.field-0) c.target.result.now c.args.live.now.target c.func.result.now c.args.live.now.func c.target.ensures c.func.ensures c.in_ok-place.ensures in
    subst (IsCrowded c.args.live.now.target c.args.live.now.func) c.in_default.is few
