use Rattle.mir_meaning.specs.Places.{Admits, FirstPlace, PlacesServe, TooMany}
use Rattle.mir_meaning.specs.declared.Form.TheVariants as forms
use Rattle.mir_meaning.specs.Valid.{IsValid}
use Rattle.live_laws.specs.Effects.Shaped.{AreClasses}
use Rattle.place_solve.specs.Own.{HasFew, IfUnassignable, IfVariables}
use Rattle.pipeline.proofs.PassLemmas.Like.{moved}
use Rattle.pipeline.proofs.passes.places.check_source_places.Goals as goal

pub returns-in-Ok-clause-few_at_ok : goal.returns-in-Ok-clause-few_at_ok
returns-in-Ok-clause-few_at_ok c =
    let live = c.in_ok-live.live in
    moved (λ t f. HasFew t f) live.target c.args.target.now live.func c.args.source.source.func c.in_ok-live.ensures.parts.0 c.in_ok-live.ensures.parts.1 c.in-Ok.ensures.few_at_ok

pub returns-in-Ok-clause-serve_at_ok : goal.returns-in-Ok-clause-serve_at_ok
returns-in-Ok-clause-serve_at_ok c =
    let live = c.in_ok-live.live in
    moved (λ t f. AreClasses t f → IsValid t forms.Source f → PlacesServe t f) live.target c.args.target.now live.func c.args.source.source.func c.in_ok-live.ensures.parts.0 c.in_ok-live.ensures.parts.1 c.in-Ok.ensures.serve_at_ok

pub returns-in-Err-clause-variables : goal.returns-in-Err-clause-variables
returns-in-Err-clause-variables c =
    let live = c.in_ok-live.live in
    moved (λ t f. IfVariables (FirstPlace t f TooMany) c.in-Err.stop) live.target c.args.target.now live.func c.args.source.source.func c.in_ok-live.ensures.parts.0 c.in_ok-live.ensures.parts.1 c.in-Err.ensures.variables

pub returns-in-Err-clause-few_at_unassignable : goal.returns-in-Err-clause-few_at_unassignable
returns-in-Err-clause-few_at_unassignable c =
    let live = c.in_ok-live.live in
    moved (λ t f. IfUnassignable (λ _. HasFew t f) c.in-Err.stop) live.target c.args.target.now live.func c.args.source.source.func c.in_ok-live.ensures.parts.0 c.in_ok-live.ensures.parts.1 c.in-Err.ensures.few_at_unassignable

pub returns-in-Err-clause-unassignable : goal.returns-in-Err-clause-unassignable
returns-in-Err-clause-unassignable c =
    let live = c.in_ok-live.live in
    moved (λ t f. IfUnassignable (λ p. AreClasses t f → IsValid t forms.Source f → FirstPlace t f (λ q. Admits t f q → ⊥) p) c.in-Err.stop) live.target c.args.target.now live.func c.args.source.source.func c.in_ok-live.ensures.parts.0 c.in_ok-live.ensures.parts.1 c.in-Err.ensures.unassignable
