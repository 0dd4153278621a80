use Rattle.std.proofs.Common.{◌∙◌, IfErr, OnOk, sym}
use Rattle.mir_meaning.specs.Places.{Admits, FirstPlace, PlacesServe, TooMany}
use Rattle.mir_meaning.specs.declared.Form.TheVariants as forms
use Rattle.mir_meaning.specs.Valid.{IsValid}
use Rattle.live_laws.specs.Effects.Shaped.{AreClasses}
use Rattle.live_lanes.specs.Doing.{IsComputed}
use Rattle.place_solve.specs.Own.{HasFew, IfUnassignable, IfVariables}
use Rattle.place_solve.specs.Told.{OwnPlacesServe}
use Rattle.place_solve.proofs.Refused.{moved}
use Rattle.place_solve.proofs.check.check_places.Goals as goal

pub check_live_places-requires : goal.check_live_places-requires
check_live_places-requires c =
    let live = c.in_ok-live.live in
    moved (λ t f. IsComputed t f live.table) c.args.target.now live.target c.in_ok-copy.copy live.func (sym c.in_ok-live.ensures.parts.0) (sym c.in_ok-live.ensures.parts.1) c.in_ok-live.ensures.exact

pub returns-clause-variables : goal.returns-clause-variables
returns-clause-variables c =
    let live = c.in_ok-live.live in
    moved (λ t f. IfErr c.check_live_places.result (IfVariables (FirstPlace t f TooMany))) live.target c.args.target.now live.func c.args.f.now.func c.in_ok-live.ensures.parts.0 (c.in_ok-live.ensures.parts.1 ∙ c.in_ok-copy.ensures) c.check_live_places.ensures.variables

pub returns-clause-few_at_ok : goal.returns-clause-few_at_ok
returns-clause-few_at_ok c =
    let live = c.in_ok-live.live in
    moved (λ t f. OnOk c.check_live_places.result (HasFew t f)) live.target c.args.target.now live.func c.args.f.now.func c.in_ok-live.ensures.parts.0 (c.in_ok-live.ensures.parts.1 ∙ c.in_ok-copy.ensures) c.check_live_places.ensures.few_at_ok

pub returns-clause-own_at_ok : goal.returns-clause-own_at_ok
returns-clause-own_at_ok c =
    let live = c.in_ok-live.live in
    moved (λ t f. OnOk c.check_live_places.result (AreClasses t f → IsValid t forms.Source f → OwnPlacesServe t f)) live.target c.args.target.now live.func c.args.f.now.func c.in_ok-live.ensures.parts.0 (c.in_ok-live.ensures.parts.1 ∙ c.in_ok-copy.ensures) c.check_live_places.ensures.own_at_ok

pub returns-clause-few_at_unassignable : goal.returns-clause-few_at_unassignable
returns-clause-few_at_unassignable c =
    let live = c.in_ok-live.live in
    moved (λ t f. IfErr c.check_live_places.result (IfUnassignable (λ _. HasFew t f))) live.target c.args.target.now live.func c.args.f.now.func c.in_ok-live.ensures.parts.0 (c.in_ok-live.ensures.parts.1 ∙ c.in_ok-copy.ensures) c.check_live_places.ensures.few_at_unassignable

pub returns-clause-serve_at_ok : goal.returns-clause-serve_at_ok
returns-clause-serve_at_ok c =
    let live = c.in_ok-live.live in
    moved (λ t f. OnOk c.check_live_places.result (AreClasses t f → IsValid t forms.Source f → PlacesServe t f)) live.target c.args.target.now live.func c.args.f.now.func c.in_ok-live.ensures.parts.0 (c.in_ok-live.ensures.parts.1 ∙ c.in_ok-copy.ensures) c.check_live_places.ensures.serve_at_ok

pub returns-clause-unassignable : goal.returns-clause-unassignable
returns-clause-unassignable c =
    let live = c.in_ok-live.live in
    moved (λ t f. IfErr c.check_live_places.result (IfUnassignable (λ p. AreClasses t f → IsValid t forms.Source f → FirstPlace t f (λ q. Admits t f q → ⊥) p))) live.target c.args.target.now live.func c.args.f.now.func c.in_ok-live.ensures.parts.0 (c.in_ok-live.ensures.parts.1 ∙ c.in_ok-copy.ensures) c.check_live_places.ensures.unassignable
