use Rattle.std.proofs.Common.{◌≡◌, ◌∙◌, ℕ, Some, None, refl, sym, subst}
use Rattle.std.proofs.lemmas.Option.{same_Some}
use Rattle.coalescer.specs.Asked.{IsQuietNumbered}
use Rattle.coalescer.proofs.quiet.is_quiet_to.Goals as goal

pub returns-in-Some : goal.returns-in-Some
returns-in-Some c = λ may.
    let t = c.args.target.now in
    let x = c.args.live.now in
    let n = c.in-Some.number in
    let d = c.is_quiet_numbered.ensures may in (
      (λ e k g. subst (λ (m : ℕ). IsQuietNumbered t x c.args.own m c.args.other) (same_Some n k (c.in-Some.ensures ∙ g)) (d.0 e)),
      (λ h. d.1 (h n (sym c.in-Some.ensures))),
    )

pub returns-in-None : goal.returns-in-None
returns-in-None c = λ may. ((λ e m g. absurd (let z : None ≡ Some m = c.in-None.ensures ∙ g in cc)), (λ h. refl))
