use Rattle.std.proofs.Common.{◌≡◌, ◌∙◌, ℕ, Some, None, refl, sym, subst}
use Rattle.std.proofs.lemmas.Option.{same_Some}
use Rattle.coalescer.specs.Asked.{IsQuietTo}
use Rattle.coalescer.proofs.quiet.is_quiet_lane.Goals as goal

pub returns-in-Some : goal.returns-in-Some
returns-in-Some c = λ may.
    let t = c.args.target.now in
    let x = c.args.live.now in
    let b = c.in-Some.other in
    let d = c.is_quiet_to.ensures may in (
      (λ e k g. subst (λ (p : ℕ × ℕ). IsQuietTo t x (c.args.v, c.args.k) p) (same_Some b k (c.in-Some.ensures ∙ g)) (d.0 e)),
      (λ h. d.1 (h b (sym c.in-Some.ensures))),
    )

pub returns-in-None : goal.returns-in-None
returns-in-None c = λ may. ((λ e b g. absurd (let z : None ≡ Some b = c.in-None.ensures ∙ g in cc)), (λ h. refl))
