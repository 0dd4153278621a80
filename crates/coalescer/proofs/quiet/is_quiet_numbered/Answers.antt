use Rattle.std.proofs.Common.{◌≡◌, ◌∙◌, ℕ, true, Some, None, refl, sym, subst}
use Rattle.std.proofs.lemmas.Option.{same_Some}
use Rattle.coalescer.specs.Asked.{is_quiet_in}
use Rattle.coalescer.proofs.quiet.is_quiet_numbered.Goals as goal

pub returns-in-Some : goal.returns-in-Some
returns-in-Some c = λ may.
    let t = c.args.target.now in
    let x = c.args.live.now in
    let m = c.in-Some.other_number in
    let d = c.is_quiet_pair.ensures may in (
      (λ e k g p. subst (λ (n : ℕ). is_quiet_in t x c.args.own c.args.own_number c.args.other n p ≡ true) (same_Some m k (c.in-Some.ensures ∙ g)) (d.0 e p)),
      (λ h. d.1 (h m (sym c.in-Some.ensures))),
    )

pub returns-in-None : goal.returns-in-None
returns-in-None c = λ may. ((λ e m g p. absurd (let z : None ≡ Some m = c.in-None.ensures ∙ g in cc)), (λ h. refl))
