use Rattle.std.proofs.Common.{◌≡◌, ◌∙◌, true, false, sym}
use Rattle.coalescer.proofs.quiet.is_quiet.Goals as goal

pub returns-then-not-is_quiet_for : goal.returns-then-not-is_quiet_for
returns-then-not-is_quiet_for c = λ may. (
  (λ e. absurd (cc)),
  (λ h. let y = (c.is_quiet_for.ensures may).1 h.0 in absurd (let z : true ≡ false = sym y ∙ c.if-not-is_quiet_for.true in cc)),
)

pub returns : goal.returns
returns c = λ may. ((λ e. ((c.is_quiet_for.ensures may).0 c.if-not-is_quiet_for.false, (c.is_quiet_for-2.ensures may).0 e)), (λ h. (c.is_quiet_for-2.ensures may).1 h.1))
