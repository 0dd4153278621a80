use Rattle.std.proofs.Common.{◌≡◌, ◌∙◌, ℕ, Bool, cond, sym, ap}
use Rattle.std.specs.Prelude.{Option, Some, None}
use Rattle.evictor.specs.Cheapest.{weight}
use Rattle.evictor.specs.Settings.{setting_of}
use Rattle.evictor.proofs.choice.limit.Goals as goal

pub returns : goal.returns
returns c = λ weighs.
    let a = c.args in
    let s = setting_of a.m.now a.freqs.now a.ranks.now a.v in
    let own = (rw (c.live.ensures, c.known_uses.ensures) at c.in_ok-own.ensures) weighs.order weighs.tells (weighs.known a.v) (weighs.points a.v) (weighs.uses a.v) in
    ap (λ (n : ℕ). Some n) own ∙ sym (ap (λ (b : Bool). cond {A = Option ℕ} b None (Some (weight s a.v))) (sym c.is_tiny.ensures ∙ c.if-is_tiny.false))
