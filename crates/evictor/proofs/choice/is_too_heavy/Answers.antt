use Rattle.std.proofs.Common.{◌≡◌, ◌∙◌, sym, subst}
use Rattle.std.specs.Prelude.{IfSome}
use Rattle.evictor.specs.Settings.{weight_in, is_within}
use Rattle.evictor.specs.Spots.{IsUseSum}
use Rattle.evictor.proofs.Points.{too_heavy}
use Rattle.evictor.proofs.Tops.{not_true}
use Rattle.evictor.proofs.choice.is_too_heavy.Goals as goal

pub returns-in-Some : goal.returns-in-Some
returns-in-Some c = λ heavy weighs.
    let view = c.args.view in
    let w = c.args.w in
    let f = view.m.now.live.func in
    let known = subst (λ q. IfSome q (IsUseSum f.blocks view.freqs.now w)) (sym c.known_uses.ensures ∙ c.in-Some.is) (weighs.known w) in
    let least = (rw c.live.ensures at c.least_weight.ensures) w view.freqs.now known (weighs.points w) (weighs.uses w) in
    too_heavy view.weight c.least_weight.result (weight_in view.m.now view.freqs.now w) least (sym c.is_within.ensures ∙ not_true c.is_within.result heavy)
