use Rattle.std.proofs.Common.{◌≡◌, ◌∙◌, sym, ap}
use Rattle.std.specs.Prelude.{Option, List, ℕ, map}
use Rattle.std.specs.List.{list_all}
use Rattle.evictor.specs.Settings.{setting_of, weight_in, cost_within}
use Rattle.evictor.proofs.Evicted.{goes, may_by, refused, taken}
use Rattle.evictor.proofs.choice.try_eviction.Goals as goal

pub returns-then-not-all_may_lose : goal.returns-then-not-all_may_lose
returns-then-not-all_may_lose c = λ weighs known number weight free is.
    let view = c.args.view in
    let s = setting_of view.m.now view.freqs.now view.ranks.now view.range in
    let a = may_by s view.number c.as_slice.result.now c.all_may_lose.result number c.all_may_lose.ensures in
    refused s c.args.r c.as_slice.result.now (c.as_slice.ensures ∙ is) (sym a ∙ c.if-not-all_may_lose.true)

pub returns : goal.returns
returns c = λ weighs known number weight free is.
    let view = c.args.view in
    let s = setting_of view.m.now view.freqs.now view.ranks.now view.range in
    let a = may_by s view.number c.as_slice.result.now c.all_may_lose.result number c.all_may_lose.ensures in
    c.eviction_of.ensures ∙ taken s c.args.r c.args.victims c.in_ok-cost.cost is free
    (ap (list_all (goes s)) (sym c.as_slice.ensures) ∙ (sym a ∙ c.if-not-all_may_lose.false))
    (c.in_ok-cost.ensures weighs known ∙ (ap (λ (ws : List ℕ). cost_within view.weight (map (weight_in view.m.now view.freqs.now) ws)) c.as_slice-2.ensures ∙ ap (λ (m : Option ℕ). cost_within m (map (weight_in view.m.now view.freqs.now) c.args.victims)) weight))
