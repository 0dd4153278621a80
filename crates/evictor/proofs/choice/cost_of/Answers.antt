use Rattle.std.proofs.Common.{◌≡◌, ◌∙◌, sym}
use Rattle.evictor.specs.Settings.{weight_in}
use Rattle.evictor.proofs.Evicted.{costs_more, costs_lost}
use Rattle.evictor.proofs.choice.cost_of.Goals as goal

pub returns-then-not-is_within : goal.returns-then-not-is_within
returns-then-not-is_within c = λ weighs known.
    let view = c.args.view in
    costs_lost view.weight (weight_in view.m.now view.freqs.now) c.args.victims.now c.victims.w-index c.in_ok-own.own c.victims-test.true (c.in_ok-own.ensures weighs known) (sym c.is_within.ensures ∙ c.if-not-is_within.true)

pub victims-preserved : goal.victims-preserved
victims-preserved c = λ weighs known.
    let view = c.args.view in
    let more = costs_more view.weight (weight_in view.m.now view.freqs.now) c.args.victims.now c.victims.w-index c.in_ok-own.own c.victims.cost c.victims-test.true (c.in_ok-own.ensures weighs known) (sym c.is_within.ensures ∙ c.if-not-is_within.false) (c.victims.invariant weighs known) in
    (more.0, c.max-cost.ensures ∙ more.1)
