use Rattle.std.proofs.Common.{◌≡◌, ◌∙◌, subst, arith, length, map, Option}
use Rattle.std.specs.Prelude.{IfSome, IsSome}
use Rattle.cut_place.specs.declared.net.Cut.{Cut}
use Rattle.std.proofs.lemmas.Bool.{false≢true}
use Rattle.split_choose.specs.Spans.{is_clear_in}
use Rattle.split_choose.specs.Placings.{IsLeastCut}
use Rattle.split_choose.proofs.Sizing.{net-small}
use Rattle.split_choose.proofs.Taking.{small-is, costs-as-much, chosen}
use Rattle.split_choose.proofs.cuts.choice_below.Goals as goal

pub returns-then-cost-bound : goal.returns-then-cost-bound
returns-then-cost-bound c = λ within.
    let m = c.args.view.m.now in
    let v = c.args.view.v in
    let parents = c.args.view.bundles.now.parents.items in
    let spans = c.args.view.spans.now in
    let r = c.args.register in
    let clear : c.as_slice.result.now ≡ map (is_clear_in m v r) spans = c.as_slice.ensures.value ∙ c.in_ok-clear.ensures within.ready.order within.ready.stretches in
    let placed = c.in_ok-placing.ensures (is_clear_in m v r) clear within.few within.ready.earlier in
    let small = small-is m v parents spans r c.in_ok-placing.placing placed (net-small parents (is_clear_in m v r) spans (length m.live.func.blocks) within.ready.earlier within.few within.cheap) in
    let P : Option Cut → Type 0 = λ q. IfSome q (λ found. IsLeastCut c.in_ok-placing.placing.net found) × IsSome q in
    let least = subst P c.in-Some.is (c.in_ok-cut.ensures small) in
    costs-as-much m v parents spans r c.in_ok-placing.placing placed c.in-Some.cut least.0 c.saturating_add-cost.result c.saturating_add-cost.ensures c.args.bound (omega arith)

pub returns : goal.returns
returns c = λ within.
    let m = c.args.view.m.now in
    let v = c.args.view.v in
    let parents = c.args.view.bundles.now.parents.items in
    let spans = c.args.view.spans.now in
    let r = c.args.register in
    let clear : c.as_slice.result.now ≡ map (is_clear_in m v r) spans = c.as_slice.ensures.value ∙ c.in_ok-clear.ensures within.ready.order within.ready.stretches in
    let placed = c.in_ok-placing.ensures (is_clear_in m v r) clear within.few within.ready.earlier in
    let small = small-is m v parents spans r c.in_ok-placing.placing placed (net-small parents (is_clear_in m v r) spans (length m.live.func.blocks) within.ready.earlier within.few within.cheap) in
    let P : Option Cut → Type 0 = λ q. IfSome q (λ found. IsLeastCut c.in_ok-placing.placing.net found) × IsSome q in
    let least = subst P c.in-Some.is (c.in_ok-cut.ensures small) in
    (chosen m v parents spans r c.in_ok-placing.placing placed c.in-Some.cut least.0 c.saturating_add-cost.result c.saturating_add-cost.ensures (omega arith), omega arith)

pub returns-in_default : goal.returns-in_default
returns-in_default c = λ within nodes apart.
    let m = c.args.view.m.now in
    let v = c.args.view.v in
    let parents = c.args.view.bundles.now.parents.items in
    let spans = c.args.view.spans.now in
    let r = c.args.register in
    let clear : c.as_slice.result.now ≡ map (is_clear_in m v r) spans = c.as_slice.ensures.value ∙ c.in_ok-clear.ensures within.ready.order within.ready.stretches in
    let placed = c.in_ok-placing.ensures (is_clear_in m v r) clear within.few within.ready.earlier in
    let small = small-is m v parents spans r c.in_ok-placing.placing placed (net-small parents (is_clear_in m v r) spans (length m.live.func.blocks) within.ready.earlier within.few within.cheap) in
    let P : Option Cut → Type 0 = λ q. IfSome q (λ found. IsLeastCut c.in_ok-placing.placing.net found) × IsSome q in
    let none = subst P c.in_default.is (c.in_ok-cut.ensures small) in
    absurd (false≢true none.1)
