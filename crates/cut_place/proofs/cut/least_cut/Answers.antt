use Rattle.std.proofs.Common.{◌≡◌, ◌<◌, ◌≤◌, ◌+◌, ◌-◌, ◌^◌, ℕ, List, length, replicate, get_or, arith, ap, ◌∙◌, sym, subst}
use Rattle.std.proofs.lemmas.Grind.{common_steps}
use Rattle.cut_place.specs.Flows.{HasEnds, IsBalanced, IsCut, IsWithin, in_set}
use Rattle.cut_place.specs.Searches.{IsClosed, IsSearch, reached}
use Rattle.cut_place.proofs.Cuts.{Flagged, flags_cost, flags_cut, flags_least, flags_smallest, zero_within, zero_balanced}
use Rattle.cut_place.proofs.Sums.{value_fits}
use Rattle.cut_place.proofs.cut.least_cut.Goals as goal

pub phases-init : goal.phases-init
phases-init c =
    let zero_list : List ℕ = replicate (length c.as_slice-arcs.result.now) 0 in
    let e : c.in_ok-flow.flow.items ≡ zero_list = grind (arith, common_steps) in
    (zero_within c.as_slice-arcs.result.now c.in_ok-flow.flow.items e, zero_balanced c.as_slice-arcs.result.now c.in_ok-flow.flow.items e)

pub returns-then-levels-ge-UNREACHED-clause-least : goal.returns-then-levels-ge-UNREACHED-clause-least
returns-then-levels-ge-UNREACHED-clause-least c =
    let w : IsWithin c.args.net.now.arcs c.phases.flow.items = subst (λ a. IsWithin a c.phases.flow.items) c.as_slice-arcs.ensures c.phases.invariant.0 in
    let b : IsBalanced c.args.net.now.arcs c.phases.flow.items c.phases.value = subst (λ a. IsBalanced a c.phases.flow.items c.phases.value) c.as_slice-arcs.ensures c.phases.invariant.1 in
    flags_least c.args.net.now.arcs c.phases.flow.items c.phases.value w b

pub returns-then-levels-ge-UNREACHED-clause-cost : goal.returns-then-levels-ge-UNREACHED-clause-cost
returns-then-levels-ge-UNREACHED-clause-cost c =
    let levels : List ℕ = c.in_ok-search.search.levels.items in
    let l : c.as_slice-levels.result.now ≡ levels = c.as_slice-levels.ensures.value in
    let far : 4096 ≤ get_or levels 1 0 = subst (λ (v : List ℕ). 4096 ≤ get_or v 1 0) l c.if-levels-ge-UNREACHED.true in
    let w : IsWithin c.args.net.now.arcs c.phases.flow.items = subst (λ a. IsWithin a c.phases.flow.items) c.as_slice-arcs.ensures c.phases.invariant.0 in
    let b : IsBalanced c.args.net.now.arcs c.phases.flow.items c.phases.value = subst (λ a. IsBalanced a c.phases.flow.items c.phases.value) c.as_slice-arcs.ensures c.phases.invariant.1 in
    let closed_here : IsClosed (reached levels) c.as_slice-arcs.result.now c.phases.flow.items =
    subst (λ (f : List ℕ). IsClosed (reached levels) c.as_slice-arcs.result.now f) c.as_slice.ensures.value (c.in_ok-search.ensures.closed far) in
    let closed : IsClosed (reached levels) c.args.net.now.arcs c.phases.flow.items =
    subst (λ a. IsClosed (reached levels) a c.phases.flow.items) c.as_slice-arcs.ensures closed_here in
    let flagged : Flagged c.in_ok-reached_nodes.field-0 levels =
    subst (λ (v : List ℕ). Flagged c.in_ok-reached_nodes.field-0 v) l (record { len = c.in_ok-reached_nodes.ensures.len; says = c.in_ok-reached_nodes.ensures.flags }) in
    let nodes : length levels ≡ c.args.net.now.nodes = c.in_ok-search.ensures.nodes ∙ c.in_ok-links.ensures.nodes in
    let ends : HasEnds (length levels) c.args.net.now.arcs = subst (λ (n : ℕ). HasEnds n c.args.net.now.arcs) (sym nodes) c.requires.ends in
    let search_here : IsSearch c.as_slice-arcs.result.now c.phases.flow.items levels c.in_ok-search.search.before.items c.in_ok-search.search.queue.items =
    subst (λ (f : List ℕ). IsSearch c.as_slice-arcs.result.now f levels c.in_ok-search.search.before.items c.in_ok-search.search.queue.items) c.as_slice.ensures.value c.in_ok-search.ensures.search in
    let search : IsSearch c.args.net.now.arcs c.phases.flow.items levels c.in_ok-search.search.before.items c.in_ok-search.search.queue.items =
    subst (λ a. IsSearch a c.phases.flow.items levels c.in_ok-search.search.before.items c.in_ok-search.search.queue.items) c.as_slice-arcs.ensures search_here in
    flags_cost c.in_ok-reached_nodes.field-0 levels c.args.net.now.arcs c.phases.flow.items c.phases.value flagged ends w b closed
    (flags_cut c.in_ok-reached_nodes.field-0 levels c.in_ok-search.search.before.items c.in_ok-search.search.queue.items c.args.net.now.arcs c.phases.flow.items flagged search far)

pub returns-then-levels-ge-UNREACHED-clause-smallest : goal.returns-then-levels-ge-UNREACHED-clause-smallest
returns-then-levels-ge-UNREACHED-clause-smallest c =
    let levels : List ℕ = c.in_ok-search.search.levels.items in
    let l : c.as_slice-levels.result.now ≡ levels = c.as_slice-levels.ensures.value in
    let w : IsWithin c.args.net.now.arcs c.phases.flow.items = subst (λ a. IsWithin a c.phases.flow.items) c.as_slice-arcs.ensures c.phases.invariant.0 in
    let b : IsBalanced c.args.net.now.arcs c.phases.flow.items c.phases.value = subst (λ a. IsBalanced a c.phases.flow.items c.phases.value) c.as_slice-arcs.ensures c.phases.invariant.1 in
    let search_here : IsSearch c.as_slice-arcs.result.now c.phases.flow.items levels c.in_ok-search.search.before.items c.in_ok-search.search.queue.items =
    subst (λ (f : List ℕ). IsSearch c.as_slice-arcs.result.now f levels c.in_ok-search.search.before.items c.in_ok-search.search.queue.items) c.as_slice.ensures.value c.in_ok-search.ensures.search in
    let search : IsSearch c.args.net.now.arcs c.phases.flow.items levels c.in_ok-search.search.before.items c.in_ok-search.search.queue.items =
    subst (λ a. IsSearch a c.phases.flow.items levels c.in_ok-search.search.before.items c.in_ok-search.search.queue.items) c.as_slice-arcs.ensures search_here in
    let flagged : Flagged c.in_ok-reached_nodes.field-0 levels =
    subst (λ (v : List ℕ). Flagged c.in_ok-reached_nodes.field-0 v) l (record { len = c.in_ok-reached_nodes.ensures.len; says = c.in_ok-reached_nodes.ensures.flags }) in
    flags_smallest c.in_ok-reached_nodes.field-0 levels c.in_ok-search.search.before.items c.in_ok-search.search.queue.items c.args.net.now.arcs c.phases.flow.items c.phases.value
    flagged w b search
