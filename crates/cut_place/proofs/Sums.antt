-- Sums of flows and capacities over arcs.
use Rattle.std.proofs.Common.{◌≡◌, ℕ, ◌+◌, ◌-◌, ◌<◌, ◌≤◌, ◌≢◌, ◌*◌, ◌^◌, ◌==◌, Bool, true, false, cond, not, zero, suc, List, [], ◌∷◌, length, get_or, refl, sym, ◌∙◌, ap, subst, arith}
use Rattle.std.proofs.Math.ListN.{set}
use Rattle.cut_place.specs.declared.net.Arc.{Arc}
use Rattle.cut_place.specs.declared.steps.ResidualArc.{ResidualArc}
use Rattle.cut_place.specs.Flows.{no_arc, arc_at, flow_where, capacity_where, flow_out, flow_in, capacity_leaving, HasSmallCapacities, IsWithin, IsBalanced}
use Rattle.cut_place.specs.Residual.{tail_of, head_of, residual_of, pushed}

-- a sum after the flow of one arc is changed
pub where_set : (p : Arc → Bool) (arcs : List Arc) (flow : List ℕ) (k y : ℕ) → k < length arcs → length flow ≡ length arcs
    → flow_where p arcs (set flow k y) + cond (p (arc_at arcs k)) (get_or flow k 0) 0 ≡ flow_where p arcs flow + cond (p (arc_at arcs k)) y 0
where_set p [] flow k y h e = absurd (omega arith)
where_set p (a ∷ arcs) [] k y h e = absurd (omega arith)
where_set p (a ∷ arcs) (x ∷ flow) zero y h e = omega arith
where_set p (a ∷ arcs) (x ∷ flow) (suc k) y h e =
    let ih : flow_where p arcs (set flow k y) + cond (p (arc_at arcs k)) (get_or flow k 0) 0 ≡ flow_where p arcs flow + cond (p (arc_at arcs k)) y 0 =
    where_set p arcs flow k y (omega arith) (omega arith)
    in omega arith

cond_add : (b : Bool) (x y : ℕ) → cond b (x + y) 0 ≡ cond b x 0 + cond b y 0
cond_add true x y = refl
cond_add false x y = refl

cond_sub : (b : Bool) (x y : ℕ) → y ≤ x → cond b (x - y) 0 + cond b y 0 ≡ cond b x 0
cond_sub true x y h = omega arith
cond_sub false x y h = refl

-- what one push changes at a set of nodes
push_moves : (along : Bool) (nodes : ℕ → Bool) (arcs : List Arc) (flow : List ℕ) (k d : ℕ) → k < length arcs → length flow ≡ length arcs
    → d ≤ cond along ((arc_at arcs k).cap - get_or flow k 0) (get_or flow k 0)
    → let new : List ℕ = set flow k (cond along (get_or flow k 0 + d) (get_or flow k 0 - d)) in
    flow_out nodes arcs new + (cond (nodes (cond along (arc_at arcs k).to (arc_at arcs k).from)) d 0 + flow_in nodes arcs flow)
    ≡ flow_out nodes arcs flow + (cond (nodes (cond along (arc_at arcs k).from (arc_at arcs k).to)) d 0 + flow_in nodes arcs new)
push_moves true nodes arcs flow k d h e r =
    omega (
      arith,
      where_set (λ a. nodes a.from) arcs flow k (get_or flow k 0 + d) h e,
      where_set (λ a. nodes a.to) arcs flow k (get_or flow k 0 + d) h e,
      cond_add (nodes (arc_at arcs k).from) (get_or flow k 0) d,
      cond_add (nodes (arc_at arcs k).to) (get_or flow k 0) d,
    )
push_moves false nodes arcs flow k d h e r =
    omega (
      arith,
      where_set (λ a. nodes a.from) arcs flow k (get_or flow k 0 - d) h e,
      where_set (λ a. nodes a.to) arcs flow k (get_or flow k 0 - d) h e,
      cond_sub (nodes (arc_at arcs k).from) (get_or flow k 0) d r,
      cond_sub (nodes (arc_at arcs k).to) (get_or flow k 0) d r,
    )

-- balanced, but for an amount that is on its way from the sink to a node
abbrev pub IsBalancedAt : List Arc → List ℕ → ℕ → ℕ → ℕ → Type 0
IsBalancedAt arcs flow value amount at =
    (nodes : ℕ → Bool) → flow_out nodes arcs flow + (cond (nodes 1) (value + amount) 0) ≡ flow_in nodes arcs flow + (cond (nodes 0) value 0 + cond (nodes at) amount 0)

pub balanced_start : (arcs : List Arc) (flow : List ℕ) (value amount : ℕ) → IsBalanced arcs flow value → IsBalancedAt arcs flow value amount 1
balanced_start arcs flow value amount b nodes = omega (arith, b nodes, cond_add (nodes 1) value amount)

pub balanced_end : (arcs : List Arc) (flow : List ℕ) (value amount : ℕ) → IsBalancedAt arcs flow value amount 0 → IsBalanced arcs flow (value + amount)
balanced_end arcs flow value amount b nodes = omega (arith, b nodes, cond_add (nodes 0) value amount)

pub balanced_push : (arcs : List Arc) (flow : List ℕ) (value amount : ℕ) (s : ResidualArc) → s.arc < length arcs → length flow ≡ length arcs
    → amount ≤ residual_of arcs flow s → IsBalancedAt arcs flow value amount (head_of arcs s)
    → IsBalancedAt arcs (pushed flow s amount) value amount (tail_of arcs s)
balanced_push arcs flow value amount s h e r b nodes =
    omega (arith, b nodes, push_moves s.along nodes arcs flow s.arc amount h e r)

-- each node set S
abbrev Below : List Arc → List ℕ → Type 0
Below arcs flow = (k : ℕ) → k < length arcs → get_or flow k 0 ≤ (arc_at arcs k).cap

-- no arc carries more across than its capacity
cross_one : (f t : Bool) (x c : ℕ) → x ≤ c → cond f x 0 ≤ cond t x 0 + cond (cond f (not t) false) c 0
cross_one true true x c h = omega arith
cross_one true false x c h = omega arith
cross_one false t x c h = omega arith

pub cross_all : (nodes : ℕ → Bool) (arcs : List Arc) (flow : List ℕ) → length flow ≡ length arcs → Below arcs flow
    → flow_out nodes arcs flow ≤ flow_in nodes arcs flow + capacity_leaving nodes arcs
cross_all nodes [] flow e b = omega arith
cross_all nodes (a ∷ arcs) [] e b = absurd (omega arith)
cross_all nodes (a ∷ arcs) (x ∷ flow) e b =
    let ih : flow_out nodes arcs flow ≤ flow_in nodes arcs flow + capacity_leaving nodes arcs =
    cross_all nodes arcs flow (omega arith) (λ k h. b (suc k) (omega arith))
    in let first : x ≤ a.cap = b 0 (omega arith)
    in omega (arith, ih, cross_one (nodes a.from) (nodes a.to) x a.cap first)

-- an arc that carries just what its residual arcs leave no room beside
abbrev pub Fits : (ℕ → Bool) → Arc → ℕ → Type 0
Fits nodes a x = cond (nodes a.from) x 0 ≡ cond (nodes a.to) x 0 + cond (cond (nodes a.from) (not (nodes a.to)) false) a.cap 0

abbrev pub AllFit : (ℕ → Bool) → List Arc → List ℕ → Type 0
AllFit nodes arcs flow = (k : ℕ) → k < length arcs → Fits nodes (arc_at arcs k) (get_or flow k 0)

pub fit_all : (nodes : ℕ → Bool) (arcs : List Arc) (flow : List ℕ) → length flow ≡ length arcs → AllFit nodes arcs flow
    → flow_out nodes arcs flow ≡ flow_in nodes arcs flow + capacity_leaving nodes arcs
fit_all nodes [] flow e b = omega arith
fit_all nodes (a ∷ arcs) [] e b = absurd (omega arith)
fit_all nodes (a ∷ arcs) (x ∷ flow) e b =
    let ih : flow_out nodes arcs flow ≡ flow_in nodes arcs flow + capacity_leaving nodes arcs =
    fit_all nodes arcs flow (omega arith) (λ k h. b (suc k) (omega arith))
    in omega (arith, ih, b 0 (omega arith))

pub all_fit : (nodes : ℕ → Bool) (arcs : List Arc) (flow : List ℕ) → length flow ≡ length arcs → Below arcs flow
    → flow_out nodes arcs flow ≡ flow_in nodes arcs flow + capacity_leaving nodes arcs → AllFit nodes arcs flow
all_fit nodes [] flow e b s k h = absurd (omega arith)
all_fit nodes (a ∷ arcs) [] e b s k h = absurd (omega arith)
all_fit nodes (a ∷ arcs) (x ∷ flow) e b s zero h =
    let rest : flow_out nodes arcs flow ≤ flow_in nodes arcs flow + capacity_leaving nodes arcs =
    cross_all nodes arcs flow (omega arith) (λ k h. b (suc k) (omega arith))
    in let first : x ≤ a.cap = b 0 (omega arith)
    in omega (arith, rest, s, cross_one (nodes a.from) (nodes a.to) x a.cap first)
all_fit nodes (a ∷ arcs) (x ∷ flow) e b s (suc k) h =
    let rest : flow_out nodes arcs flow ≤ flow_in nodes arcs flow + capacity_leaving nodes arcs =
    cross_all nodes arcs flow (omega arith) (λ k h. b (suc k) (omega arith))
    in let first : x ≤ a.cap = b 0 (omega arith)
    in all_fit nodes arcs flow (omega arith) (λ k h. b (suc k) (omega arith))
    (omega (arith, rest, s, cross_one (nodes a.from) (nodes a.to) x a.cap first)) k (omega arith)

-- the value of a balanced flow is at most what the arcs out of a set can carry
pub value_at_most : (nodes : ℕ → Bool) (arcs : List Arc) (flow : List ℕ) (value : ℕ) → IsWithin arcs flow → IsBalanced arcs flow value
    → nodes 0 ≡ true → nodes 1 ≡ false → value ≤ capacity_leaving nodes arcs
value_at_most nodes arcs flow value w b source sink =
    let at : flow_out nodes arcs flow + cond (nodes 1) value 0 ≡ flow_in nodes arcs flow + cond (nodes 0) value 0 = b nodes
    in let zero_sink : cond (nodes 1) value 0 ≡ 0 = ap (λ s. cond s value 0) sink
    in let all_source : cond (nodes 0) value 0 ≡ value = ap (λ s. cond s value 0) source
    in omega (arith, at, zero_sink, all_source, cross_all nodes arcs flow w.one_each w.below)

pub value_if_fits : (nodes : ℕ → Bool) (arcs : List Arc) (flow : List ℕ) (value : ℕ) → IsWithin arcs flow → IsBalanced arcs flow value
    → nodes 0 ≡ true → nodes 1 ≡ false → AllFit nodes arcs flow → value ≡ capacity_leaving nodes arcs
value_if_fits nodes arcs flow value w b source sink fit =
    let at : flow_out nodes arcs flow + cond (nodes 1) value 0 ≡ flow_in nodes arcs flow + cond (nodes 0) value 0 = b nodes
    in let zero_sink : cond (nodes 1) value 0 ≡ 0 = ap (λ s. cond s value 0) sink
    in let all_source : cond (nodes 0) value 0 ≡ value = ap (λ s. cond s value 0) source
    in omega (arith, at, zero_sink, all_source, fit_all nodes arcs flow w.one_each fit)

pub fits_if_value : (nodes : ℕ → Bool) (arcs : List Arc) (flow : List ℕ) (value : ℕ) → IsWithin arcs flow → IsBalanced arcs flow value
    → nodes 0 ≡ true → nodes 1 ≡ false → capacity_leaving nodes arcs ≡ value → AllFit nodes arcs flow
fits_if_value nodes arcs flow value w b source sink c =
    let at : flow_out nodes arcs flow + cond (nodes 1) value 0 ≡ flow_in nodes arcs flow + cond (nodes 0) value 0 = b nodes
    in let zero_sink : cond (nodes 1) value 0 ≡ 0 = ap (λ s. cond s value 0) sink
    in let all_source : cond (nodes 0) value 0 ≡ value = ap (λ s. cond s value 0) source
    in all_fit nodes arcs flow w.one_each w.below (omega (arith, at, zero_sink, all_source, c))

at_most : (b : Bool) (x : ℕ) → cond b x 0 ≤ x
at_most true x = omega arith
at_most false x = omega arith

-- capacities of at most c add up to at most as many c
capacity_most : (p : Arc → Bool) (c : ℕ) (arcs : List Arc) → ((k : ℕ) → k < length arcs → (arc_at arcs k).cap ≤ c) → capacity_where p arcs ≤ length arcs * c
capacity_most p c [] h = omega arith
capacity_most p c (a ∷ arcs) h =
    let ih : capacity_where p arcs ≤ length arcs * c = capacity_most p c arcs (λ k lt. h (suc k) (omega arith))
    in let one : cond (p a) a.cap 0 ≤ a.cap = at_most (p a) a.cap
    in omega (arith, ih, one, h 0 (omega arith))

-- the value of a flow fits
pub value_fits : (arcs : List Arc) (flow : List ℕ) (value : ℕ) → IsWithin arcs flow → IsBalanced arcs flow value → HasSmallCapacities arcs
    → length arcs ≤ 16384 → value ≤ 2 ^ 126
value_fits arcs flow value w b small few =
    let most : capacity_leaving (λ v. v == 0) arcs ≤ length arcs * 2 ^ 112 = capacity_most _ (2 ^ 112) arcs small
    in let value_most : value ≤ capacity_leaving (λ v. v == 0) arcs = value_at_most (λ v. v == 0) arcs flow value w b refl refl
    in omega (arith, most, value_most, few)
