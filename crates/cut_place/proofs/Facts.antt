-- What holds in the loops over augmenting paths.
use Rattle.std.proofs.Common.{◌≡◌, ℕ, ◌+◌, ◌-◌, ◌<◌, ◌≤◌, ◌≢◌, Bool, true, false, cond, not, zero, suc, List, [], ◌∷◌, ◌++◌, length, drop, get_or, refl, sym, ◌∙◌, ap, subst, arith, add-one, drop-cons}
use Rattle.std.proofs.lemmas.List.{drop_all}
use Rattle.cut_place.specs.declared.net.Arc.{Arc}
use Rattle.cut_place.specs.declared.steps.ResidualArc.{ResidualArc}
use Rattle.cut_place.specs.Flows.{arc_at, HasEnds, IsWithin, IsBalanced}
use Rattle.cut_place.specs.Residual.{tail_of, head_of, residual_of, pushed}
use Rattle.cut_place.specs.Trails.{IsTrail, IsTree, LeadsTo, step_at, no_step}
use Rattle.cut_place.proofs.Sums.{IsBalancedAt, balanced_start, balanced_push, balanced_end}
use Rattle.cut_place.proofs.Trails.{trail_less, trail_more, trail_after}

pub record TraceFacts (arcs : List Arc) (flow levels : List ℕ) (before : List ResidualArc) (amount : ℕ) (steps : List ResidualArc) (at : ℕ) : Type 0 where
  pub at_node : at < length levels
  pub some : 1 ≤ amount
  pub trail : IsTrail arcs flow levels amount 1 steps at
  pub reached : IsTree arcs flow levels before → get_or levels 1 0 < 4096 → get_or levels at 0 < 4096

-- while a path is augmented: what is left of it, from the node that has the amount
pub record AugmentFacts (arcs : List Arc) (first flow : List ℕ) (amount : ℕ) (rest : List ResidualArc) : Type 0 where
  pub levels : List ℕ
  pub at : ℕ
  pub within : IsWithin arcs flow
  pub trail : IsTrail arcs flow levels amount at rest 0
  pub balanced : (value : ℕ) → IsBalanced arcs first value → IsBalancedAt arcs flow value amount at

pub augment_begins : (arcs : List Arc) (flow levels : List ℕ) (amount : ℕ) (steps : List ResidualArc) → IsWithin arcs flow
    → IsTrail arcs flow levels amount 1 steps 0 → AugmentFacts arcs flow flow amount steps
augment_begins arcs flow levels amount steps w t = record {
  levels = levels;
  at = 1;
  within = w;
  trail = t;
  balanced = λ value b. balanced_start arcs flow value amount b;
}

pub augment_room : (arcs : List Arc) (first flow : List ℕ) (amount : ℕ) (s : ResidualArc) (rest : List ResidualArc) → AugmentFacts arcs first flow amount (s ∷ rest)
    → (s.arc < length arcs) × (amount ≤ residual_of arcs flow s)
augment_room arcs first flow amount s rest f = (f.trail.0, f.trail.3)

pub augment_goes_on : (arcs : List Arc) (first flow : List ℕ) (amount : ℕ) (s : ResidualArc) (rest : List ResidualArc) → AugmentFacts arcs first flow amount (s ∷ rest)
    → IsWithin arcs (pushed flow s amount) → AugmentFacts arcs first (pushed flow s amount) amount rest
augment_goes_on arcs first flow amount s rest f w =
    let level : get_or f.levels (tail_of arcs s) 0 + 1 ≡ get_or f.levels (head_of arcs s) 0 = f.trail.2 ∙ ap (λ v. get_or f.levels v 0) (sym f.trail.1)
    in record {
      levels = f.levels;
      at = tail_of arcs s;
      within = w;
      trail = trail_after arcs flow f.levels amount amount s (tail_of arcs s) rest 0 level (omega arith) f.trail.4;
      balanced = λ value b. balanced_push arcs flow value amount s f.trail.0 f.within.one_each f.trail.3
          (subst (λ (v : ℕ). IsBalancedAt arcs flow value amount v) (sym f.trail.1) (f.balanced value b));
    }

pub augment_ends : (arcs : List Arc) (first flow : List ℕ) (amount : ℕ) → AugmentFacts arcs first flow amount []
    → (value : ℕ) → IsBalanced arcs first value → IsBalanced arcs flow (value + amount)
augment_ends arcs first flow amount f value b =
    balanced_end arcs flow value amount (subst (λ (v : ℕ). IsBalancedAt arcs flow value amount v) f.trail (f.balanced value b))

pub trace_goes_on : (arcs : List Arc) (flow levels : List ℕ) (before : List ResidualArc) (amount : ℕ) (steps : List ResidualArc) (at : ℕ) (s : ResidualArc) (less : ℕ)
    → TraceFacts arcs flow levels before amount steps at → s.arc < length arcs → LeadsTo arcs flow levels at s → tail_of arcs s < length levels
    → 1 ≤ less → less ≤ amount → less ≤ residual_of arcs flow s
    → TraceFacts arcs flow levels before less (steps ++ s ∷ []) (tail_of arcs s)
trace_goes_on arcs flow levels before amount steps at s less f inside leads node some le room = record {
  at_node = node;
  some = some;
  trail = trail_more arcs flow levels less 1 steps at s (trail_less arcs flow levels amount less 1 steps at le f.trail) inside leads.1 leads.3 room;
  reached = λ tree sink. let before : get_or levels at 0 < 4096 = f.reached tree sink in let level : get_or levels (tail_of arcs s) 0 + 1 ≡ get_or levels at 0 = leads.3 in omega arith;
}

pub tail_node : (nodes : ℕ) (arcs : List Arc) (s : ResidualArc) → HasEnds nodes arcs → s.arc < length arcs → tail_of arcs s < nodes
tail_node nodes arcs s ends inside =
    elim s.along as (λ b. cond b (arc_at arcs s.arc).from (arc_at arcs s.arc).to < nodes) [ true ↦ (ends s.arc inside).0 | false ↦ (ends s.arc inside).1 ]

pub head_node : (nodes : ℕ) (arcs : List Arc) (s : ResidualArc) → HasEnds nodes arcs → s.arc < length arcs → head_of arcs s < nodes
head_node nodes arcs s ends inside =
    elim s.along as (λ b. cond b (arc_at arcs s.arc).to (arc_at arcs s.arc).from < nodes) [ true ↦ (ends s.arc inside).1 | false ↦ (ends s.arc inside).0 ]

-- one round of augmenting, of the steps from number i
pub augment_round : (arcs : List Arc) (first flow new : List ℕ) (amount : ℕ) (steps : List ResidualArc) (i : ℕ) → i < length steps
    → AugmentFacts arcs first flow amount (drop i steps) → new ≡ pushed flow (step_at steps i) amount → IsWithin arcs new
    → AugmentFacts arcs first new amount (drop (i + 1) steps)
augment_round arcs first flow new amount steps i lt f e w =
    let front : drop i steps ≡ step_at steps i ∷ drop (i + 1) steps = rw add-one (drop-cons steps i no_step lt)
    in let facts : AugmentFacts arcs first flow amount (step_at steps i ∷ drop (i + 1) steps) = subst (λ (l : List ResidualArc). AugmentFacts arcs first flow amount l) front f
    in subst (λ (l : List ℕ). AugmentFacts arcs first l amount (drop (i + 1) steps)) (sym e)
    (augment_goes_on arcs first flow amount (step_at steps i) (drop (i + 1) steps) facts (subst (λ (l : List ℕ). IsWithin arcs l) e w))

pub round_room : (arcs : List Arc) (first flow : List ℕ) (amount : ℕ) (steps : List ResidualArc) (i : ℕ) → i < length steps
    → AugmentFacts arcs first flow amount (drop i steps) → ((step_at steps i).arc < length arcs) × (amount ≤ residual_of arcs flow (step_at steps i))
round_room arcs first flow amount steps i lt f =
    let front : drop i steps ≡ step_at steps i ∷ drop (i + 1) steps = rw add-one (drop-cons steps i no_step lt)
    in augment_room arcs first flow amount (step_at steps i) (drop (i + 1) steps)
    (subst (λ (l : List ResidualArc). AugmentFacts arcs first flow amount l) front f)

pub augment_done : (arcs : List Arc) (first flow : List ℕ) (amount : ℕ) (steps : List ResidualArc) (i : ℕ) → length steps ≤ i
    → AugmentFacts arcs first flow amount (drop i steps)
    → (value : ℕ) → IsBalanced arcs first value → IsBalanced arcs flow (value + amount)
augment_done arcs first flow amount steps i le f =
    augment_ends arcs first flow amount (subst (λ (l : List ResidualArc). AugmentFacts arcs first flow amount l) (drop_all i steps le) f)
