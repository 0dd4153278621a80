-- What a search has reached at the end is a least cut.
use Rattle.std.proofs.Common.{◌≡◌, ℕ, ◌+◌, ◌-◌, ◌<◌, ◌≤◌, ◌≢◌, Bool, true, false, cond, not, nat_lt, zero, suc, List, [], ◌∷◌, length, get_or, replicate, refl, sym, ◌∙◌, ap, subst, arith}
use Rattle.std.proofs.Math.ListN.{get_or-replicate, length-replicate}
use Rattle.cut_place.specs.declared.net.Arc.{Arc}
use Rattle.cut_place.specs.declared.steps.ResidualArc.{ResidualArc}
use Rattle.cut_place.specs.Flows.{arc_at, flow_where, capacity_leaving, HasEnds, IsWithin, IsBalanced, IsCut, in_set}
use Rattle.cut_place.specs.Residual.{tail_of, head_of, residual_of}
use Rattle.cut_place.specs.Searches.{reached, Stays, IsClosed, IsSearch}
use Rattle.cut_place.proofs.Facts.{tail_node, head_node}
use Rattle.cut_place.proofs.Searches.{is_low, low, high}
use Rattle.cut_place.proofs.Sums.{Fits, AllFit, value_at_most, value_if_fits, fits_if_value}

none : (n : ℕ) → (1 ≤ n → ⊥) → n ≡ 0
none zero h = refl
none (suc n) h = absurd (h (omega arith))

no_truth : false ≡ true → ⊥
no_truth e = cc

fit_cases : (f t : Bool) (x c : ℕ) → x ≤ c → (f ≡ true → 1 ≤ c - x → t ≡ true) → (t ≡ true → 1 ≤ x → f ≡ true)
    → cond f x 0 ≡ cond t x 0 + cond (cond f (not t) false) c 0
fit_cases true true x c h along against = omega arith
fit_cases true false x c h along against =
    let e : c - x ≡ 0 = none (c - x) (λ one. no_truth (along refl one)) in omega arith
fit_cases false true x c h along against =
    let e : x ≡ 0 = none x (λ one. no_truth (against refl one)) in omega arith
fit_cases false false x c h along against = refl

-- no flow but what fits crosses into or out of a closed set
pub fits_of_closed : (nodes : ℕ → Bool) (arcs : List Arc) (flow : List ℕ) → IsWithin arcs flow → IsClosed nodes arcs flow → AllFit nodes arcs flow
fits_of_closed nodes arcs flow w closed k h =
    fit_cases (nodes (arc_at arcs k).from) (nodes (arc_at arcs k).to) (get_or flow k 0) (arc_at arcs k).cap (w.below k h)
    (closed (record { arc = k; along = true }) h) (closed (record { arc = k; along = false }) h)

along_stays : (f t : Bool) (x c : ℕ) → x ≤ c → cond f x 0 ≡ cond t x 0 + cond (cond f (not t) false) c 0 → f ≡ true → 1 ≤ c - x → t ≡ true
along_stays f true x c h fit e one = refl
along_stays true false x c h fit e one = absurd (omega arith)
along_stays false false x c h fit e one = absurd (no_truth e)

against_stays : (f t : Bool) (x c : ℕ) → x ≤ c → cond f x 0 ≡ cond t x 0 + cond (cond f (not t) false) c 0 → t ≡ true → 1 ≤ x → f ≡ true
against_stays true t x c h fit e one = refl
against_stays false true x c h fit e one = absurd (omega arith)
against_stays false false x c h fit e one = absurd (no_truth e)

stays : (along : Bool) (k : ℕ) (nodes : ℕ → Bool) (arcs : List Arc) (flow : List ℕ) → IsWithin arcs flow → AllFit nodes arcs flow → k < length arcs
    → Stays nodes arcs flow (record { arc = k; along = along })
stays true k nodes arcs flow w fit h =
    along_stays (nodes (arc_at arcs k).from) (nodes (arc_at arcs k).to) (get_or flow k 0) (arc_at arcs k).cap (w.below k h) (fit k h)
stays false k nodes arcs flow w fit h =
    against_stays (nodes (arc_at arcs k).from) (nodes (arc_at arcs k).to) (get_or flow k 0) (arc_at arcs k).cap (w.below k h) (fit k h)

-- a set that all flow fits is closed
pub closed_of_fits : (nodes : ℕ → Bool) (arcs : List Arc) (flow : List ℕ) → IsWithin arcs flow → AllFit nodes arcs flow → IsClosed nodes arcs flow
closed_of_fits nodes arcs flow w fit s h = stays s.along s.arc nodes arcs flow w fit h

in_len : (flags : List Bool) (v : ℕ) → get_or flags v false ≡ true → v < length flags
in_len [] v e = absurd (no_truth e)
in_len (b ∷ flags) zero e = omega arith
in_len (b ∷ flags) (suc v) e = let h : v < length flags = in_len flags v e in omega arith

-- the flags say of each node what the levels say
pub record Flagged (flags : List Bool) (levels : List ℕ) : Type 0 where
  pub len : length flags ≡ length levels
  pub says : (v : ℕ) → v < length levels → in_set flags v ≡ reached levels v

pub flags_closed : (flags : List Bool) (levels : List ℕ) (arcs : List Arc) (flow : List ℕ) → Flagged flags levels → HasEnds (length levels) arcs
    → IsClosed (reached levels) arcs flow → IsClosed (in_set flags) arcs flow
flags_closed flags levels arcs flow f ends closed s h into one =
    let tail : in_set flags (tail_of arcs s) ≡ reached levels (tail_of arcs s) = f.says (tail_of arcs s) (tail_node (length levels) arcs s ends h)
    in let head : in_set flags (head_of arcs s) ≡ reached levels (head_of arcs s) = f.says (head_of arcs s) (head_node (length levels) arcs s ends h)
    in head ∙ closed s h (sym tail ∙ into) one

pub flags_cost : (flags : List Bool) (levels : List ℕ) (arcs : List Arc) (flow : List ℕ) (value : ℕ) → Flagged flags levels → HasEnds (length levels) arcs
    → IsWithin arcs flow → IsBalanced arcs flow value → IsClosed (reached levels) arcs flow → IsCut (in_set flags)
    → value ≡ capacity_leaving (in_set flags) arcs
flags_cost flags levels arcs flow value f ends w b closed cut =
    value_if_fits (in_set flags) arcs flow value w b cut.0 cut.1
    (fits_of_closed (in_set flags) arcs flow w (flags_closed flags levels arcs flow f ends closed))

pub flags_least : (arcs : List Arc) (flow : List ℕ) (value : ℕ) → IsWithin arcs flow → IsBalanced arcs flow value
    → (nodes : ℕ → Bool) → IsCut nodes → value ≤ capacity_leaving nodes arcs
flags_least arcs flow value w b nodes cut = value_at_most nodes arcs flow value w b cut.0 cut.1

pub flags_smallest : (flags : List Bool) (levels : List ℕ) (before : List ResidualArc) (queue : List ℕ) (arcs : List Arc) (flow : List ℕ) (value : ℕ)
    → Flagged flags levels → IsWithin arcs flow → IsBalanced arcs flow value → IsSearch arcs flow levels before queue
    → (nodes : ℕ → Bool) → IsCut nodes → capacity_leaving nodes arcs ≡ value → (v : ℕ) → in_set flags v ≡ true → nodes v ≡ true
flags_smallest flags levels before queue arcs flow value f w b search nodes cut cost v there =
    let lt : v < length levels = omega (arith, in_len flags v there, f.len)
    in search.sound nodes cut.0
    (closed_of_fits nodes arcs flow w (fits_if_value nodes arcs flow value w b cut.0 cut.1 cost))
    v lt (is_low (get_or levels v 0) (sym (f.says v lt) ∙ there))

abbrev kept : Bool → ℕ → ℕ
kept b x = cond b x 0

nothing : (b : Bool) → kept b 0 ≡ 0
nothing true = refl
nothing false = refl

no_flow : (p : Arc → Bool) (arcs : List Arc) (n : ℕ) → flow_where p arcs (replicate n 0) ≡ 0
no_flow p [] n = refl
no_flow p (a ∷ arcs) zero = refl
no_flow p (a ∷ arcs) (suc n) = omega (arith, no_flow p arcs n, nothing (p a))

pub zero_within : (arcs : List Arc) (flow : List ℕ) → flow ≡ replicate (length arcs) 0 → IsWithin arcs flow
zero_within arcs flow e =
    let none_flows : ℕ = 0
    in subst (λ (l : List ℕ). IsWithin arcs l) (sym e) (record {
      one_each = length-replicate (length arcs) none_flows;
      below = λ k h. let z : get_or (replicate (length arcs) none_flows) k 0 ≡ 0 = get_or-replicate (length arcs) k none_flows 0 h in omega (arith, z);
    })

pub zero_balanced : (arcs : List Arc) (flow : List ℕ) → flow ≡ replicate (length arcs) 0 → IsBalanced arcs flow 0
zero_balanced arcs flow e nodes =
    let out : flow_where (λ a. nodes a.from) arcs flow ≡ 0 = ap (flow_where (λ a. nodes a.from) arcs) e ∙ no_flow (λ a. nodes a.from) arcs (length arcs)
    in let into : flow_where (λ a. nodes a.to) arcs flow ≡ 0 = ap (flow_where (λ a. nodes a.to) arcs) e ∙ no_flow (λ a. nodes a.to) arcs (length arcs)
    in omega (arith, out, into, nothing (nodes 0), nothing (nodes 1))

-- the source was reached, and the sink wasn't
pub flags_cut : (flags : List Bool) (levels : List ℕ) (before : List ResidualArc) (queue : List ℕ) (arcs : List Arc) (flow : List ℕ) → Flagged flags levels
    → IsSearch arcs flow levels before queue → 4096 ≤ get_or levels 1 0 → IsCut (in_set flags)
flags_cut flags levels before queue arcs flow f search far =
    let source : get_or levels 0 0 ≡ 0 = search.source
    in let nodes : 2 ≤ length levels = search.nodes
    in (f.says 0 (omega arith) ∙ low (get_or levels 0 0) (omega arith), f.says 1 (omega arith) ∙ high (get_or levels 1 0) far)
