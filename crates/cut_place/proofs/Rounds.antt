-- A round over all residual arcs.
use Rattle.std.proofs.Common.{◌≡◌, ℕ, ◌+◌, ◌-◌, ◌<◌, ◌≤◌, ◌≢◌, Bool, true, false, cond, nat_lt, zero, suc, List, [], ◌∷◌, ◌++◌, length, get_or, replicate, refl, sym, ◌∙◌, ap, subst, arith, get_or-set_other, get_or-set_same, below_more}
use Rattle.std.proofs.Math.ListN.{set, length-set, get_or-replicate, length-replicate}
use Rattle.cut_place.specs.declared.net.Arc.{Arc}
use Rattle.cut_place.specs.declared.steps.ResidualArc.{ResidualArc}
use Rattle.cut_place.specs.Trails.{IsTree, LeadsTo, step_at, no_step}
use Rattle.cut_place.specs.Searches.{reached, unreached, Stays, IsClosed, IsSearch}
use Rattle.cut_place.proofs.Searches.{one_fewer, unreached_most, Same, same_or, same, other}

-- residual arcs of the arcs before a number don't leave what was reached
abbrev pub ClosedBelow : List ℕ → List Arc → List ℕ → ℕ → Type 0
ClosedBelow levels arcs flow i = (along : Bool) (k : ℕ) → k < i → Stays (reached levels) arcs flow (record { arc = k; along = along })

pub record RoundFacts (arcs : List Arc) (flow first levels : List ℕ) (before : List ResidualArc) (queue : List ℕ) (changed : Bool) (i : ℕ) : Type 0 where
  pub search : IsSearch arcs flow levels before queue
  pub nodes : length levels ≡ length first
  pub most : unreached levels ≤ unreached first
  pub fewer : changed ≡ true → unreached levels < unreached first
  pub same : changed ≡ false → levels ≡ first
  pub closed : changed ≡ false → ClosedBelow first arcs flow i

pub round_closed : (arcs : List Arc) (flow first levels : List ℕ) (before : List ResidualArc) (queue : List ℕ) (i : ℕ) → length arcs ≤ i
    → RoundFacts arcs flow first levels before queue false i → IsClosed (reached levels) arcs flow
round_closed arcs flow first levels before queue i le f s inside =
    subst (λ (l : List ℕ). Stays (reached l) arcs flow s) (sym (f.same refl)) (f.closed refl s.along s.arc (omega arith))

-- a search that has reached the source alone
module _ (arcs : List Arc) (flow : List ℕ) (n : ℕ) (two : 2 ≤ n) (most : n ≤ 4096) where
  abbrev far : ℕ
  far = 4096

  abbrev big : List ℕ
  big = replicate n far

  abbrev first : List ℕ
  first = 0 ∷ []

  abbrev start : List ℕ
  start = set big 0 0

  len : length start ≡ n
  len = omega (arith, length-set big 0 0, length-replicate n far)

  zero_there : get_or start 0 0 ≡ 0
  zero_there = get_or-set_same big 0 0 0 (omega (arith, length-replicate n far))

  only_source : (v : ℕ) → v < length start → get_or start v 0 < 4096 → v ≡ 0
  only_source v h r =
      elim (same_or v 0) [
        | same e ↦ e
        | other d ↦
            let a : get_or start v 0 ≡ get_or big v 0 = get_or-set_other big 0 v 0 0 d
            in let b : get_or big v 0 ≡ 4096 = get_or-replicate n v far 0 (omega (arith, len, h))
            in absurd (omega (arith, a, b, r))
      ]

  bound_start : (v : ℕ) → v < length start → get_or start v 0 < 4096 → get_or start v 0 + unreached start < length start
  bound_start v h r =
      let e : get_or start v 0 ≡ 0 = ap (λ w. get_or start w 0) (only_source v h r) ∙ zero_there
      in let all_high : get_or big 0 0 ≡ 4096 = get_or-replicate n 0 far 0 (omega arith)
      in let fewer : unreached start + 1 ≡ unreached big = one_fewer big 0 0 (omega (arith, length-replicate n far)) (omega (arith, all_high)) (omega arith)
      in omega (arith, e, fewer, unreached_most big, len, length-replicate n far)

  queued_start : (k : ℕ) → k < length first → get_or first k 0 < length start
  queued_start zero h = omega (arith, len)
  queued_start (suc k) h = absurd (omega arith)

  pub search_starts : IsSearch arcs flow start (replicate n no_step) first
  search_starts = record {
    nodes = omega (arith, len);
    most = omega (arith, len);
    same = omega (arith, len, length-replicate n no_step);
    source = zero_there;
    tree = λ v h d r. absurd (d (only_source v h r));
    bound = bound_start;
    queued = queued_start;
    sound = λ nodes zero_in closed v h r. ap nodes (only_source v h r) ∙ zero_in;
  }
