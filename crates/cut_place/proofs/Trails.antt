-- Augmenting paths grow, and keep their room while an amount is sent along them.
use Rattle.std.proofs.Common.{◌≡◌, ℕ, ◌+◌, ◌-◌, ◌<◌, ◌≤◌, ◌≢◌, Bool, true, false, cond, not, zero, suc, List, [], ◌∷◌, ◌++◌, length, get_or, refl, sym, ◌∙◌, ap, subst, arith, get_or-set_other}
use Rattle.std.proofs.Math.ListN.{set}
use Rattle.cut_place.specs.declared.net.Arc.{Arc}
use Rattle.cut_place.specs.declared.steps.ResidualArc.{ResidualArc}
use Rattle.cut_place.specs.Flows.{arc_at}
use Rattle.cut_place.specs.Residual.{tail_of, head_of, residual_of, pushed}
use Rattle.cut_place.specs.Trails.{IsTrail}

-- a trail with less to send
pub trail_less : (arcs : List Arc) (flow levels : List ℕ) (more less at : ℕ) (steps : List ResidualArc) (start : ℕ) → less ≤ more
    → IsTrail arcs flow levels more at steps start → IsTrail arcs flow levels less at steps start
trail_less arcs flow levels more less at [] start h t = t
trail_less arcs flow levels more less at (s ∷ steps) start h t =
    (t.0, t.1, t.2, omega arith, trail_less arcs flow levels more less (tail_of arcs s) steps start h t.4)

-- a trail with one more step
pub trail_more : (arcs : List Arc) (flow levels : List ℕ) (amount at : ℕ) (steps : List ResidualArc) (end : ℕ) (s : ResidualArc)
    → IsTrail arcs flow levels amount at steps end
    → s.arc < length arcs → head_of arcs s ≡ end → get_or levels (tail_of arcs s) 0 + 1 ≡ get_or levels end 0
    → amount ≤ residual_of arcs flow s
    → IsTrail arcs flow levels amount at (steps ++ s ∷ []) (tail_of arcs s)
trail_more arcs flow levels amount at [] end s t inside into level room =
    (inside, into ∙ sym t, level ∙ ap (λ v. get_or levels v 0) (sym t), room, refl)
trail_more arcs flow levels amount at (r ∷ steps) end s t inside into level room =
    (t.0, t.1, t.2, t.3, trail_more arcs flow levels amount (tail_of arcs r) steps end s t.4 inside into level room)

-- two residual arcs of one arc have the same ends
ends : (b c : Bool) (f t : ℕ) (level : ℕ → ℕ) → level (cond b f t) + 1 ≡ level (cond b t f) → level (cond c f t) + 1 ≡ level (cond c t f)
    → level (cond b t f) ≡ level (cond c t f)
ends true true f t level h k = refl
ends true false f t level h k = omega arith
ends false true f t level h k = omega arith
ends false false f t level h k = refl

-- residual arcs whose heads are on different levels are of different arcs
apart : (arcs : List Arc) (levels : List ℕ) (s r : ResidualArc) → get_or levels (tail_of arcs s) 0 + 1 ≡ get_or levels (head_of arcs s) 0
    → get_or levels (tail_of arcs r) 0 + 1 ≡ get_or levels (head_of arcs r) 0
    → get_or levels (head_of arcs r) 0 < get_or levels (head_of arcs s) 0 → r.arc ≢ s.arc
apart arcs levels s r hs hr lt e =
    let hr2 : get_or levels (cond r.along (arc_at arcs s.arc).from (arc_at arcs s.arc).to) 0 + 1
    ≡ get_or levels (cond r.along (arc_at arcs s.arc).to (arc_at arcs s.arc).from) 0 =
    subst (λ (k : ℕ). get_or levels (cond r.along (arc_at arcs k).from (arc_at arcs k).to) 0 + 1
    ≡ get_or levels (cond r.along (arc_at arcs k).to (arc_at arcs k).from) 0) e hr
    in let lt2 : get_or levels (cond r.along (arc_at arcs s.arc).to (arc_at arcs s.arc).from) 0 < get_or levels (head_of arcs s) 0 =
    subst (λ (k : ℕ). get_or levels (cond r.along (arc_at arcs k).to (arc_at arcs k).from) 0 < get_or levels (head_of arcs s) 0) e lt
    in let same : get_or levels (head_of arcs s) 0 ≡ get_or levels (cond r.along (arc_at arcs s.arc).to (arc_at arcs s.arc).from) 0 =
    ends s.along r.along (arc_at arcs s.arc).from (arc_at arcs s.arc).to (λ v. get_or levels v 0) hs hr2
    in omega (arith, same, lt2)

-- a push along one arc leaves the room of another's
other_room : (arcs : List Arc) (flow : List ℕ) (s r : ResidualArc) (amount : ℕ) → r.arc ≢ s.arc
    → residual_of arcs (pushed flow s amount) r ≡ residual_of arcs flow r
other_room arcs flow s r amount ne =
    ap (λ (x : ℕ). cond r.along ((arc_at arcs r.arc).cap - x) x)
    (get_or-set_other flow s.arc r.arc (cond s.along (get_or flow s.arc 0 + amount) (get_or flow s.arc 0 - amount)) 0 ne)

-- what is left of a trail after a step of a higher level carries the amount
pub trail_after : (arcs : List Arc) (flow levels : List ℕ) (amount sent : ℕ) (s : ResidualArc) (at : ℕ) (steps : List ResidualArc) (start : ℕ)
    → get_or levels (tail_of arcs s) 0 + 1 ≡ get_or levels (head_of arcs s) 0 → get_or levels at 0 < get_or levels (head_of arcs s) 0
    → IsTrail arcs flow levels amount at steps start → IsTrail arcs (pushed flow s sent) levels amount at steps start
trail_after arcs flow levels amount sent s at [] start hs lt t = t
trail_after arcs flow levels amount sent s at (r ∷ steps) start hs lt t =
    let level : get_or levels (tail_of arcs r) 0 + 1 ≡ get_or levels (head_of arcs r) 0 = t.2 ∙ ap (λ v. get_or levels v 0) (sym t.1)
    in let below : get_or levels (head_of arcs r) 0 < get_or levels (head_of arcs s) 0 =
    subst (λ (v : ℕ). get_or levels v 0 < get_or levels (head_of arcs s) 0) (sym t.1) lt
    in let same : residual_of arcs (pushed flow s sent) r ≡ residual_of arcs flow r =
    other_room arcs flow s r sent (apart arcs levels s r hs level below)
    in let room : amount ≤ residual_of arcs flow r = t.3
    in (
      t.0,
      t.1,
      t.2,
      subst (λ (x : ℕ). amount ≤ x) (sym same) room,
      trail_after arcs flow levels amount sent s (tail_of arcs r) steps start hs (omega arith) t.4,
    )
