-- A search that reaches one more node.
use Rattle.std.proofs.Common.{◌≡◌, ℕ, ◌+◌, ◌-◌, ◌<◌, ◌≤◌, ◌≢◌, Bool, true, false, cond, nat_lt, zero, suc, List, [], ◌∷◌, ◌++◌, length, get_or, refl, sym, ◌∙◌, ap, subst, arith, get_or-set_other, get_or-set_same}
use Rattle.std.proofs.Math.ListN.{set, length-set}
use Rattle.std.proofs.lemmas.Bool.Decides.{nat_tests}
use Rattle.std.proofs.lemmas.Grind.{common_steps}
use Rattle.cut_place.specs.declared.net.Arc.{Arc}
use Rattle.cut_place.specs.declared.steps.ResidualArc.{ResidualArc}
use Rattle.cut_place.specs.Flows.{arc_at, HasEnds, IsWithin}
use Rattle.cut_place.specs.Residual.{tail_of, head_of, residual_of}
use Rattle.cut_place.specs.Trails.{IsTree, LeadsTo, step_at, no_step}
use Rattle.cut_place.specs.Searches.{reached, unreached, Stays, IsClosed, IsSearch}
use Rattle.cut_place.proofs.Facts.{tail_node, head_node}

pub low : (x : ℕ) → x < 4096 → nat_lt x 4096 ≡ true
low x h = grind (arith, nat_tests)

pub high : (x : ℕ) → 4096 ≤ x → nat_lt x 4096 ≡ false
high x h = grind (arith, nat_tests)

pub is_low : (x : ℕ) → nat_lt x 4096 ≡ true → x < 4096
is_low x h = grind (arith, nat_tests)

abbrev weight : ℕ → ℕ
weight l = cond (nat_lt l 4096) 0 1

low_weight : (x : ℕ) → x < 4096 → weight x ≡ 0
low_weight x h = ap (λ b. cond b 0 1) (low x h)

high_weight : (x : ℕ) → 4096 ≤ x → weight x ≡ 1
high_weight x h = ap (λ b. cond b 0 1) (high x h)

most_weight : (b : Bool) → cond b 0 1 ≤ 1
most_weight true = omega arith
most_weight false = omega arith

pub one_fewer : (levels : List ℕ) (v y : ℕ) → v < length levels → 4096 ≤ get_or levels v 0 → y < 4096
    → unreached (set levels v y) + 1 ≡ unreached levels
one_fewer [] v y h hi lo = absurd (omega arith)
one_fewer (l ∷ levels) zero y h hi lo =
    omega (arith, low_weight y lo, high_weight l hi)
one_fewer (l ∷ levels) (suc v) y h hi lo =
    let ih : unreached (set levels v y) + 1 ≡ unreached levels = one_fewer levels v y (omega arith) hi lo
    in omega (arith, ih)

pub unreached_most : (levels : List ℕ) → unreached levels ≤ length levels
unreached_most [] = omega arith
unreached_most (l ∷ levels) =
    omega (arith, most_weight (nat_lt l 4096), unreached_most levels)

-- a node is another, or the same
pub data Same (v h : ℕ) : Type 0 where
  same : v ≡ h → Same v h
  other : v ≢ h → Same v h

pub same_or : (v h : ℕ) → Same v h
same_or zero zero = same refl
same_or zero (suc h) = other (λ e. absurd (omega arith))
same_or (suc v) zero = other (λ e. absurd (omega arith))
same_or (suc v) (suc h) = elim (same_or v h) [ same e ↦ same (ap suc e) | other n ↦ other (λ e. n (omega arith)) ]

module _ (arcs : List Arc) (flow levels : List ℕ) (before : List ResidualArc) (queue : List ℕ) (s : ResidualArc)
    (f : IsSearch arcs flow levels before queue) (ends : HasEnds (length levels) arcs) (inside : s.arc < length arcs)
    (lo : get_or levels (tail_of arcs s) 0 < 4096) (hi : 4096 ≤ get_or levels (head_of arcs s) 0) (room : 1 ≤ residual_of arcs flow s) where
  abbrev to : ℕ
  to = head_of arcs s

  abbrev level : ℕ
  level = get_or levels (tail_of arcs s) 0

  abbrev now : List ℕ
  now = set levels to (level + 1)

  to_node : to < length levels
  to_node = head_node (length levels) arcs s ends inside

  fewer : level + 1 < 4096 → unreached now + 1 ≡ unreached levels
  fewer h = one_fewer levels to (level + 1) to_node hi h

  some_left : 1 ≤ unreached levels
  some_left = let e : unreached (set levels to 0) + 1 ≡ unreached levels = one_fewer levels to 0 to_node hi (omega arith) in omega arith

  small : level + unreached levels < length levels
  small = f.bound (tail_of arcs s) (tail_node (length levels) arcs s ends inside) lo

  pub level_fits : level + 1 < 4096
  level_fits = omega (arith, small, some_left, f.most)

  pub one_reached : unreached now + 1 ≡ unreached levels
  one_reached = fewer level_fits

  now_same : get_or now to 0 ≡ level + 1
  now_same = get_or-set_same levels to (level + 1) 0 to_node

  now_other : (v : ℕ) → v ≢ to → get_or now v 0 ≡ get_or levels v 0
  now_other v n = get_or-set_other levels to v (level + 1) 0 n

  low_is_other : (v : ℕ) → get_or levels v 0 < 4096 → v ≢ to
  low_is_other v h e = let x : get_or levels v 0 ≡ get_or levels to 0 = ap (λ w. get_or levels w 0) e in omega (arith, x, hi, h)

  tail_now : get_or now (tail_of arcs s) 0 ≡ level
  tail_now = now_other (tail_of arcs s) (low_is_other (tail_of arcs s) lo)

  leads_new : LeadsTo arcs flow now to s
  leads_new = (inside, refl, room, omega (arith, tail_now, now_same))

  leads_old : (v : ℕ) (r : ResidualArc) → get_or levels v 0 < 4096 → v ≢ to → LeadsTo arcs flow levels v r → LeadsTo arcs flow now v r
  leads_old v r h n l =
      let e : get_or levels (tail_of arcs r) 0 + 1 ≡ get_or levels v 0 = l.3
      in let t : get_or now (tail_of arcs r) 0 ≡ get_or levels (tail_of arcs r) 0 = now_other (tail_of arcs r) (low_is_other (tail_of arcs r) (omega arith))
      in (l.0, l.1, l.2, omega (arith, e, t, now_other v n))

  tree_now : IsTree arcs flow now (set before to s)
  tree_now v h n r =
      elim (same_or v to) [
        | same e ↦ subst (λ (w : ℕ). LeadsTo arcs flow now w (step_at (set before to s) w)) (sym e)
            (subst (λ (p : ResidualArc). LeadsTo arcs flow now to p) (sym (get_or-set_same before to s no_step (omega (arith, to_node, f.same)))) leads_new)
        | other d ↦
            let was : get_or levels v 0 < 4096 = omega (arith, r, now_other v d)
            in subst (λ (p : ResidualArc). LeadsTo arcs flow now v p) (sym (get_or-set_other before to v s no_step d))
            (leads_old v (step_at before v) was d (f.tree v (omega (arith, h, length-set levels to (level + 1))) n was))
      ]

  bound_now : (v : ℕ) → v < length now → get_or now v 0 < 4096 → get_or now v 0 + unreached now < length now
  bound_now v h r =
      elim (same_or v to) [
        | same e ↦ let x : get_or now v 0 ≡ level + 1 = ap (λ w. get_or now w 0) e ∙ now_same
            in omega (arith, x, small, one_reached, length-set levels to (level + 1))
        | other d ↦
            let was : get_or levels v 0 + unreached levels < length levels = f.bound v (omega (arith, h, length-set levels to (level + 1))) (omega (arith, r, now_other v d))
            in omega (arith, was, now_other v d, one_reached, length-set levels to (level + 1))
      ]

  sound_now : (nodes : ℕ → Bool) → nodes 0 ≡ true → IsClosed nodes arcs flow → (v : ℕ) → v < length now → get_or now v 0 < 4096 → nodes v ≡ true
  sound_now nodes zero_in closed v h r =
      elim (same_or v to) [
        | same e ↦ ap nodes e ∙ closed s inside (f.sound nodes zero_in closed (tail_of arcs s) (tail_node (length levels) arcs s ends inside) lo) room
        | other d ↦ f.sound nodes zero_in closed v (omega (arith, h, length-set levels to (level + 1))) (omega (arith, r, now_other v d))
      ]

  source_now : get_or now 0 0 ≡ 0
  source_now = let e : get_or levels 0 0 ≡ 0 = f.source in now_other 0 (low_is_other 0 (omega arith)) ∙ e

  queued_now : (k : ℕ) → k < length (queue ++ to ∷ []) → get_or (queue ++ to ∷ []) k 0 < length now
  queued_now k h = grind (arith, common_steps, f.queued, to_node)

  pub search_now : IsSearch arcs flow now (set before to s) (queue ++ to ∷ [])
  search_now = record {
    nodes = omega (arith, f.nodes, length-set levels to (level + 1));
    most = omega (arith, f.most, length-set levels to (level + 1));
    same = omega (arith, f.same, length-set before to s, length-set levels to (level + 1));
    source = source_now;
    tree = tree_now;
    bound = bound_now;
    queued = queued_now;
    sound = sound_now;
  }

  pub search_then : (h v : ℕ) (q : List ℕ) → h ≡ head_of arcs s → v ≡ get_or levels (tail_of arcs s) 0 → q ≡ queue ++ h ∷ []
      → IsSearch arcs flow (set levels h (v + 1)) (set before h s) q
  search_then h v q eh ev eq =
      let one : IsSearch arcs flow (set levels h (v + 1)) (set before h s) (queue ++ h ∷ []) =
      subst (λ (x : ℕ). IsSearch arcs flow (set levels x (v + 1)) (set before x s) (queue ++ x ∷ [])) (sym eh)
      (subst (λ (x : ℕ). IsSearch arcs flow (set levels (head_of arcs s) (x + 1)) (set before (head_of arcs s) s) (queue ++ head_of arcs s ∷ [])) (sym ev) search_now)
      in subst (λ (x : List ℕ). IsSearch arcs flow (set levels h (v + 1)) (set before h s) x) (sym eq) one

  pub fewer_then : (h v : ℕ) → h ≡ head_of arcs s → v ≡ get_or levels (tail_of arcs s) 0 → unreached (set levels h (v + 1)) + 1 ≡ unreached levels
  fewer_then h v eh ev =
      subst (λ (x : ℕ). unreached (set levels x (v + 1)) + 1 ≡ unreached levels) (sym eh)
      (subst (λ (x : ℕ). unreached (set levels (head_of arcs s) (x + 1)) + 1 ≡ unreached levels) (sym ev) one_reached)
