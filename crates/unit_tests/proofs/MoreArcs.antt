-- Arcs of which each is as it should be, and one more.
use Rattle.std.proofs.Common.{◌≡◌, ℕ, ◌<◌, zero, suc, List, [], ◌∷◌, ◌++◌, length, subst, sym, arith}
use Rattle.cut_place.specs.declared.net.Arc.{Arc}
use Rattle.cut_place.specs.Flows.{arc_at}

one_more : (P : Arc → Type 0) (arcs : List Arc) (a : Arc) → ((k : ℕ) → k < length arcs → P (arc_at arcs k)) → P a
    → (k : ℕ) → k < length (arcs ++ a ∷ []) → P (arc_at (arcs ++ a ∷ []) k)
one_more P [] a all here zero h = here
one_more P [] a all here (suc k) h = absurd (omega arith)
one_more P (b ∷ arcs) a all here zero h = all zero (omega arith)
one_more P (b ∷ arcs) a all here (suc k) h = one_more P arcs a (λ j lt. all (suc j) (omega arith)) here k (omega arith)

pub all_more : (P : Arc → Type 0) (arcs new : List Arc) (a : Arc) → new ≡ arcs ++ a ∷ [] → ((k : ℕ) → k < length arcs → P (arc_at arcs k)) → P a
    → (k : ℕ) → k < length new → P (arc_at new k)
all_more P arcs new a e all here = subst (λ (l : List Arc). (k : ℕ) → k < length l → P (arc_at l k)) (sym e) (one_more P arcs a all here)
