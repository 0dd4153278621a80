-- The part of least cost is kept, register by register.
use Rattle.std.proofs.Common.{◌≡◌, ◌∙◌, ℕ, ◌+◌, ◌<◌, ◌≤◌, List, [], ◌∷◌, refl, sym, ap, subst, length, take, get_or, arith, Option, None, Some}
use Rattle.std.proofs.lemmas.List.{take_all, get_or_default}
use Rattle.target_base.specs.declared.types.Reg.{Reg}
use Rattle.interference.specs.declared.matrix.Matrix.{Matrix}
use Rattle.split_choose.specs.declared.spans.Span.{Span}
use Rattle.split_choose.specs.declared.regions.RegionCandidate.{RegionCandidate}
use Rattle.split_choose.specs.Offers.{least}
use Rattle.split_choose.specs.Regions.{capped, uses_of}
use Rattle.split_choose.specs.Parts.{IsPart, IsBest, part_cost, parts_of}
use Rattle.split_choose.proofs.Least.{bounded, best-taken, best-passed}

-- the best so far, with the cost that a better one stays below
pub record Picks (m : Matrix) (v : ℕ) (parents : List ℕ) (spans : List Span) (rs : List Reg) (limit : ℕ) (chosen : Option RegionCandidate) : Type 0 where
  pub best : IsBest m v parents spans (least (parts_of m v parents spans rs)) chosen
  pub bound : limit ≡ bounded (capped (uses_of spans)) (least (parts_of m v parents spans rs))

module _ (m : Matrix) (v : ℕ) (parents : List ℕ) (spans : List Span) where
  pub pick_first : (rs : List Reg) (bound : ℕ) → bound ≡ capped (uses_of spans) → Picks m v parents spans (take 0 rs) bound None
  pick_first [] bound e = record { best = refl; bound = e }
  pick_first (r ∷ rs) bound e = record { best = refl; bound = e }

  module _ (rs : List Reg) (k : ℕ) (d : Reg) (o : RegionCandidate) (bound : ℕ) (best : Option RegionCandidate) (h : k < length rs) (part : IsPart m v parents spans (get_or rs k d) o) (was : Picks m v parents spans (take k rs) bound best) where
    abbrev r : Reg
    r = get_or rs k d

    at : r ≡ get_or rs k r
    at = get_or_default rs k d r h

    pub pick_taken : o.cost < bound → Picks m v parents spans (take (k + 1) rs) o.cost (Some o)
    pick_taken lt =
        let cost = part.cost in
        let low = was.bound in
        let is : least (parts_of m v parents spans (take (k + 1) rs)) ≡ Some (part_cost m v parents spans r, r) =
        best-taken (part_cost m v parents spans) (capped (uses_of spans)) rs k r h at (omega (arith, cost, low, lt)) in
        let own : least (parts_of m v parents spans (take (k + 1) rs)) ≡ Some (o.cost, o.register) = is ∙ (ap (λ (c : ℕ). Some (c, r)) (sym part.cost) ∙ ap (λ (q : Reg). Some (o.cost, q)) (sym part.register)) in
        let P : Reg → Type 0 = λ q. IsPart m v parents spans q o in
        record {
          best = (own, subst P (sym part.register) part);
          bound = sym (ap (bounded (capped (uses_of spans))) own);
        }

    pub pick_passed : bound ≤ o.cost → Picks m v parents spans (take (k + 1) rs) bound best
    pick_passed le =
        let cost = part.cost in
        let low = was.bound in
        let is : least (parts_of m v parents spans (take (k + 1) rs)) ≡ least (parts_of m v parents spans (take k rs)) =
        best-passed (part_cost m v parents spans) (capped (uses_of spans)) rs k r h at (omega (arith, cost, low, le)) in
        let P : Option (ℕ × Reg) → Type 0 = λ q. IsBest m v parents spans q best in
        record {
          best = subst P (sym is) was.best;
          bound = was.bound ∙ ap (bounded (capped (uses_of spans))) (sym is);
        }

  pub pick_last : (rs : List Reg) (k bound : ℕ) (best : Option RegionCandidate) → length rs ≤ k → Picks m v parents spans (take k rs) bound best → IsBest m v parents spans (least (parts_of m v parents spans rs)) best
  pick_last rs k bound best h was = let P : List Reg → Type 0 = λ qs. IsBest m v parents spans (least (parts_of m v parents spans qs)) best in subst P (take_all k rs h) was.best
