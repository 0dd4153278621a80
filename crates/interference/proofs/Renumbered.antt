-- Lists stay in order where instructions have other numbers in the same order.
use Rattle.std.proofs.Common.{◌≡◌, ◌≤◌, ℕ, Bool, true, false, cond, List, [], ◌∷◌, Option, None, Some, max, refl, arith}
use Rattle.mir_meaning.specs.Paths.{Among, here, there}
use Rattle.slot_index.specs.Order.{Has}
use Rattle.live_lanes.specs.declared.ask.extent.Extent.{Extent}
use Rattle.live_lanes.specs.declared.row.PieceEnd.{PieceEnd}
use Rattle.live_lanes.specs.declared.row.PieceEnd.TheVariants as ends
use Rattle.live_lanes.specs.Table.{Numbers, entry_rank, exit_rank, end_rank}
use Rattle.live_lanes.specs.Extents.{first_rank, last_rank}
use Rattle.live_edits.specs.Drafts.{KeepsOrder}
use Rattle.interference.specs.declared.held.RangeExtent.{RangeExtent}
use Rattle.interference.specs.Clashes.{AreApart}
use Rattle.interference.specs.EditedLists.{end_instr, HasEnds, FitNumbers}

module _ (x y : Numbers) (keeps : KeepsOrder x y) (fit : FitNumbers x) where
  -- the end of a piece, and the exit of the instruction that begins it, by the first point of another
  abbrev first_of : Numbers → Option ℕ → Bool → ℕ
  first_of slots start early = elim start [ None ↦ 0 | Some id ↦ cond early (entry_rank slots id) (exit_rank slots id) ]

  exit-kept : (i : ℕ) → Has x i → (start : Option ℕ) (early : Bool) → ((id : ℕ) → start ≡ Some id → Has x id) → exit_rank x i ≤ first_of x start early → exit_rank y i ≤ first_of y start early
  exit-kept i h None early own le = absurd (omega arith)
  exit-kept i h (Some j) true own le = let z = keeps.before i j h (own j refl) (omega arith) in omega arith
  exit-kept i h (Some j) false own le = let z = keeps.not_behind i j h (own j refl) (omega arith) in omega arith

  entry-kept : (i : ℕ) → Has x i → (start : Option ℕ) (early : Bool) → ((id : ℕ) → start ≡ Some id → Has x id) → entry_rank x i ≤ first_of x start early → entry_rank y i ≤ first_of y start early
  entry-kept i h None early own le = absurd (let z = fit.positive i h in omega arith)
  entry-kept i h (Some j) true own le = let z = keeps.not_behind i j h (own j refl) (omega arith) in omega arith
  entry-kept i h (Some j) false own le = let z = keeps.not_behind i j h (own j refl) (omega arith) in omega arith

  last-far : (start : Option ℕ) (early : Bool) → 340282366920938463463374607431768211455 ≤ first_of x start early → ⊥
  last-far None early le = omega arith
  last-far (Some j) true le = let z = fit.small j in omega arith
  last-far (Some j) false le = let z = fit.small j in omega arith

  end-kept : (e : PieceEnd) → ((id : ℕ) → end_instr e ≡ Some id → Has x id) → (start : Option ℕ) (early : Bool) → ((id : ℕ) → start ≡ Some id → Has x id) → end_rank x e ≤ first_of x start early → end_rank y e ≤ first_of y start early
  end-kept ends.Never ends start early own le = omega arith
  end-kept (ends.Entry i) ends start early own le = entry-kept i (ends i refl) start early own le
  end-kept (ends.Exit i) ends start early own le = exit-kept i (ends i refl) start early own le
  end-kept ends.Last ends start early own le = absurd (last-far start early le)

  -- what ended by the first point of an extent still does
  ends-kept : (e f : Extent) → HasEnds x e → HasEnds x f → last_rank x e ≤ first_rank x f → last_rank y e ≤ first_rank y f
  ends-kept e f he hf le = go e.start he.first le
    where
      go : (s : Option ℕ) → ((id : ℕ) → s ≡ Some id → Has x id) → elim s [ None ↦ end_rank x e.end | Some id ↦ max (end_rank x e.end) (exit_rank x id) ] ≤ first_rank x f
          → elim s [ None ↦ end_rank y e.end | Some id ↦ max (end_rank y e.end) (exit_rank y id) ] ≤ first_rank y f
      go None own le = end-kept e.end he.last f.start f.early hf.first le
      go (Some i) own le =
          let z = end-kept e.end he.last f.start f.early hf.first (omega arith) in
          let w = exit-kept i (own i refl) f.start f.early hf.first (omega arith) in
          omega (arith, z, w)

  behind-renumbered : (e : Extent) (hs : List RangeExtent) → HasEnds x e → ((h : RangeExtent) → Among h hs → HasEnds x h.extent) → AreApart x (last_rank x e) hs → AreApart y (last_rank y e) hs
  behind-renumbered e [] he all a = tt
  behind-renumbered e (h ∷ hs) he all a = (ends-kept e h.extent he (all h here) a.0, behind-renumbered h.extent hs (all h here) (λ g m. all g (there m)) a.1)

  -- a list in order is in order still
  pub apart-renumbered : (hs : List RangeExtent) → ((h : RangeExtent) → Among h hs → HasEnds x h.extent) → AreApart x 0 hs → AreApart y 0 hs
  apart-renumbered [] all a = tt
  apart-renumbered (h ∷ hs) all a = (omega arith, behind-renumbered h.extent hs (all h here) (λ g m. all g (there m)) a.1)
