-- The region at least cost that is offered, by the spans of a range.
use Rattle.std.proofs.Common.{◌≡◌, ◌∙◌, inl, ℕ, ◌<◌, ◌≤◌, List, refl, ap, length, arith, map, Option, None}
use Rattle.std.specs.Prelude.{slice_get}
use Rattle.std.proofs.lemmas.Bool.{lt-leb}
use Rattle.mir_func.specs.Binding.{class_of}
use Rattle.mir_meaning.specs.Places.{domain}
use Rattle.live_lanes.specs.Touching.{AreTouched}
use Rattle.interference.specs.declared.matrix.Matrix.{Matrix}
use Rattle.split_choose.specs.declared.spans.Span.{Span}
use Rattle.split_choose.specs.declared.cuts.Region.{Region}
use Rattle.split_choose.specs.declared.places.TouchedPlace.{TouchedPlace}
use Rattle.split_choose.specs.Bundles.{AreEarlier}
use Rattle.split_choose.specs.Seen.{FindsPlaces, FindsPoints, view_of}
use Rattle.split_choose.specs.Places.{placed}
use Rattle.split_choose.specs.Spanned.{AreSpansOf}
use Rattle.split_choose.specs.Regions.{capped, uses_of}
use Rattle.split_choose.specs.Offers.{touched_places}
use Rattle.split_choose.specs.Counted.{AreCounted}
use Rattle.split_choose.specs.Cuts.{IsCutOffer}
use Rattle.split_choose.specs.Labelled.{IsBestRegion}
use Rattle.split_choose.proofs.Split.{as-many}
use Rattle.split_choose.proofs.Regional.{divides, spans-along, clear-is}
use Rattle.split_choose.proofs.CutOffers.{offer-is}

module _ (m : Matrix) (v : ℕ) (parents freqs : List ℕ) (finds : FindsPlaces m.live.target m.live.func m.live.table v) (ps : List TouchedPlace)
    (same : ps ≡ map (placed m.live.func.blocks) (touched_places m.live.target m.live.func v (view_of m v parents))) where
  -- fewer than two places
  pub no-cut : length ps < 2 → IsCutOffer m.live.target m.live.func v (view_of m v parents) freqs None
  no-cut h =
      let many = as-many m.live.target m.live.func v (view_of m v parents) ps same in
      inl (lt-leb 2 (length (touched_places m.live.target m.live.func v (view_of m v parents))) (omega (arith, many, h)))

  -- the best over spans is what is offered
  pub cut-is : (points : FindsPoints m) (spans : List Span) (are : AreSpansOf m v freqs spans) (ids : List ℕ) (touched : AreTouched m.live.table v ids) → AreEarlier parents → AreCounted m.live.func freqs v → 2 ≤ length ps → (q : Option Region)
      → IsBestRegion m.live.target m.live.func v (view_of m v parents) m v parents spans (capped (uses_of spans)) (domain m.live.target (class_of m.live.func v)) q → IsCutOffer m.live.target m.live.func v (view_of m v parents) freqs q
  cut-is points spans are ids touched earlier counted many q best =
      offer-is m v parents freqs spans (view_of m v parents) counted finds.placed (λ x y. refl) earlier (spans-along m v parents freqs finds points spans are ids touched)
      (λ r k b s is. clear-is m v parents freqs finds points spans are ids touched r s b is.among (ap (slice_get m.live.func.blocks) is.position ∙ is.at))
      (divides m v parents freqs finds ps same many) q best
