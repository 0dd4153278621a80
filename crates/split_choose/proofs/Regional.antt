-- The region split that is offered, by the spans of a range.
use Rattle.std.proofs.Common.{◌≡◌, ◌∙◌, ◌⊎◌, inl, inr, ℕ, zero, suc, ◌+◌, ◌<◌, ◌≤◌, List, Bool, true, false, refl, sym, ap, subst, length, arith, map, Option, None, Some, option_map}
use Rattle.std.specs.Prelude.{slice_get}
use Rattle.std.proofs.lemmas.Bool.{le-leb, lt-leb}
use Rattle.target_base.specs.declared.types.Reg.{Reg}
use Rattle.meaning.specs.Live.{Among}
use Rattle.mir_func.specs.declared.func.Block.{Block}
use Rattle.mir_func.specs.Binding.{class_of}
use Rattle.mir_meaning.specs.Places.{domain}
use Rattle.live_lanes.specs.Touching.{AreTouched}
use Rattle.interference.specs.declared.matrix.Matrix.{Matrix}
use Rattle.split_choose.specs.declared.spans.Span.{Span}
use Rattle.split_choose.specs.declared.places.TouchedPlace.{TouchedPlace}
use Rattle.split_choose.specs.Bundles.{AreEarlier}
use Rattle.split_choose.specs.Seen.{FindsPlaces, FindsPoints, view_of}
use Rattle.split_choose.specs.Places.{placed}
use Rattle.split_choose.specs.Spans.{is_clear_in}
use Rattle.split_choose.specs.Spanned.{IsSpan, HasSpan, is_in_block, AreSpansOf}
use Rattle.split_choose.specs.Offers.{touched_places, is_dividable, is_clear, region_offer, least}
use Rattle.split_choose.specs.Counted.{AreCounted}
use Rattle.split_choose.specs.Parts.{IsReady, part_in, parts_of, marked}
use Rattle.split_choose.proofs.Split.{as-many}
use Rattle.split_choose.proofs.Along.{Along, rising, along}
use Rattle.split_choose.proofs.Telling.{IsTold, IsUntold}
use Rattle.split_choose.proofs.Spanning.{told, untold, right-at}
use Rattle.split_choose.proofs.Cleared.{clear-in}
use Rattle.split_choose.proofs.Unused.{unused}
use Rattle.split_choose.proofs.Regioned.{none-divides, offered-is}

module _ (m : Matrix) (v : ℕ) (parents freqs : List ℕ) (finds : FindsPlaces m.live.target m.live.func m.live.table v) where
  -- fewer than two places
  pub none-many : (ps : List TouchedPlace) → ps ≡ map (placed m.live.func.blocks) (touched_places m.live.target m.live.func v (view_of m v parents)) → length ps < 2 → None ≡ region_offer m.live.target m.live.func v (view_of m v parents) freqs
  none-many ps same h =
      let many = as-many m.live.target m.live.func v (view_of m v parents) ps same in
      none-divides m.live.target m.live.func v (view_of m v parents) freqs (lt-leb 2 (length (touched_places m.live.target m.live.func v (view_of m v parents))) (omega (arith, many, h)))

  pub divides : (ps : List TouchedPlace) → ps ≡ map (placed m.live.func.blocks) (touched_places m.live.target m.live.func v (view_of m v parents)) → 2 ≤ length ps → is_dividable m.live.target m.live.func v (view_of m v parents) ≡ true
  divides ps same h =
      let many = as-many m.live.target m.live.func v (view_of m v parents) ps same in
      le-leb 2 (length (touched_places m.live.target m.live.func v (view_of m v parents))) (omega (arith, many, h))

  module _ (points : FindsPoints m) (spans : List Span) (are : AreSpansOf m v freqs spans) where
    pub ready : AreEarlier parents → IsReady m parents spans
    ready earlier = record {
      order = points.order;
      few = (let h = finds.few in omega (arith, h));
      positions = are.positions;
      stretches = are.stretches;
      earlier = earlier;
    }

    module _ (ids : List ℕ) (touched : AreTouched m.live.table v ids) where
      -- block by block there is a span, or nothing of the range
      pub spans-along : Along (λ (s : Span). s.position) (IsTold m.live.target m.live.func v (view_of m v parents) freqs spans) (IsUntold m.live.target m.live.func v (view_of m v parents)) 0 m.live.func.blocks spans
      spans-along =
          along (λ (s : Span). s.position) (IsTold m.live.target m.live.func v (view_of m v parents) freqs spans) (IsUntold m.live.target m.live.func v (view_of m v parents)) 0 m.live.func.blocks spans
          (rising (λ (s : Span). s.position) spans are.order)
          (λ s w. here s w (are.each s w))
          (λ j b at. there j b at (are.all j))
        where
          here : (s : Span) → Among s spans → IsSpan m v freqs s → (j : ℕ) × (b : Block) × (s.position ≡ 0 + j) × (slice_get m.live.func.blocks j ≡ Some b) × IsTold m.live.target m.live.func v (view_of m v parents) freqs spans (0 + j) b s
          here s w is =
              let e : s.position ≡ 0 + s.position = omega arith in
              let P : ℕ → Type 0 = λ k. IsTold m.live.target m.live.func v (view_of m v parents) freqs spans k is.block s in
              (s.position, is.block, e, is.found, subst P e (told m v parents freqs finds spans are s w is.block is.found))

          there : (j : ℕ) (b : Block) → slice_get m.live.func.blocks j ≡ Some b → HasSpan spans j ⊎ (is_in_block m.live.table v j ≡ false)
              → ((s : Span) × Among s spans × (s.position ≡ 0 + j)) ⊎ IsUntold m.live.target m.live.func v (view_of m v parents) (0 + j) b
          there j b at (inl q) = inl (q.span, q.among, (let e : j ≡ 0 + j = omega arith in q.there ∙ e))
          there j b at (inr none) =
              let e : j ≡ 0 + j = omega arith in
              let P : ℕ → Type 0 = λ k. IsUntold m.live.target m.live.func v (view_of m v parents) k b in
              inr (subst P e (untold m v parents freqs finds j b at none (unused m v finds points ids touched j b at none)))

      -- the register is clear in a span just where it is in its block
      pub clear-is : (r : Reg) (s : Span) (b : Block) → Among s spans → slice_get m.live.func.blocks s.position ≡ Some b → is_clear_in m v r s ≡ is_clear m.live.target m.live.func v (view_of m v parents) r b
      clear-is r s b w at = go (are.each s w)
        where
          some-same : {Z : Type 0} (y z : Z) → Some y ≡ Some z → y ≡ z
          some-same y z e = cc

          go : IsSpan m v freqs s → is_clear_in m v r s ≡ is_clear m.live.target m.live.func v (view_of m v parents) r b
          go is = clear-in m v points finds parents r freqs s is (right-at m v parents freqs finds spans are s spans are.stretches w)
              ∙ ap (is_clear m.live.target m.live.func v (view_of m v parents) r) (some-same is.block b (sym is.found ∙ at))

      -- the parts over spans give what is offered
      pub region-is : AreCounted m.live.func freqs v → (ps : List TouchedPlace) → ps ≡ map (placed m.live.func.blocks) (touched_places m.live.target m.live.func v (view_of m v parents)) → 2 ≤ length ps
          → option_map (marked m.live.target m.live.func v (view_of m v parents) (part_in m v parents spans) spans) (least (parts_of m v parents spans (domain m.live.target (class_of m.live.func v))))
          ≡ region_offer m.live.target m.live.func v (view_of m v parents) freqs
      region-is counted ps same many =
          offered-is m.live.target m.live.func v (view_of m v parents) freqs counted spans spans-along parents finds.placed (λ x y. refl) (is_clear_in m v)
          (λ r k b s is. clear-is r s b is.among (ap (slice_get m.live.func.blocks) is.position ∙ is.at)) (divides ps same many)
