-- A range in few blocks, in none of which it is used much, has a net that is small enough.
use Rattle.std.proofs.Common.{◌≡◌, ◌∙◌, ℕ, zero, suc, ◌+◌, ◌*◌, ◌≤◌, List, [], ◌∷◌, Bool, true, sym, ap, length, get_or, filter, arith, Some}
use Rattle.std.specs.Prelude.{slice_get, nat_le, zip}
use Rattle.std.specs.List.{list_all, sum_by}
use Rattle.std.proofs.lemmas.Bool.{le-leb, leb-true, ltb-true, and_parts, and_from}
use Rattle.std.proofs.Math.Nat.{mul-le-mul_left}
use Rattle.mir_func.specs.declared.func.Block.{Block}
use Rattle.mir_func.specs.Binding.{does, is_terminator}
use Rattle.block_freq.specs.Weights.{naming, block_uses}
use Rattle.interference.specs.declared.matrix.Matrix.{Matrix}
use Rattle.split_choose.specs.declared.spans.Span.{Span}
use Rattle.split_choose.specs.Bundles.{AreEarlier}
use Rattle.split_choose.specs.Seen.{FindsPlaces, FindsPoints}
use Rattle.split_choose.specs.Spanned.{IsSpan, AreSpansOf}
use Rattle.split_choose.specs.Regions.{ArePositions}
use Rattle.split_choose.specs.Counted.{AreCounted, IsSmall}
use Rattle.split_choose.specs.Placings.{is_cheap}
use Rattle.split_choose.specs.Choices.{IsWithin}
use Rattle.split_choose.proofs.Along.{Rising, rising}
use Rattle.split_choose.proofs.Clearing.{all-of}
use Rattle.split_choose.proofs.Priced.{sum-filter, sum-times}
use Rattle.split_choose.proofs.Regional.{ready}

-- positions that rise below a number are no more than it
rise-below : (n k : ℕ) (ss : List Span) → k ≤ n → Rising (λ (s : Span). s.position) k ss → ArePositions n ss → k + length ss ≤ n
rise-below n k [] low up positions = omega arith
rise-below n k (s ∷ ss) low up positions =
    let own = up.0 in
    let below = ltb-true s.position n (and_parts _ _ positions).0 in
    let rest = rise-below n (suc s.position) ss (omega (arith, below)) up.1 (and_parts _ _ positions).1 in
    omega (arith, own, rest)

-- what holds of all holds at a place

at-all : (p : ℕ → Bool) (ws : List ℕ) (k : ℕ) → p 0 ≡ true → list_all p ws ≡ true → p (get_or ws k 0) ≡ true
at-all p [] k zero-too all = zero-too
at-all p (w ∷ ws) zero zero-too all = (and_parts _ _ all).0
at-all p (w ∷ ws) (suc k) zero-too all = at-all p ws k zero-too (and_parts _ _ all).1

at-zip : {X : Type 0} (p : ℕ × X → Bool) (ws : List ℕ) (xs : List X) (k : ℕ) (x : X) → length ws ≡ length xs → slice_get xs k ≡ Some x → list_all p (zip ws xs) ≡ true → p (get_or ws k 0, x) ≡ true
at-zip p ws [] k x l at all = absurd (cc)
at-zip p [] (y ∷ xs) k x l at all = absurd (omega (arith, l))
at-zip p (w ∷ ws) (y ∷ xs) zero x l at all = let same : y ≡ x = cc in ap (λ z. p (w, z)) (sym same) ∙ (and_parts _ _ all).0
at-zip p (w ∷ ws) (y ∷ xs) (suc k) x l at all = at-zip p ws xs k x (omega (arith, l)) at (and_parts _ _ all).1

module _ (m : Matrix) (v : ℕ) (parents freqs : List ℕ) (finds : FindsPlaces m.live.target m.live.func m.live.table v) (points : FindsPoints m) (spans : List Span) (are : AreSpansOf m v freqs spans)
    (counted : AreCounted m.live.func freqs v) (small : IsSmall m.live.func freqs v) where
  span-cheap : (s : Span) → IsSpan m v freqs s → is_cheap s ≡ true
  span-cheap s is =
      and_from _ _ (le-leb s.frequency 5192296858534827628530496329220096 rare) (and_from _ _ (le-leb s.uses 5192296858534827628530496329220096 uses) (le-leb s.end_uses 5192296858534827628530496329220096 ends))
    where
      rare : s.frequency ≤ 5192296858534827628530496329220096
      rare =
          let h = leb-true (get_or freqs s.position 0) 5192296858534827628530496329220096 (at-all (λ n. nat_le n 5192296858534827628530496329220096) freqs s.position (le-leb 0 5192296858534827628530496329220096 (omega arith)) small.frequencies) in
          let e = is.frequency in
          omega (arith, h, e)

      cheap : s.frequency * sum_by (naming v) is.block.instrs ≤ 5192296858534827628530496329220096
      cheap =
          let h = leb-true (block_uses v (get_or freqs s.position 0, is.block)) 5192296858534827628530496329220096
          (at-zip (λ (p : ℕ × Block). nat_le (block_uses v p) 5192296858534827628530496329220096) freqs m.live.func.blocks s.position is.block counted.many is.found small.uses) in
          let e : block_uses v (get_or freqs s.position 0, is.block) ≡ s.frequency * sum_by (naming v) is.block.instrs =
          sum-times (get_or freqs s.position 0) (naming v) is.block.instrs ∙ ap (λ n. n * sum_by (naming v) is.block.instrs) (sym is.frequency) in
          omega (arith, h, e)

      uses : s.uses ≤ 5192296858534827628530496329220096
      uses = let h = cheap in let e = is.uses in omega (arith, h, e)

      ends : s.end_uses ≤ 5192296858534827628530496329220096
      ends =
          let h = cheap in
          let less : s.frequency * sum_by (naming v) (filter (does is_terminator m.live.target) is.block.instrs) ≤ s.frequency * sum_by (naming v) is.block.instrs =
          mul-le-mul_left s.frequency (sum-filter (does is_terminator m.live.target) (naming v) is.block.instrs) in
          let e = is.end_uses in
          omega (arith, h, e, less)

  pub within : AreEarlier parents → IsWithin m v parents spans
  within earlier = record {
    ready = ready m v parents freqs finds points spans are earlier;
    few = record {
      few = small.few;
      fewer = (let few = small.few in let rise = rise-below (length m.live.func.blocks) 0 spans (omega arith) (rising (λ (s : Span). s.position) spans are.order) are.positions in omega (arith, few, rise));
      positions = are.positions;
    };
    cheap = all-of is_cheap spans (λ s w. span-cheap s (are.each s w));
  }
