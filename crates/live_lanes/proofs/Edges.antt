-- A place in a list is found by looking at what stands before it and at it.
use Rattle.std.proofs.Common.{◌≡◌, ◌<◌, ◌≤◌, ◌-◌, ℕ, Bool, true, false, length, List, refl, sym, ◌∙◌, ap, arith, get_or}
use Rattle.std.specs.List.Sorted.{IsPartitionedBy}
use Rattle.std.proofs.lemmas.List.{get_or_default}
use Rattle.live_lanes.specs.Table.{leading}
use Rattle.live_lanes.proofs.Cells.{partition-leading}

-- where those that pass a test come first, a place is behind them all if the one before it passes and the one at it doesn't
pub edge : {X : Type 0} (test : X → Bool) (xs : List X) (at : ℕ) → IsPartitionedBy test xs → at ≤ length xs → ((d : X) → 0 < at → test (get_or xs (at - 1) d) ≡ true) → ((d : X) → at < length xs → test (get_or xs at d) ≡ false) → at ≡ leading test xs
edge {X} test xs at parted within before here =
    partition-leading test xs at within
    (λ k d l h. parted k (at - 1) d (omega (arith, l, h)) (omega (arith, within, h)) (before d (omega (arith, h))))
    (λ k d l h. behind k d l h (test (get_or xs k d)) refl)
  where
    behind : (k : ℕ) (d : X) → at ≤ k → k < length xs → (u : Bool) → test (get_or xs k d) ≡ u → test (get_or xs k d) ≡ false
    behind k d l h true e = absurd (let z : true ≡ false = sym (parted at k d l h e) ∙ here d (omega (arith, l, h)) in cc)
    behind k d l h false e = e

-- what a test says of an element that was read
pub at-read : {X : Type 0} (test : X → Bool) (xs : List X) (k : ℕ) (x : X) (b : Bool) → x ≡ get_or xs k x → k < length xs → test x ≡ b → (d : X) → test (get_or xs k d) ≡ b
at-read test xs k x b own within told d = ap test (get_or_default xs k d x within ∙ sym own) ∙ told
