-- The longest runs of places in which each is near the next one.
use Rattle.std.specs.Prelude.{◌≡◌, ◌<◌, ◌≤◌, ◌+◌, ℕ, Bool, true, false, cond, map, find, option_map, ◌&&◌, ◌||◌, nat_eq, nat_lt, nat_le, List, Option, None, Some, slice_get}
use Rattle.std.specs.List.{list_any}
use Rattle.target_base.specs.declared.types.Reg.{Reg}
use Rattle.target_base.specs.declared.types.Target.{Target}
use Rattle.mir_func.specs.Value.{Function}
use Rattle.mir_func.specs.Binding.{class_of}
use Rattle.mir_meaning.specs.Places.{domain}
use Rattle.live_lanes.specs.declared.ask.labels.Mark.{Mark}
use Rattle.live_lanes.specs.Touching.{AreTouched}
use Rattle.live_lanes.specs.Tells.{touching_ids}
use Rattle.interference.specs.declared.matrix.Matrix.{Matrix}
use Rattle.split_choose.specs.declared.runs.PlaceRun.{PlaceRun}
use Rattle.split_choose.specs.declared.places.TouchedPlace.{TouchedPlace}
use Rattle.split_choose.specs.declared.spans.Span.{Span}
use Rattle.split_choose.specs.Offers.{View, live_at, borders, touched_places, clear_along, runs, run_marks}
use Rattle.split_choose.specs.Seen.{FindsPlaces, FindsPoints, view_of}
use Rattle.split_choose.specs.Places.{placed}
use Rattle.split_choose.specs.Spanned.{AreSpansOf}

-- the run has two or more of so many places, but not all
pub record IsWithin (count first len : ℕ) : Type 0 where
  pub many : 2 ≤ len
  pub few : len < count
  pub inside : first + len ≤ count

-- each place of it but the last is near the next one
pub record IsRun (near : ℕ → Bool) (first len : ℕ) : Type 0 where
  pub along : (k : ℕ) → first ≤ k → k + 1 < first + len → near k ≡ true

-- of the runs that end within so many places, the run is the longest, and the earliest of these
pub record IsLongest (near : ℕ → Bool) (count seen first len : ℕ) : Type 0 where
  pub within : IsWithin count first len
  pub ends : first + len ≤ seen
  pub run : IsRun near first len
  pub longest : (f l : ℕ) → IsWithin count f l → f + l ≤ seen → IsRun near f l → l ≤ len
  pub earliest : (f : ℕ) → IsWithin count f len → f + len ≤ seen → IsRun near f len → first ≤ f

-- that run of the register, or there is none
abbrev pub IsLongestRun : (ℕ → Bool) → ℕ → ℕ → Reg → Option PlaceRun → Type 0
IsLongestRun near count seen r None = (f l : ℕ) → IsWithin count f l → f + l ≤ seen → IsRun near f l → ⊥
IsLongestRun near count seen r (Some b) = IsLongest near count seen b.first b.len × (b.register ≡ r)

-- of the runs of the first so many registers, the run is the longest, then the earliest, then that of the first register
pub record IsBest (near : Reg → ℕ → Bool) (count : ℕ) (rs : List Reg) (seen : ℕ) (b : PlaceRun) : Type 0 where
  pub place : ℕ
  pub before : place < seen
  pub register : slice_get rs place ≡ Some b.register
  pub within : IsWithin count b.first b.len
  pub run : IsRun (near b.register) b.first b.len
  pub longest : (j f l : ℕ) (r : Reg) → j < seen → slice_get rs j ≡ Some r → IsWithin count f l → IsRun (near r) f l → l ≤ b.len
  pub earliest : (j f : ℕ) (r : Reg) → j < seen → slice_get rs j ≡ Some r → IsWithin count f b.len → IsRun (near r) f b.len → b.first ≤ f
  pub foremost : (j : ℕ) (r : Reg) → j < seen → slice_get rs j ≡ Some r → IsRun (near r) b.first b.len → place ≤ j

-- that run, or there is none
abbrev pub IsBestRun : (Reg → ℕ → Bool) → ℕ → List Reg → ℕ → Option PlaceRun → Type 0
IsBestRun near count rs seen None = (j f l : ℕ) (r : Reg) → j < seen → slice_get rs j ≡ Some r → IsWithin count f l → IsRun (near r) f l → ⊥
IsBestRun near count rs seen (Some b) = IsBest near count rs seen b

-- a run of that length is longer than the best, or has two or more places
abbrev pub is_longer : ℕ → Option PlaceRun → Bool
is_longer len None = nat_le 2 len
is_longer len (Some b) = nat_lt b.len len

-- the run is longer than the best, or as long and earlier
abbrev pub is_better : PlaceRun → Option PlaceRun → Bool
is_better r None = true
is_better r (Some b) = nat_lt b.len r.len || nat_eq r.len b.len && nat_lt r.first b.first

-- the better of the best and another one, if there is one
abbrev pub better_of : Option PlaceRun → Option PlaceRun → Option PlaceRun
better_of best None = best
better_of best (Some r) = cond (is_better r best) (Some r) best

-- what a local split of a range is chosen by: it is live at no border, and these are its touched places and its points block by block
pub record IsLocal (m : Matrix) (v : ℕ) (parents freqs : List ℕ) (places : List TouchedPlace) (spans : List Span) : Type 0 where
  pub finds : FindsPlaces m.live.target m.live.func m.live.table v
  pub points : FindsPoints m
  pub touched : AreTouched m.live.table v (touching_ids m.live.func v)
  pub inside : list_any (live_at m.live.target m.live.func v (view_of m v parents)) (borders m.live.target m.live.func v (view_of m v parents)) ≡ false
  pub spanned : AreSpansOf m v freqs spans
  pub same : places ≡ map (placed m.live.func.blocks) (touched_places m.live.target m.live.func v (view_of m v parents))

-- the test of two, if there are two
abbrev pub of_both : {X : Type 0} → (X × X → Bool) → Option X → Option X → Bool
of_both test (Some p) (Some q) = test (p, q)
of_both test _ _ = false

-- the register is clear along a touched place and the next one
abbrev pub is_near : Target → Function → ℕ → View → Reg → ℕ → Bool
is_near t f v view r k = of_both (λ e. clear_along t f v view (e, r)) (slice_get (touched_places t f v view) k) (slice_get (touched_places t f v view) (k + 1))

abbrev pub near_in : Matrix → ℕ → List ℕ → Reg → ℕ → Bool
near_in m v parents = is_near m.live.target m.live.func v (view_of m v parents)

-- the registers that the range may have, in class order
abbrev pub registers_of : Matrix → ℕ → List Reg
registers_of m v = domain m.live.target (class_of m.live.func v)

-- the run that is found, with its register and its labels
abbrev pub found_run : Target → Function → ℕ → View → Option (Reg × List Mark)
found_run t f v view = option_map (λ r. (r.1, run_marks t f v view r.0)) (find (clear_along t f v view) (runs t f v view))
