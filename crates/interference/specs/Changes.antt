-- What is put into a list of stretches and taken out of it.
use Rattle.std.specs.Prelude.{◌≡◌, ◌<◌, ◌-◌, ℕ, suc, Bool, true, false, cond, not, ◌&&◌, nat_eq, nat_lt, List, [], ◌∷◌, ◌++◌, filter, Option, None, Some, slice_get}
use Rattle.std.specs.List.{list_any}
use Rattle.live_lanes.specs.declared.ask.extent.Extent.{Extent}
use Rattle.live_lanes.specs.Table.{Numbers, entry_rank, exit_rank}
use Rattle.live_lanes.specs.Extents.{begins_with, first_rank}
use Rattle.interference.specs.declared.held.ListPosition.{ListPosition}
use Rattle.interference.specs.declared.held.RangeExtent.{RangeExtent}
use Rattle.interference.specs.declared.held.HeldList.{HeldList}
use Rattle.interference.specs.declared.held.SearchResult.{SearchResult}
use Rattle.interference.specs.declared.held.SearchResult.TheVariants as seeks
use Rattle.interference.specs.Parts.{parts_of, part_in}

-- a stretch of a range that begins so
abbrev pub is_piece : ℕ → Option ℕ → RangeExtent → Bool
is_piece v start h = nat_eq h.range v && begins_with start h.extent

-- the first point that such a piece may have
abbrev pub low_rank : Numbers → Option ℕ → ℕ
low_rank slots None = 0
low_rank slots (Some id) = entry_rank slots id

-- the last point that it may begin at
abbrev pub high_rank : Numbers → Option ℕ → ℕ
high_rank slots None = 0
high_rank slots (Some id) = exit_rank slots id

abbrev pub begins_before : Numbers → ℕ → RangeExtent → Bool
begins_before slots at h = nat_lt (first_rank slots h.extent) at

-- what other ranges hold by a list
abbrev pub others_of : ℕ → List RangeExtent → List RangeExtent
others_of v hs = filter (λ h. not (nat_eq h.range v)) hs

-- what a range holds by it, in order
abbrev pub own_of : ℕ → List RangeExtent → List Extent
own_of v [] = []
own_of v (h ∷ hs) = cond (nat_eq h.range v) (h.extent ∷ own_of v hs) (own_of v hs)

-- how many of the extents begin so
abbrev pub starting : Option ℕ → List Extent → ℕ
starting start [] = 0
starting start (e ∷ es) = cond (begins_with start e) (suc (starting start es)) (starting start es)

-- such a stretch is the last one of so many, or isn't there; where the search is over, stretches begin before all such
abbrev pub IsSought : Numbers → List RangeExtent → ℕ → Option ℕ → SearchResult → Type 0
IsSought slots hs v start (seeks.UpTo n) = (h : RangeExtent) × (0 < n) × (slice_get hs (n - 1) ≡ Some h) × (is_piece v start h ≡ true)
IsSought slots hs v start seeks.Nowhere = (list_any (is_piece v start) hs ≡ false) × (list_any (begins_before slots (low_rank slots start)) hs ≡ true)
IsSought slots hs v start seeks.Open = list_any (is_piece v start) hs ≡ false

-- the place is behind such a stretch
pub record IsFound (l : HeldList) (v : ℕ) (start : Option ℕ) (gap : ListPosition) : Type 0 where
  pub held : RangeExtent
  pub some : 0 < gap.count
  pub there : slice_get (part_in (parts_of l) gap.part) (gap.count - 1) ≡ Some held
  pub is : is_piece v start held ≡ true

-- the stretch is taken out of a list
pub record IsCut (h : RangeExtent) (hs ns : List RangeExtent) : Type 0 where
  pub front : List RangeExtent
  pub rest : List RangeExtent
  pub was : hs ≡ front ++ h ∷ rest
  pub is : ns ≡ front ++ rest

-- the stretch is put into a list, behind those
pub record IsInserted (front : List RangeExtent) (h : RangeExtent) (hs ns : List RangeExtent) : Type 0 where
  pub rest : List RangeExtent
  pub was : hs ≡ front ++ rest
  pub is : ns ≡ front ++ h ∷ rest
