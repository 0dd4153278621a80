-- Borders by their numbers, and which of them stands for which, where each names another one of its bundle or itself.
use Rattle.std.specs.Prelude.{◌≡◌, ◌<◌, ◌≤◌, ℕ, zero, suc, ◌+◌, ◌*◌, Bool, true, false, nat_eq, Decides, List, length, Option, None, Some, option_map, slice_get, slice_index_or}
use Rattle.std.specs.List.{list_all}
use Rattle.mir_func.specs.declared.func.Block.{Block}
use Rattle.mir_meaning.specs.Paths.{has}
use Rattle.live_lanes.specs.Ordered.{place_of}
use Rattle.live_lanes.specs.Flowing.{exits_at}
use Rattle.split_choose.specs.Offers.{Border, In, Out}

-- the number of the start of the block at a position, and of its end
abbrev pub start_of : ℕ → ℕ
start_of k = 2 * k

abbrev pub end_of : ℕ → ℕ
end_of k = 2 * k + 1

-- Each end is linked to the starts of the blocks that follow, and so on along all ways.
pub data Linked (next : ℕ → List ℕ) : ℕ × ℕ → Type 0 where
  itself : {x : ℕ} → Linked next (x, x)
  edge : (k n : ℕ) → has n (next k) ≡ true → Linked next (end_of k, start_of n)
  back : {x y : ℕ} → Linked next (x, y) → Linked next (y, x)
  onward : {x y z : ℕ} → Linked next (x, y) → Linked next (y, z) → Linked next (x, z)

-- the border that another names, or itself
abbrev pub parent_of : List ℕ → ℕ → ℕ
parent_of ps x = slice_index_or ps x x

-- the border to which so many steps along these lead
abbrev pub above : List ℕ → ℕ → ℕ → ℕ
above ps zero x = x
above ps (suc n) x = above ps n (parent_of ps x)

-- the border that stands for the bundle of another
abbrev pub root_of : List ℕ → ℕ → ℕ
root_of ps x = above ps (length ps) x

-- borders name earlier ones, or themselves
abbrev pub AreEarlier : List ℕ → Type 0
AreEarlier ps = (x : ℕ) → parent_of ps x ≤ x

-- the borders of so many blocks name earlier ones, to which they are linked
pub record IsForest (next : ℕ → List ℕ) (count : ℕ) (ps : List ℕ) : Type 0 where
  pub size : length ps ≡ 2 * count
  pub earlier : AreEarlier ps
  pub sound : (x : ℕ) → Linked next (x, parent_of ps x)

-- the blocks that follow the one at a position are among so many
abbrev pub LeadsWithin : ℕ → List ℕ → Type 0
LeadsWithin count ns = (n : ℕ) → has n ns ≡ true → n < count

-- the end of the block at position k is in one bundle with the starts of these
abbrev pub AreJoined : List ℕ → ℕ → List ℕ → Type 0
AreJoined ps k ns = (n : ℕ) → has n ns ≡ true → root_of ps (end_of k) ≡ root_of ps (start_of n)

-- borders that one border stands for stay together
abbrev pub StayJoined : List ℕ → List ℕ → Type 0
StayJoined old new = (x y : ℕ) → root_of old x ≡ root_of old y → root_of new x ≡ root_of new y

-- the same border stands for each as before
abbrev pub SameRoots : List ℕ → List ℕ → Type 0
SameRoots old new = (x : ℕ) → root_of new x ≡ root_of old x

-- so many blocks, and those that follow them are among them
pub record IsClosed (next : ℕ → List ℕ) (count : ℕ) : Type 0 where
  pub few : count < 2147483648
  pub within : (k : ℕ) → k < count → LeadsWithin count (next k)
  pub ends : (k : ℕ) → count ≤ k → LeadsWithin 0 (next k)

-- the end of the block at position k is joined with these, and what was joined stays so
pub record Joins (next : ℕ → List ℕ) (count : ℕ) (old new : List ℕ) (k : ℕ) (ns : List ℕ) : Type 0 where
  pub forest : IsForest next count new
  pub stay : StayJoined old new
  pub joined : AreJoined new k ns

-- two borders are linked just where the same border stands for both
abbrev pub AreBundles : (ℕ → List ℕ) → List ℕ → Type 0
AreBundles next ps = (x y : ℕ) → Decides (nat_eq (root_of ps x) (root_of ps y)) (Linked next (x, y))

-- the number of a border, if there is such a block
abbrev pub border_place : List Block → Border → Option ℕ
border_place bs (In n) = option_map start_of (place_of n bs)
border_place bs (Out n) = option_map end_of (place_of n bs)

abbrev pub same_border : Border → Border → Bool
same_border (In n) (In m) = nat_eq n m
same_border (Out n) (Out m) = nat_eq n m
same_border _ _ = false

abbrev pub same_root : List ℕ → ℕ → Option ℕ → Bool
same_root ps i None = false
same_root ps i (Some j) = nat_eq (root_of ps i) (root_of ps j)

-- one border stands for both, or they are the same border of no block
abbrev pub are_joined : List Block → List ℕ → Border × Border → Bool
are_joined bs ps (x, y) = elim (border_place bs x) [ None ↦ same_border x y | Some i ↦ same_root ps i (border_place bs y) ]

-- no two of the blocks have one number
abbrev pub ArePlaced : List Block → Type 0
ArePlaced bs = (k : ℕ) (b : Block) → slice_get bs k ≡ Some b → place_of b.number bs ≡ Some k

abbrev pub is_found : Option ℕ → Bool
is_found None = false
is_found (Some k) = true

-- each edge leads to one of the blocks
abbrev pub are_led : List Block → Bool
are_led bs = list_all (λ b. list_all (λ e. is_found (place_of e.block bs)) b.successors) bs

-- the ways between positions are those of the blocks
abbrev pub AreFollowed : (ℕ → List ℕ) → List Block → Type 0
AreFollowed next bs = (k n : ℕ) → has n (next k) ≡ has n (exits_at (λ m. place_of m bs) bs k)
