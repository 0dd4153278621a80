-- The residual arcs that leave each node.
use Rattle.std.specs.Prelude.{◌≡◌, ℕ, ◌+◌, ◌<◌, ◌≤◌, false, List, length, slice_index, slice_index_or}
use Rattle.cut_place.specs.declared.links.Link.{Link}

-- each link is 0 or a place, and each next link is lower
pub record HasLists (first next : List ℕ) : Type 0 where
  pub starts : (v : ℕ) → v < length first → slice_index first v ≤ length next
  pub falls : (k : ℕ) → k < length next → slice_index next k ≤ k

abbrev pub no_link : Link
no_link = record { to = 0; step = record { arc = 0; along = false } }

abbrev pub link_at : List Link → ℕ → Link
link_at links k = slice_index_or links k no_link

-- each link is of an arc, and leads to a node
abbrev pub AreLinks : (nodes arcs : ℕ) → List Link → Type 0
AreLinks nodes arcs links = (k : ℕ) → k < length links → ((link_at links k).to < nodes) × ((link_at links k).step.arc < arcs)

-- the links of each node begin and end at places among all
pub record HasLinks (nodes arcs : ℕ) (starts : List ℕ) (all : List Link) : Type 0 where
  pub each : length starts ≡ nodes + 1
  pub places : (v : ℕ) → v < length starts → slice_index starts v ≤ length all
  pub links : AreLinks nodes arcs all

-- where a walk stands that looks for augmenting paths: steps and nodes are in range
pub record IsWalk (nodes : ℕ) (current : List ℕ) (steps : ℕ) (stack : List ℕ) (at : ℕ) : Type 0 where
  pub each : length current ≡ nodes + 1
  pub same : steps ≡ nodes
  pub stacked : (k : ℕ) → k < length stack → slice_index stack k < nodes
  pub at_node : at < nodes
