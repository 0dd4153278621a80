-- The net of a register, as it is built, and its least cut.
use Rattle.std.specs.Prelude.{◌≡◌, ◌≤◌, ℕ, ◌+◌, Bool, true, cond, ◌&&◌, nat_le, List, length, Option, Some, None}
use Rattle.std.specs.List.{list_all, sum_by}
use Rattle.cut_place.specs.declared.net.Net.{Net}
use Rattle.cut_place.specs.declared.net.Cut.{Cut}
use Rattle.cut_place.specs.Flows.{IsWithin, IsConserved, HasValue, IsCut, in_set, capacity_leaving}
use Rattle.split_choose.specs.declared.spans.Span.{Span}
use Rattle.split_choose.specs.declared.nets.BlockNodes.{BlockNodes}
use Rattle.split_choose.specs.declared.nets.RegionNet.{RegionNet}
use Rattle.split_choose.specs.Regions.{capped, ArePositions}
use Rattle.split_choose.specs.Nets.{count_below, is_free, node_of, has_inside, rows_from, inside_count, arcs_of, base_of, inside_uses}

-- what the blocks have in the net of a register, whose clear blocks a test tells: behind the bundles of so many borders stand the insides
abbrev pub net_rows : List ℕ → (Span → Bool) → List Span → ℕ → List BlockNodes
net_rows parents clear spans count = rows_from (node_of parents clear spans) (has_inside clear) (2 + count_below (is_free parents clear spans) count) spans

-- how many nodes there are
abbrev pub node_count : List ℕ → (Span → Bool) → List Span → ℕ → ℕ
node_count parents clear spans count = 2 + count_below (is_free parents clear spans) count + inside_count (net_rows parents clear spans count)

-- this is that net
pub record IsPlacing (parents : List ℕ) (clear : Span → Bool) (spans : List Span) (count : ℕ) (made : RegionNet) : Type 0 where
  pub rows : made.rows.items ≡ net_rows parents clear spans count
  pub nodes : made.net.nodes ≡ node_count parents clear spans count
  pub arcs : made.net.arcs ≡ arcs_of (net_rows parents clear spans count)
  pub base : made.base ≡ capped (base_of (net_rows parents clear spans count))

-- few enough blocks for all nodes to have numbers
pub record AreFew (blocks : ℕ) (spans : List Span) : Type 0 where
  pub few : blocks ≤ 1024
  pub fewer : length spans ≤ 1024
  pub positions : ArePositions blocks spans

-- in each block frequency and uses are at most 2 ^ 112
abbrev pub is_cheap : Span → Bool
is_cheap s = nat_le s.frequency 5192296858534827628530496329220096 && (nat_le s.uses 5192296858534827628530496329220096 && nat_le s.end_uses 5192296858534827628530496329220096)

abbrev pub AreCheap : List Span → Type 0
AreCheap spans = list_all is_cheap spans ≡ true

-- the cut is a least one, shown so by a flow of its cost, and its inside is contained in that of each other least one
pub record IsLeastCut (net : Net) (cut : Cut) : Type 0 where
  pub within : IsWithin net.arcs cut.flow
  pub conserved : IsConserved net.arcs cut.flow
  pub value : HasValue net.arcs cut.flow cut.cost
  pub sides : length cut.inside ≡ net.nodes
  pub parts : IsCut (in_set cut.inside)
  pub cost : cut.cost ≡ capacity_leaving (in_set cut.inside) net.arcs
  pub least : (nodes : ℕ → Bool) → IsCut nodes → cut.cost ≤ capacity_leaving nodes net.arcs
  pub smallest : (nodes : ℕ → Bool) → IsCut nodes → capacity_leaving nodes net.arcs ≡ cut.cost → (v : ℕ) → in_set cut.inside v ≡ true → nodes v ≡ true

-- what a choice of nodes costs. A copy where a border's bundle and the inside differ:
abbrev pub copy_cost : (ℕ → Bool) → Option ℕ → ℕ → ℕ → ℕ
copy_cost c None inside cost = 0
copy_cost c (Some border) inside cost = cond (c border) (cond (c inside) 0 cost) (cond (c inside) cost 0)

-- the instructions of an inside that is out, and the terminators where the exit's bundle is out:
abbrev pub out_cost : (ℕ → Bool) → Option ℕ → ℕ → ℕ
out_cost c None cost = 0
out_cost c (Some node) cost = cond (c node) 0 cost

-- and all instructions of a block without an inside
abbrev pub row_cost : (ℕ → Bool) → BlockNodes → ℕ
row_cost c r = elim r.inside [
  | None ↦ r.uses
  | Some n ↦ copy_cost c r.entry n r.frequency + copy_cost c r.exit n r.frequency + out_cost c (Some n) (inside_uses r) + out_cost c r.exit r.end_uses
]

abbrev pub choice_cost : (ℕ → Bool) → List BlockNodes → ℕ
choice_cost c rows = sum_by (row_cost c) rows
