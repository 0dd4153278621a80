-- The net of a range and a register, over the blocks of the range: which nodes and which arcs it has.
use Rattle.std.specs.Prelude.{◌≡◌, ◌<◌, ℕ, zero, suc, ◌+◌, ◌-◌, Bool, true, false, cond, not, ◌&&◌, nat_eq, nat_lt, nat_le, List, [], ◌∷◌, ◌++◌, flat_map, length, Option, Some, None, slice_index_or, count_by}
use Rattle.std.specs.List.{list_any, list_all, sum_by}
use Rattle.cut_place.specs.declared.net.Arc.{Arc}
use Rattle.cut_place.specs.declared.net.Net.{Net}
use Rattle.split_choose.specs.declared.spans.Span.{Span}
use Rattle.split_choose.specs.declared.nets.BlockNodes.{BlockNodes}
use Rattle.split_choose.specs.Bundles.{start_of, end_of, root_of}
use Rattle.split_choose.specs.Regions.{is_bordered, is_out, bars}

-- for each flag so many, and one more for each that is set before it
abbrev pub ranks : ℕ → List Bool → List ℕ
ranks n [] = []
ranks n (b ∷ bs) = n ∷ ranks (cond b (n + 1) n) bs

-- how many are set
abbrev pub set_count : List Bool → ℕ
set_count bs = count_by (λ b. b) bs

-- the flags at the borders that stand for bundles tell which of these so many are such
pub record AreFlags (count : ℕ) (test : ℕ → Bool) (flags : List Bool) : Type 0 where
  pub size : length flags ≡ count
  pub told : (root : ℕ) → root < count → slice_index_or flags root false ≡ test root

-- the range is live at a border of the bundle for which a border stands
abbrev pub is_named : List ℕ → List Span → ℕ → Bool
is_named parents spans root = list_any (is_bordered parents root) spans

-- and the bundle isn't out: it has a node of its own
abbrev pub is_free : List ℕ → (Span → Bool) → List Span → ℕ → Bool
is_free parents clear spans root = is_named parents spans root && not (list_any (bars parents clear root) spans)

-- how many numbers below one pass a test
abbrev pub count_below : (ℕ → Bool) → ℕ → ℕ
count_below test zero = 0
count_below test (suc n) = count_below test n + cond (test n) 1 0

-- The node of the bundle of a border. Those that must be out are node 1; from node 2 on stand the others, by their first borders.
abbrev pub node_of : List ℕ → (Span → Bool) → List Span → ℕ → ℕ
node_of parents clear spans border =
    cond (is_out parents clear spans border) 1 (2 + count_below (is_free parents clear spans) (root_of parents border))

-- the block is clear and holds a point of the range
abbrev pub has_inside : (Span → Bool) → Span → Bool
has_inside clear s = clear s && not (nat_eq (length s.stretches.items) 0)

abbrev pub node_if : Bool → ℕ → Option ℕ
node_if b node = cond b (Some node) None

-- what a block has in the net, where the node of its inside would be this
abbrev pub row_of : (ℕ → ℕ) → Bool → ℕ → Span → BlockNodes
row_of node has next s = record {
  position = s.position;
  entry = node_if s.is_live_in (node (start_of s.position));
  exit = node_if s.is_live_out (node (end_of s.position));
  inside = node_if has next;
  frequency = s.frequency;
  uses = s.uses;
  end_uses = s.end_uses;
}

-- what the blocks have: behind the bundles stand the insides, in layout
abbrev pub rows_from : (ℕ → ℕ) → (Span → Bool) → ℕ → List Span → List BlockNodes
rows_from node has next [] = []
rows_from node has next (s ∷ ss) = row_of node (has s) next s ∷ rows_from node has (cond (has s) (next + 1) next) ss

-- how many insides there are
abbrev pub inside_count : List BlockNodes → ℕ
inside_count rows = count_by (λ r. elim r.inside [ None ↦ false | Some n ↦ true ]) rows

-- an arc to a node, where there is one
abbrev pub arc_to : ℕ → Option ℕ → ℕ → List Arc
arc_to from None cap = []
arc_to from (Some to) cap = record { from = from; to = to; cap = cap } ∷ []

-- the arcs between an inside and the bundle of a border: to the inside, and back
abbrev pub arcs_between : Option ℕ → ℕ → ℕ → List Arc
arcs_between None inside cap = []
arcs_between (Some border) inside cap = record { from = border; to = inside; cap = cap } ∷ record { from = inside; to = border; cap = cap } ∷ []

-- what a block costs where its inside is out: without the terminators, where the range is live at its exit
abbrev pub inside_uses : BlockNodes → ℕ
inside_uses r = elim r.exit [ None ↦ r.uses | Some n ↦ r.uses - r.end_uses ]

-- the arcs of a block: those of its entry and its exit, that to its inside, and that to its exit
abbrev pub row_arcs : BlockNodes → List Arc
row_arcs r = elim r.inside [
  | None ↦ []
  | Some n ↦ arcs_between r.entry n r.frequency ++ arcs_between r.exit n r.frequency ++ arc_to 0 (Some n) (inside_uses r) ++ arc_to 0 r.exit r.end_uses
]

abbrev pub arcs_of : List BlockNodes → List Arc
arcs_of rows = flat_map row_arcs rows

-- what a block without an inside costs
abbrev pub row_base : BlockNodes → ℕ
row_base r = elim r.inside [ None ↦ r.uses | Some n ↦ 0 ]

abbrev pub base_of : List BlockNodes → ℕ
base_of rows = sum_by row_base rows

-- an arc between so many nodes that carries at most 2 ^ 112
abbrev pub is_small_arc : ℕ → Arc → Bool
is_small_arc nodes a = nat_lt a.from nodes && (nat_lt a.to nodes && nat_le a.cap 5192296858534827628530496329220096)

-- the net is small enough for its least cut to be asked for
abbrev pub is_small : Net → Bool
is_small net = nat_le 2 net.nodes && (nat_le net.nodes 4096 && (nat_le (length net.arcs) 16384 && list_all (is_small_arc net.nodes) net.arcs))
