-- Region placement at least cost: which edge bundles and which insides of blocks a region may be in, what that costs, and the net whose cuts are these choices.
use Rattle.std.specs.Prelude.{◌≡◌, ◌⊎◌, ◌<◌, ◌≤◌, ℕ, Bool, true, false, cond, not, ◌&&◌, ◌+◌, ◌*◌, nat_eq, List, [], ◌∷◌, ◌++◌, filter, flat_map, length, zip, Option, Some, None}
use Rattle.std.specs.List.{list_any, sum_by}
use Rattle.target_base.specs.declared.types.Reg.{Reg}
use Rattle.target_base.specs.declared.types.Target.{Target}
use Rattle.mir_func.specs.declared.func.Block.{Block}
use Rattle.mir_func.specs.Value.{Function}
use Rattle.mir_func.specs.Binding.{class_of, does, is_terminator}
use Rattle.mir_meaning.specs.Points.{block_points}
use Rattle.mir_meaning.specs.Places.{domain}
use Rattle.block_freq.specs.Weights.{use_sum}
use Rattle.live_lanes.specs.declared.ask.labels.Mark.{Mark}
use Rattle.cut_place.specs.declared.net.Arc.{Arc}
use Rattle.cut_place.specs.declared.net.Net.{Net}
use Rattle.cut_place.specs.Flows.{in_set}
use Rattle.split_choose.specs.declared.cuts.Region.{Region}
use Rattle.split_choose.specs.Offers.{Border, In, Out, View, first_id, at_start, at_gap, terminators, before_terminators, live_at, borders, is_clear, is_in, operands_in, is_dividable}
use Rattle.split_choose.specs.Placings.{IsLeastCut}

-- a node: an edge bundle, by a border of it, or the inside of a block, by its number
pub data Node : Type 0 where
  Bundle : Border → Node
  Inner : ℕ → Node

-- which nodes are in the register
abbrev pub Choice : Type 0
Choice = Node → Bool

-- at which place the first stands that passes a test
abbrev pub place_by : {X : Type 0} → (X → Bool) → List X → ℕ
place_by test [] = 0
place_by test (x ∷ xs) = cond (test x) 0 (1 + place_by test xs)

-- the gaps are the same
abbrev pub same_gap : Option ℕ → Option ℕ → Bool
same_gap None None = true
same_gap (Some a) (Some b) = nat_eq a b
same_gap _ _ = false

-- the label of what is in the register, and of what isn't
abbrev pub label_of : Bool → ℕ
label_of is_in = cond is_in 1 0

-- from a gap on another label holds than before
abbrev pub change_at : ℕ → Option ℕ → (old new : Bool) → List Mark
change_at n before old new = cond (cond old new (not new)) [] (at_gap n before (label_of new) ∷ [])

module _ (t : Target) (f : Function) (v : ℕ) (view : View) (p : Reg) where
  -- the block is clear and holds a point of the range: it has an inside
  abbrev pub has_inside : Block → Bool
  has_inside b = is_clear t f v view p b && list_any view.is_point (block_points b)

  -- the range is live at the block's entry, and at its exit
  abbrev pub enters : Block → Bool
  enters b = live_at t f v view (In b.number)

  abbrev pub leaves : Block → Bool
  leaves b = live_at t f v view (Out b.number)

  -- Borders of one bundle are in together. A bundle is out where some block isn't clear that has a border of it at which the range is live.
  pub record IsChoice (choice : Choice) : Type 0 where
    pub together : (x y : Border) → view.one_bundle (x, y) ≡ true → choice (Bundle x) ≡ choice (Bundle y)
    pub out : (x : Border) → is_in t f v view p x ≡ false → choice (Bundle x) ≡ false

  -- Each time that a block with an inside is entered, it costs: 1. a copy for each border at which the range is live and whose bundle and the inside differ,
  abbrev pub copies_at : Choice → Block → Border → ℕ
  copies_at choice b x =
      cond (live_at t f v view x) (cond (choice (Bundle x)) (cond (choice (Inner b.number)) 0 1) (cond (choice (Inner b.number)) 1 0)) 0

  -- 2. where the inside is out, the operands that name the range, without those of terminators where the range is live at the exit,
  abbrev pub inside_operands : Block → ℕ
  inside_operands b = cond (leaves b) (operands_in t f v view (filter (λ i. not (does is_terminator t i)) b.instrs)) (operands_in t f v view b.instrs)

  -- 3. and those of the terminators, where it is live at the exit and the exit's bundle is out. 4. A block without an inside costs all its operands.
  abbrev pub block_cost : Choice → Block → ℕ
  block_cost choice b =
      cond (has_inside b)
      (copies_at choice b (In b.number) + copies_at choice b (Out b.number) + cond (choice (Inner b.number)) 0 (inside_operands b)
      + cond (leaves b) (cond (choice (Bundle (Out b.number))) 0 (operands_in t f v view (terminators t f v view b))) 0)
      (operands_in t f v view b.instrs)

  -- what a choice costs
  abbrev pub cost_of : List ℕ → Choice → ℕ
  cost_of freqs choice = sum_by (λ b. b.0 * block_cost choice b.1) (zip freqs f.blocks)

  -- the base, which is the same for every choice: what the blocks without an inside cost
  abbrev pub base_cost : List ℕ → ℕ
  base_cost freqs = sum_by (λ b. cond (has_inside b.1) 0 (b.0 * operands_in t f v view b.1.instrs)) (zip freqs f.blocks)

  -- the nodes: the bundles at one of whose borders the range is live, and the insides
  abbrev pub is_node : Node → Bool
  is_node (Bundle x) = list_any (λ y. view.one_bundle (x, y) && live_at t f v view y) (borders t f v view)
  is_node (Inner n) = list_any (λ b. nat_eq b.number n && has_inside b) f.blocks

  -- the first border of each bundle, in layout, an entry before an exit
  abbrev pub first_borders : List Border → List Border
  first_borders [] = []
  first_borders (x ∷ xs) = x ∷ filter (λ y. not (view.one_bundle (x, y))) (first_borders xs)

  -- those of the bundles that have a node of their own: the range is live at a border of each, and it needn't be out
  abbrev pub bundle_nodes : List Border
  bundle_nodes = filter (λ x. is_in t f v view p x && is_node (Bundle x)) (first_borders (borders t f v view))

  abbrev pub inside_nodes : List Block
  inside_nodes = filter has_inside f.blocks

  -- Node 0 is for what is in, and node 1 for what is out: each bundle that must be out is that one. From node 2 on stand the others by their first borders, then the insides in layout.
  abbrev pub number_of : Node → ℕ
  number_of (Bundle x) = cond (is_in t f v view p x) (2 + place_by (λ y. view.one_bundle (x, y)) bundle_nodes) 1
  number_of (Inner n) = 2 + length bundle_nodes + place_by (λ b. nat_eq b.number n) inside_nodes

  abbrev pub arc : ℕ → Node → ℕ → Arc
  arc from to cost = record { from = from; to = number_of to; cap = cost }

  -- part 1 of a border: to the inside, and back
  abbrev pub border_arcs : Block → Border → ℕ → List Arc
  border_arcs b x cost =
      cond (live_at t f v view x) (arc (number_of (Bundle x)) (Inner b.number) cost ∷ arc (number_of (Inner b.number)) (Bundle x) cost ∷ []) []

  -- of a block with an inside: part 1 of its entry and of its exit, part 2, and part 3
  abbrev pub block_arcs : ℕ × Block → List Arc
  block_arcs b =
      cond (has_inside b.1)
      (border_arcs b.1 (In b.1.number) b.0 ++ border_arcs b.1 (Out b.1.number) b.0 ++ arc 0 (Inner b.1.number) (b.0 * inside_operands b.1) ∷ []
      ++ cond (leaves b.1) (arc 0 (Bundle (Out b.1.number)) (b.0 * operands_in t f v view (terminators t f v view b.1)) ∷ []) [])
      []

  abbrev pub net_of : List ℕ → Net
  net_of freqs = record { nodes = 2 + length bundle_nodes + length inside_nodes; arcs = flat_map block_arcs (zip freqs f.blocks) }

  -- An inside's label holds from the block's first gap, or from its start where the range isn't live there, to before its first terminator, or to its end where the range isn't live there.
  abbrev pub in_inside : Choice → Block → Bool
  in_inside choice b = has_inside b && choice (Inner b.number)

  abbrev pub in_start : Choice → Block → Bool
  in_start choice b = cond (enters b) (choice (Bundle (In b.number))) (in_inside choice b)

  abbrev pub in_end : Choice → Block → Bool
  in_end choice b = cond (leaves b) (choice (Bundle (Out b.number))) (in_inside choice b)

  -- it has no extent where it begins at the gap before which it ends
  abbrev pub from_first_gap : Choice → Block → Bool
  from_first_gap choice b = cond (leaves b && same_gap (first_id b.instrs) (before_terminators t f v view b)) (in_start choice b) (in_inside choice b)

  -- the labels: 1 where a node is in
  abbrev pub choice_marks : Choice → Block → List Mark
  choice_marks choice b =
      cond (in_start choice b) (at_start b.number 1 ∷ []) []
      ++ change_at b.number (first_id b.instrs) (in_start choice b) (from_first_gap choice b)
      ++ change_at b.number (before_terminators t f v view b) (from_first_gap choice b) (in_end choice b)

  -- each choice for the register costs at least so much
  abbrev pub CostsAtLeast : List ℕ → ℕ → Type 0
  CostsAtLeast freqs bound = (choice : Choice) → IsChoice choice → bound ≤ cost_of freqs choice

  -- the nodes that are in by the cut of a region
  abbrev pub choice_of : Region → Choice
  choice_of region node = in_set region.cut.inside (number_of node)

  -- A region of the register: its cut is a least one of the net, shown so by a flow of its cost. Its nodes are a choice of that cost and the base, no choice
  -- costs less, what is in it is in each choice of that cost, and its labels are those of these nodes.
  pub record IsRegion (freqs : List ℕ) (region : Region) : Type 0 where
    pub register : region.reg ≡ p
    pub cut : IsLeastCut (net_of freqs) region.cut
    pub base : region.base ≡ base_cost freqs
    pub choice : IsChoice (choice_of region)
    pub cost : cost_of freqs (choice_of region) ≡ region.base + region.cut.cost
    pub least : CostsAtLeast freqs (region.base + region.cut.cost)
    pub smallest : (other : Choice) → IsChoice other → cost_of freqs other ≡ region.base + region.cut.cost → (node : Node) → is_node node ≡ true → choice_of region node ≡ true → other node ≡ true
    pub labels : region.labels ≡ flat_map (choice_marks (choice_of region)) f.blocks

module _ (t : Target) (f : Function) (v : ℕ) (view : View) (freqs : List ℕ) where
  -- all these registers' choices do
  abbrev pub AllCost : ℕ → List Reg → Type 0
  AllCost bound [] = Unit {0}
  AllCost bound (p ∷ ps) = CostsAtLeast t f v view p freqs bound × AllCost bound ps

  -- The region is of the first of these registers whose least choice costs least, and costs less than the range does.
  pub record IsBest (ps : List Reg) (region : Region) : Type 0 where
    pub earlier : List Reg
    pub later : List Reg
    pub split : ps ≡ earlier ++ region.reg ∷ later
    pub is : IsRegion t f v view region.reg freqs region
    pub before : AllCost (region.base + region.cut.cost + 1) earlier
    pub behind : AllCost (region.base + region.cut.cost) later
    pub cheaper : region.base + region.cut.cost < use_sum f.blocks freqs v

  -- the region at least cost that is offered, or that none is
  abbrev pub IsCutOffer : Option Region → Type 0
  IsCutOffer None = (is_dividable t f v view ≡ false) ⊎ AllCost (use_sum f.blocks freqs v) (domain t (class_of f v))
  IsCutOffer (Some region) = (is_dividable t f v view ≡ true) × IsBest (domain t (class_of f v)) region
