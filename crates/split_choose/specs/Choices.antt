-- Which choice of nodes is taken for a range over its blocks, and in which register.
use Rattle.std.specs.Prelude.{◌≡◌, ◌<◌, ◌≤◌, ℕ, ◌+◌, ◌*◌, Bool, List, [], ◌∷◌, ◌++◌, length, Option, Some, None}
use Rattle.target_base.specs.declared.types.Reg.{Reg}
use Rattle.interference.specs.declared.matrix.Matrix.{Matrix}
use Rattle.cut_place.specs.declared.net.Net.{Net}
use Rattle.cut_place.specs.Flows.{IsCut, in_set}
use Rattle.split_choose.specs.declared.spans.Span.{Span}
use Rattle.split_choose.specs.declared.nets.BlockNodes.{BlockNodes}
use Rattle.split_choose.specs.declared.cuts.RegionCut.{RegionCut}
use Rattle.split_choose.specs.Spans.{is_clear_in}
use Rattle.split_choose.specs.Nets.{arcs_of}
use Rattle.split_choose.specs.Parts.{IsReady}
use Rattle.split_choose.specs.Placings.{net_rows, node_count, AreFew, AreCheap, IsPlacing, IsLeastCut, choice_cost}

module _ (m : Matrix) (v : ℕ) (parents : List ℕ) (spans : List Span) where
  -- what the blocks have in the net of a register
  abbrev pub register_rows : Reg → List BlockNodes
  register_rows r = net_rows parents (is_clear_in m v r) spans (2 * length m.live.func.blocks)

  -- its net
  abbrev pub register_net : Reg → Net
  register_net r = record { nodes = node_count parents (is_clear_in m v r) spans (2 * length m.live.func.blocks); arcs = arcs_of (register_rows r) }

  -- each choice of nodes for the register costs at least so much
  abbrev pub CostsAtLeast : ℕ → Reg → Type 0
  CostsAtLeast bound r = (nodes : ℕ → Bool) → IsCut nodes → bound ≤ choice_cost nodes (register_rows r)

  -- the choice for a register is a least cut of its net, and costs what its nodes do
  pub record IsChosen (r : Reg) (choice : RegionCut) : Type 0 where
    pub register : choice.register ≡ r
    pub placing : IsPlacing parents (is_clear_in m v r) spans (2 * length m.live.func.blocks) choice.placing
    pub least : IsLeastCut choice.placing.net choice.cut
    pub cost : choice.cost ≡ choice_cost (in_set choice.cut.inside) (register_rows r)
    pub fewest : CostsAtLeast choice.cost r

  -- the choice for a register costs less than so much; none where each costs as much
  abbrev pub IsChosenBelow : ℕ → Reg → Option RegionCut → Type 0
  IsChosenBelow bound r None = CostsAtLeast bound r
  IsChosenBelow bound r (Some choice) = IsChosen r choice × (choice.cost < bound)

  -- all these registers' choices cost at least so much
  abbrev pub AllCost : ℕ → List Reg → Type 0
  AllCost bound [] = Unit {0}
  AllCost bound (r ∷ rs) = CostsAtLeast bound r × AllCost bound rs

  -- Of these registers the choice is for the first whose least choice costs least.
  pub record IsFirst (rs : List Reg) (choice : RegionCut) : Type 0 where
    pub earlier : List Reg
    pub later : List Reg
    pub split : rs ≡ earlier ++ choice.register ∷ later
    pub chosen : IsChosen choice.register choice
    pub before : AllCost (choice.cost + 1) earlier
    pub behind : AllCost choice.cost later

  -- It costs less than so much; none where each choice costs as much.
  abbrev pub IsBestBelow : ℕ → List Reg → Option RegionCut → Type 0
  IsBestBelow most rs None = AllCost most rs
  IsBestBelow most rs (Some choice) = IsFirst rs choice × (choice.cost < most)

  -- few blocks, in none of which much is used
  pub record IsWithin : Type 0 where
    pub ready : IsReady m parents spans
    pub few : AreFew (length m.live.func.blocks) spans
    pub cheap : AreCheap spans
