-- The code of a function, of whose instructions it is known what they do to lanes.
use Rattle.std.specs.Prelude.{◌≡◌, ◌<◌, ℕ, suc, cond, nat_eq, List, [], ◌∷◌, map, flat_map, length, Option, None, Some, slice_get}
use Rattle.target_base.specs.declared.types.Target.{Target}
use Rattle.mir_func.specs.declared.func.Block.{Block}
use Rattle.mir_func.specs.declared.func.Instr.{Instr}
use Rattle.mir_func.specs.Binding.{does, is_terminator}
use Rattle.live_lanes.specs.declared.compute.flow.BlockFlow.{BlockFlow}
use Rattle.live_lanes.specs.declared.row.LaneRange.{LaneRange}
use Rattle.mir_meaning.specs.Paths.{Body, Code}
use Rattle.live_lanes.specs.Table.{Numbers, unseen}
use Rattle.live_lanes.specs.Entered.{rows_seen}
use Rattle.live_lanes.specs.Entering.{EnteredStep, blocks_entered}
use Rattle.live_lanes.specs.Ordered.{ids_of, all_ids, AreSingle, AreRising}
use Rattle.live_lanes.specs.Flowing.{edge_places, AreWays}

-- what each instruction does
abbrev pub Doing : Type 0
Doing = Instr → EnteredStep

abbrev pub entries : Doing → List Block → List (List EnteredStep)
entries doing bs = map (λ b. map doing b.instrs) bs

-- the lanes that are read at the end of the block at a position
abbrev pub lanes_at : (ℕ → Option ℕ) → ℕ → ℕ × List ℕ → List ℕ
lanes_at place b r = elim (place r.0) [ None ↦ [] | Some p ↦ cond (nat_eq p b) r.1 [] ]

abbrev pub last_at : (ℕ → Option ℕ) → List (List EnteredStep) → ℕ → List ℕ
last_at place ess b = flat_map (flat_map (λ e. flat_map (lanes_at place b) e.1)) ess

abbrev pub body_at : Doing → (ℕ → Option ℕ) → List Block → ℕ → Block → Body
body_at doing place all n b = record { steps = map (λ i. (doing i).0) b.instrs; last = last_at place (entries doing all) n; exits = edge_places place b.successors }

-- the blocks from a position on
abbrev pub bodies_from : Doing → (ℕ → Option ℕ) → List Block → ℕ → List Block → Code
bodies_from doing place all n [] = []
bodies_from doing place all n (b ∷ bs) = body_at doing place all n b ∷ bodies_from doing place all (suc n) bs

abbrev pub code_of : Doing → (ℕ → Option ℕ) → List Block → Code
code_of doing place bs = bodies_from doing place bs 0 bs

-- rows into which the instructions of these blocks are entered, with the order and the ways of the blocks
pub record IsMade (t : Target) (doing : Doing) (place : ℕ → Option ℕ) (bs : List Block) (slots : Numbers) (flow : List BlockFlow) (rows : List LaneRange) : Type 0 where
  pub named : (i : Instr) → (doing i).0.id ≡ i.id
  pub leaving : (i : Instr) → (doing i).0.leaves ≡ does is_terminator t i
  pub within : (n p : ℕ) → place n ≡ Some p → p < length bs
  pub single : AreSingle (all_ids bs)
  pub rising : (k : ℕ) (b : Block) → slice_get bs k ≡ Some b → AreRising slots 0 (ids_of b.instrs)
  pub ways : AreWays t place bs flow
  pub seen : (l b : ℕ) → rows_seen rows l b ≡ blocks_entered place 0 (entries doing bs) l b unseen
