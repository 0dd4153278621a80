-- The ways of a function's blocks, by the positions of these.
use Rattle.std.specs.Prelude.{◌≡◌, ◌<◌, ℕ, cond, ◌&&◌, ◌||◌, nat_eq, List, [], ◌∷◌, ◌++◌, map, filter, filter_map, length, Option, None, Some, slice_get}
use Rattle.target_base.specs.declared.types.Target.{Target}
use Rattle.mir_func.specs.declared.func.Block.{Block}
use Rattle.mir_func.specs.declared.func.Edge.{Edge}
use Rattle.mir_func.specs.declared.func.Instr.{Instr}
use Rattle.mir_func.specs.Binding.{does, is_terminator}
use Rattle.live_lanes.specs.declared.compute.flow.BlockFlow.{BlockFlow}
use Rattle.mir_meaning.specs.Paths.{has}
use Rattle.live_lanes.specs.Ways.{predecessors, terminators, successors}

-- the ids of the terminators among instructions
abbrev pub terminator_ids : Target → List Instr → List ℕ
terminator_ids t is = map (λ i. i.id) (filter (does is_terminator t) is)

-- where edges lead, where the blocks of these numbers have these positions
abbrev pub edge_places : (ℕ → Option ℕ) → List Edge → List ℕ
edge_places place edges = filter_map (λ e. place e.block) edges

abbrev pub exits_at : (ℕ → Option ℕ) → List Block → ℕ → List ℕ
exits_at place bs b = elim (slice_get bs b) [ None ↦ [] | Some c ↦ edge_places place c.successors ]

abbrev pub terminators_at : Target → List Block → ℕ → List ℕ
terminators_at t bs b = elim (slice_get bs b) [ None ↦ [] | Some c ↦ terminator_ids t c.instrs ]

-- the ways out of these blocks alone
pub record AreOut (t : Target) (place : ℕ → Option ℕ) (bs : List Block) (flow : List BlockFlow) : Type 0 where
  pub predecessors : (b : ℕ) → predecessors flow b ≡ []
  pub successors : (b x : ℕ) → has x (successors flow b) ≡ has x (exits_at place bs b)
  pub terminators : (b : ℕ) → terminators flow b ≡ terminators_at t bs b
  pub blocks : length flow ≡ length bs

-- a block is noted as one before another
pub record Notes (old new : List BlockFlow) (next at : ℕ) : Type 0 where
  pub predecessors : (x : ℕ) → x < length old → predecessors new x ≡ cond (nat_eq next x) (predecessors old x ++ at ∷ []) (predecessors old x)
  pub successors : (b : ℕ) → successors new b ≡ successors old b
  pub terminators : (b : ℕ) → terminators new b ≡ terminators old b
  pub blocks : length new ≡ length old

-- a block is noted at each of these
pub record NotesAll (old new : List BlockFlow) (nexts : List ℕ) (at : ℕ) : Type 0 where
  pub predecessors : (x b : ℕ) → x < length old → has b (predecessors new x) ≡ has b (predecessors old x) || nat_eq at b && has x nexts
  pub successors : (b : ℕ) → successors new b ≡ successors old b
  pub terminators : (b : ℕ) → terminators new b ≡ terminators old b
  pub blocks : length new ≡ length old

-- the ways of these blocks, from both ends
pub record AreWays (t : Target) (place : ℕ → Option ℕ) (bs : List Block) (flow : List BlockFlow) : Type 0 where
  pub predecessors : (x b : ℕ) → x < length bs → has b (predecessors flow x) ≡ has x (exits_at place bs b)
  pub successors : (b x : ℕ) → has x (successors flow b) ≡ has x (exits_at place bs b)
  pub terminators : (b : ℕ) → terminators flow b ≡ terminators_at t bs b
  pub blocks : length flow ≡ length bs
