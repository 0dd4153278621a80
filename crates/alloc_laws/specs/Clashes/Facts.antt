-- What a matrix tells of clashes and of evictions is what the meaning of the function says.
use Rattle.std.specs.Prelude.{◌≡◌, Decides, ℕ, true, List, Option, None, Some, slice_get}
use Rattle.target_base.specs.declared.types.Reg.{Reg}
use Rattle.target_base.specs.Storage.{is_unreserved}
use Rattle.meaning.specs.Live.{Among as Member}
use Rattle.mir_func.specs.declared.func.Block.{Block}
use Rattle.mir_func.specs.declared.func.Instr.{Instr}
use Rattle.mir_meaning.specs.Points.{Tests}
use Rattle.mir_meaning.specs.Rules.{V8}
use Rattle.live_laws.specs.Effects.Coded.{KeepsRules}
use Rattle.live_lanes.specs.Doing.{IsComputed}
use Rattle.interference.specs.declared.matrix.Matrix.{Matrix}
use Rattle.interference.specs.Clashes.{register_in, is_fixed, is_in_way}
use Rattle.evictor.specs.declared.ranks.Ranks.{Ranks}
use Rattle.evictor.specs.Candidates.{candidates}
use Rattle.evictor.specs.Cheapest.{UnitInTheWay, InTheWay, AreFacts, IsCheapest, cheapest_of}
use Rattle.evictor.specs.Hints.{assignment_of}
use Rattle.evictor.specs.Settings.{ranking_of, facts_of, setting_of}
use Rattle.basic_alloc.specs.declared.choice.Choice.{Choice}
use Rattle.basic_alloc.specs.Basic.{choice_of, IsChoice}
use Rattle.basic_alloc.specs.Settings.{basic_setting}
use Rattle.alloc_laws.specs.Clashes.Holds.{Holds}

-- The matrix is exact: its table is computed, its function keeps the rules that liveness rests on, terminators stand last in their
-- blocks, and of each unit it lists what the assigned ranges hold.
pub record IsExact (m : Matrix) : Type 0 where
  pub computed : IsComputed m.live.target m.live.func m.live.table
  pub rules : KeepsRules m.live.target m.live.func
  pub last : (b : Block) (j : ℕ) (i : Instr) → Member b m.live.func.blocks → slice_get b.instrs j ≡ Some i → V8 m.live.target b j i ≡ true
  pub holds : Holds m

-- The matrix tells of a range and each register that it might have whether units that are live or written by themselves would be
-- in the way, if none of its units is reserved, and which assigned ranges would be.
pub record TellsClashes (m : Matrix) (v : ℕ) : Type 0 where
  pub fixed : (r : Reg) → is_unreserved m.live.target.reserved m.live.target.regs r ≡ true → Decides (is_fixed m v r) (UnitInTheWay m.live.target m.live.func v r)
  pub ranges : Tests (λ (p : Reg × ℕ). InTheWay m.live.target m.live.func (assignment_of m) v p.0 p.1) (λ p. is_in_way m v p.0 p.1)

-- an exact one tells so of each range without a register
abbrev pub ClashesLaw : Type 0
ClashesLaw = (m : Matrix) → IsExact m → (v : ℕ) → register_in m.registers.items v ≡ None → TellsClashes m v

-- and what it tells of all registers is what an eviction asks
abbrev pub FactsLaw : Type 0
FactsLaw = (m : Matrix) → IsExact m → (v : ℕ) → register_in m.registers.items v ≡ None → AreFacts m.live.target m.live.func (assignment_of m) v (facts_of m v)

-- the eviction that is chosen by an exact matrix is the cheapest one
abbrev pub EvictionLaw : Type 0
EvictionLaw =
    (m : Matrix) → IsExact m → (v : ℕ) → register_in m.registers.items v ≡ None → (freqs : List ℕ) (k : Ranks) (answer : Option (Reg × List ℕ))
    → answer ≡ cheapest_of (setting_of m freqs k v) (candidates m.live.target m.live.func (assignment_of m) freqs v)
    → IsCheapest m.live.target m.live.func (assignment_of m) freqs (ranking_of k) v answer

-- and what the basic allocator chooses by it is its choice
abbrev pub BasicLaw : Type 0
BasicLaw =
    (m : Matrix) → IsExact m → (v : ℕ) → register_in m.registers.items v ≡ None → (freqs tinies : List ℕ) (choice : Choice)
    → choice ≡ choice_of (basic_setting m freqs tinies v) (candidates m.live.target m.live.func (assignment_of m) freqs v)
    → IsChoice m.live.target m.live.func (assignment_of m) freqs tinies v choice
