-- What is known of a place when its change is planned.
use Rattle.std.specs.Prelude.{◌≡◌, ℕ, Bool, true, false, not, List, [], ◌∷◌, ◌++◌, Option}
use Rattle.std.specs.List.{AllByRecursion, list_all, list_any}
use Rattle.mir_func.specs.declared.func.Gap.{Gap}
use Rattle.mir_func.specs.declared.func.Operand.{Operand}
use Rattle.mir_func.specs.declared.func.Instr.{Instr}
use Rattle.mir_func.specs.declared.func.Block.{Block}
use Rattle.mir_func.specs.Binding.{does, implicit_registers, is_terminator, is_virtual}
use Rattle.target_base.specs.declared.types.Target.{Target}
use Rattle.mir_meaning.specs.Rules.{implicit_last}
use Rattle.live_lanes.specs.Looks.{InOrder}
use Rattle.live_lanes.specs.Touching.{FindsInstrs}
use Rattle.spiller.specs.declared.plan.SpillView.{SpillView}
use Rattle.spiller.specs.declared.remat.UseKey.{UseKey}
use Rattle.spiller.specs.MaySpill.{MaySpill}
use Rattle.spiller.specs.Reaching.{Facts, AreFacts}
use Rattle.spiller.specs.Rematerialised.{repeated_for, way_reading, ways_read}
use Rattle.spiller.specs.Spilled.{place_name}
use Rattle.spiller.specs.Views.{own_setting, spilling_of}
use Rattle.spiller.specs.Planned.{TellsRemat}
use Rattle.spiller.specs.Seating.{IsBehind, IsGiven}

-- the register operands that are implicit are physical registers
abbrev pub AreFixed : List Operand → Type 0
AreFixed os = list_all (λ o. not (is_virtual o.loc)) (implicit_registers os) ≡ true

-- operands whose implicit ones are physical registers and stand last
pub record IsPlainForm (i : Instr) : Type 0 where
  pub last : implicit_last i.operands ≡ true
  pub fixed : AreFixed i.operands

-- both facts tell the same of what is live behind an instruction
abbrev pub LiveAlike : Facts → Facts → Instr → Type 0
LiveAlike facts other i = (k : ℕ) → facts.live_behind i.id k ≡ other.live_behind i.id k

-- the id of the last of these instructions
abbrev pub last_name : List Instr → ℕ
last_name [] = 0
last_name (i ∷ []) = i.id
last_name (i ∷ j ∷ is) = last_name (j ∷ is)

-- Of a place with tinies: its instructions have plain forms; the table tells what is live behind them, and what is repeated
-- for its readings is known; and the gap is the one behind its last instruction.
pub record KnownPlace (view : SpillView) (facts : Facts) (answer : UseKey → Option ℕ) (is : List Instr) (last : ℕ) (gap : Gap) : Type 0 where
  pub finds : FindsInstrs view.live.now.table view.live.now.func.blocks
  pub ordered : InOrder view.live.now.table
  pub behind : IsBehind view last gap
  pub forms : AllByRecursion IsPlainForm is
  pub live : AllByRecursion (LiveAlike facts (own_setting view).facts) is
  pub given : AllByRecursion (IsGiven view.live.now.func answer (place_name is) (λ x. repeated_for (spilling_of view view.slot facts) (way_reading (spilling_of view view.slot facts) is x))) (ways_read (spilling_of view view.slot facts) is)

-- the range may be spilled in the function, these are the facts of its paths, and the answers are the definition's
pub record Spillable (view : SpillView) (facts : Facts) (answer : UseKey → Option ℕ) (goes : ℕ → Bool) : Type 0 where
  pub may : MaySpill view.target.now view.live.now.func view.live.now.table view.v
  pub are : AreFacts view.target.now view.live.now.func view.v facts
  pub tells : TellsRemat (spilling_of view view.slot facts) answer goes

-- these are the terminators of the block, of which there are some
pub record AreTerminators (t : Target) (b : Block) (is : List Instr) : Type 0 where
  pub front : List Instr
  pub first : Instr
  pub rest : List Instr
  pub is_some : is ≡ first ∷ rest
  pub parts : b.instrs ≡ front ++ is
  pub plain : list_any (does is_terminator t) front ≡ false
  pub all : list_all (does is_terminator t) is ≡ true
