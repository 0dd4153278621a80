-- A function that was made ready for the run.
use Rattle.std.specs.Prelude.{◌≡◌, ◌<◌, ◌≤◌, ◌^◌, ℕ, true, List, length, Some, slice_get}
use Rattle.target_base.specs.declared.types.Target.{Target}
use Rattle.meaning.specs.Live.{Among}
use Rattle.mir_func.specs.declared.func.Instr.{Instr}
use Rattle.mir_func.specs.declared.func.Block.{Block}
use Rattle.mir_func.specs.Value.{Function}
use Rattle.mir_meaning.specs.declared.Form.TheVariants as forms
use Rattle.mir_meaning.specs.Codes.{refines}
use Rattle.mir_meaning.specs.Rules.{V8}
use Rattle.mir_meaning.specs.Valid.{IsValid}
use Rattle.live_laws.specs.Effects.Coded.{KeepsRules}
use Rattle.live_laws.specs.Effects.Shaped.{AreClasses}
use Rattle.live_lanes.specs.declared.live.LiveFunc.{LiveFunc}
use Rattle.live_lanes.specs.Doing.{IsComputed}
use Rattle.block_freq.specs.Frequencies.{frequencies_of}
use Rattle.phi_elim.specs.Bulk.{bulk}
use Rattle.two_address.specs.Lowered.{lowered}
use Rattle.live_edits.specs.declared.fold.Join.{Join}
use Rattle.join_laws.specs.Joined.{Joined}
use Rattle.coalescer.specs.Coalescing.{MayCoalesce}
use Rattle.pipeline.specs.declared.passes.ready.PreparedFunc.{PreparedFunc}

-- What making ready asks of a function with what is live in it: it is a valid source with classes of the target, and of at
-- most 2^24 of bulk and 2^32 blocks.
pub record MayPrepare (t : Target) (x : LiveFunc) : Type 0 where
  pub target : x.target ≡ t
  pub classes : AreClasses t x.func
  pub valid : IsValid t forms.Source x.func
  pub bulk : bulk x.func ≤ 2 ^ 24
  pub blocks : length x.func.blocks < 4294967296

-- The function is f lowered, with its copies tried in their order by the frequencies of its blocks and joined; it does what f
-- does. What is live in it is computed, it is in the form that joins and splits ask, and the numbers of its ranges have 32
-- bits.
pub record IsPrepared (t : Target) (f : Function) (made : PreparedFunc) : Type 0 where
  pub freqs : made.freqs ≡ frequencies_of (lowered t f).blocks
  pub joins : List Join
  pub joined : Joined t (frequencies_of (lowered t f).blocks) (lowered t f) joins made.live.func
  pub ready : MayCoalesce t made.live
  pub refines : refines t f made.live.func
  pub few : length made.live.func.classes ≤ 2 ^ 32

-- The table is computed of the function, which keeps the rules on which liveness rests; its terminators stand last in their
-- blocks, and the numbers of its ranges have 32 bits.
pub record IsLive (t : Target) (made : PreparedFunc) : Type 0 where
  pub computed : IsComputed t made.live.func made.live.table
  pub rules : KeepsRules t made.live.func
  pub terminators : (b : Block) (j : ℕ) (i : Instr) → Among b made.live.func.blocks → slice_get b.instrs j ≡ Some i → V8 t b j i ≡ true
  pub few : length made.live.func.classes ≤ 2 ^ 32
