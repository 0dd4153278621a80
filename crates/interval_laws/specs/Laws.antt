-- What a computed table tells of segments.
use Rattle.std.specs.Prelude.{◌≡◌, ℕ, true, Some, slice_get}
use Rattle.target_base.specs.declared.types.Target.{Target}
use Rattle.meaning.specs.declared.types.Lane.TheVariants.{VirtualLane}
use Rattle.meaning.specs.Live.{Among as Member}
use Rattle.mir_func.specs.declared.func.Block.{Block}
use Rattle.mir_func.specs.declared.func.Instr.{Instr}
use Rattle.mir_func.specs.Value.{Function}
use Rattle.mir_meaning.specs.Points.{Tests, LiveAt}
use Rattle.mir_meaning.specs.Rules.{V8}
use Rattle.instr_effects.specs.declared.owner.Owner.TheVariants as owners
use Rattle.instr_effects.specs.Numbered.{number_in}
use Rattle.live_laws.specs.Effects.Coded.{KeepsRules}
use Rattle.live_lanes.specs.declared.table.Table.{Table}
use Rattle.live_lanes.specs.Doing.{IsComputed}
use Rattle.interval_laws.specs.Segments.{lane_segments}
use Rattle.interval_laws.specs.Told.{told_segments, told_live}

-- the table tells at which points each lane of each range is live, and its segments
pub record TellsSegments (t : Target) (f : Function) (x : Table) : Type 0 where
  pub live : (v k : ℕ) → Tests (λ p. LiveAt t f p (VirtualLane v k)) (told_live x f.blocks v k)
  pub segments : (v k n : ℕ) → number_in x.lanes (owners.Range v k) ≡ Some n → told_segments x f.blocks n ≡ lane_segments t f (VirtualLane v k) (told_live x f.blocks v k)

-- a computed table does so
abbrev pub SegmentsLaw : Type 0
SegmentsLaw =
    (t : Target) (f : Function) (x : Table) → IsComputed t f x → KeepsRules t f → ((b : Block) (j : ℕ) (i : Instr) → Member b f.blocks → slice_get b.instrs j ≡ Some i → V8 t b j i ≡ true)
    → TellsSegments t f x
