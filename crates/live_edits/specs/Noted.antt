-- Notes of what the instructions that edits touched do now.
use Rattle.std.specs.Prelude.{◌≡◌, ◌≤◌, ◌&&◌, ℕ, Bool, true, false, nat_eq, List, [], ◌∷◌, Some, slice_get}
use Rattle.std.specs.List.{list_any}
use Rattle.target_base.specs.declared.types.Target.{Target}
use Rattle.mir_func.specs.declared.func.Instr.{Instr}
use Rattle.mir_func.specs.Value.{Function}
use Rattle.mir_func.specs.At.{instr_at}
use Rattle.mir_meaning.specs.Paths.{Among, Step, has}
use Rattle.instr_effects.specs.declared.lane_acts.LaneAct.{LaneAct}
use Rattle.instr_effects.specs.LaneActs.{lane_act}
use Rattle.instr_effects.specs.Steps.{Numbering}
use Rattle.live_lanes.specs.Doing.{doing_of}
use Rattle.live_lanes.specs.Ordered.{times}
use Rattle.edit_laws.specs.Deferred.{idle}
use Rattle.edit_laws.specs.LaneSteps.{lane_step}
use Rattle.edit_laws.specs.Reasons.{Touched}
use Rattle.live_edits.specs.declared.cells.Note.{Note}
use Rattle.live_edits.specs.declared.cells.CellNotes.{CellNotes}
use Rattle.live_edits.specs.declared.notes.TouchedInstr.{TouchedInstr}
use Rattle.live_edits.specs.ActChanges.{act_lanes}
use Rattle.live_edits.specs.Remade.{noted_step, noted_ids}

-- the lanes at which an edit touched an instruction
abbrev pub touched_lanes : TouchedInstr → List ℕ
touched_lanes x = act_lanes x.acts.items

-- an instruction of an id that is touched at a lane, in a block
abbrev pub touches : TouchedInstr → ℕ → ℕ → ℕ → Bool
touches x l b id = nat_eq x.id id && (nat_eq x.block b && has l (touched_lanes x))

-- one of these is
abbrev pub touched_at : List TouchedInstr → Touched
touched_at touched l b id = list_any (λ x. touches x l b id) touched

-- what a step does to a lane
abbrev pub step_act : Step → ℕ → LaneAct
step_act s l = lane_act s.reads s.writes l

-- an act that was noted of an instruction is what it does in a function in which those of some ids do nothing
abbrev pub TellsAct : Target → Function → Numbering → List ℕ → TouchedInstr → LaneAct → Type 0
TellsAct t f num gone x a = (place : ℕ) × (i : Instr) × (instr_at f.blocks x.block place ≡ Some i) × (i.id ≡ x.id) × (a ≡ step_act ((idle gone (doing_of t f num)) i).0 a.lane)

-- of the edits that touched an instruction at a lane, the last one noted what it does there now
abbrev pub TellLatest : Target → Function → Numbering → List ℕ → List TouchedInstr → Type 0
TellLatest t f num gone [] = Unit {0}
TellLatest t f num gone (x ∷ xs) = ((a : LaneAct) → Among a x.acts.items → touched_at xs a.lane x.block x.id ≡ false → TellsAct t f num gone x a) × TellLatest t f num gone xs

-- The notes say what the touched instructions do in a function in which those of some ids do nothing: for each lane that is told of one
-- there is just one note, and there are no others, nor lists without notes.
pub record HasNotes (t : Target) (f : Function) (num : Numbering) (gone : List ℕ) (touched : List TouchedInstr) (all : List CellNotes) : Type 0 where
  pub each : (c : CellNotes) → Among c all → (n : Note) → Among n c.notes.items → (place : ℕ) × (i : Instr) × (instr_at f.blocks c.block place ≡ Some i) × (lane_step c.lane ((idle gone (doing_of t f num)) i).0 ≡ noted_step n)
  pub filled : (c : CellNotes) → Among c all → (n : Note) × Among n c.notes.items
  pub single : (c : CellNotes) → Among c all → (id : ℕ) → times id (noted_ids c.notes.items) ≤ 1
  pub apart : (i j : ℕ) (c d : CellNotes) → slice_get all i ≡ Some c → slice_get all j ≡ Some d → c.lane ≡ d.lane → c.block ≡ d.block → i ≡ j
  pub whole : (x : TouchedInstr) → Among x touched → (l : ℕ) → Among l (touched_lanes x) → (c : CellNotes) × Among c all × (c.lane ≡ l) × (c.block ≡ x.block) × (has x.id (noted_ids c.notes.items) ≡ true)
  pub none : (c : CellNotes) → Among c all → (n : Note) → Among n c.notes.items → (x : TouchedInstr) × Among x touched × (x.id ≡ n.id) × (x.block ≡ c.block) × Among c.lane (touched_lanes x)
