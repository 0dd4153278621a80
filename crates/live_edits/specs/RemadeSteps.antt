-- What notes say that their instructions do to a lane.
use Rattle.std.specs.Prelude.{ℕ, Bool, nat_eq, List, Option, None, Some, map}
use Rattle.std.specs.List.{list_any}
use Rattle.mir_meaning.specs.declared.writing.LaneDef.{LaneDef}
use Rattle.mir_meaning.specs.Paths.{Use, Unused}
use Rattle.instr_effects.specs.declared.lane_acts.LaneRead.{LaneRead}
use Rattle.instr_effects.specs.declared.lane_acts.LaneWrite.{LaneWrite}
use Rattle.edit_laws.specs.LaneSteps.{LaneStep, use_told}
use Rattle.live_edits.specs.declared.cells.Note.{Note}

-- how an instruction uses a lane that it reads so
abbrev pub use_of_read : Option LaneRead → Use
use_of_read None = Unused
use_of_read (Some r) = use_told r.into

-- how it writes lane l
abbrev pub def_of_write : ℕ → Option LaneWrite → Option LaneDef
def_of_write l None = None
def_of_write l (Some w) = Some (record { lane = l; from = w.from; early = w.early })

abbrev pub noted_ids : List Note → List ℕ
noted_ids ns = map (λ n. n.id) ns

-- there is a note of the instruction
abbrev pub has_note : List Note → ℕ → Bool
has_note ns id = list_any (λ n. nat_eq n.id id) ns

-- what a note says that its instruction does to the lane
abbrev pub noted_step : Note → LaneStep
noted_step n = record { id = n.id; used = use_of_read n.act.read; writing = def_of_write n.act.lane n.act.write }
