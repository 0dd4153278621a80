-- A run keeps the form; without spills it does what the source does.
use Rattle.target_base.specs.declared.types.Target.{Target}
use Rattle.laws.proofs.Refines.{refines_trans}
use Rattle.mir_func.specs.Value.{Function}
use Rattle.mir_meaning.specs.Codes.{meaning_of}
use Rattle.two_address.specs.Lowered.{lowered}
use Rattle.lowering_laws.proofs.Both.{lowered_refine}
use Rattle.lowering_laws.proofs.LoweredForm.{lowered_form}
use Rattle.lowering_laws.proofs.LoweredRules.{lowered_is_splittable}
use Rattle.join_laws.proofs.Trying.{joined_refines}
use Rattle.spill_laws.proofs.FixedUndefs.{spill_keeps_named}
use Rattle.spill_laws.proofs.InForm.{spill_keeps_lowered}
use Rattle.spill_laws.proofs.InTurn.{form_has_plain_undefs}
use Rattle.spill_laws.proofs.LoweredUndefs.{lowered_has_fixed_undefs}
use Rattle.split_laws.proofs.InTurn.{splits_refine}
use Rattle.split_laws.proofs.Kept.{split_keeps_lowered}
use Rattle.run_laws.specs.Form.{IsInRun}
use Rattle.run_laws.specs.Runs.{IsReached, JoinedIsInRun, LoweredIsInRun, RunKeepsForm, RunWithoutSpillsRefines, StepIsInRun, spills, splits, start, step}
use Rattle.run_laws.proofs.Joins.{joined_keeps_undefs}
use Rattle.run_laws.proofs.Splits.{split_keeps_undefs}

pub lowered_is_in_run : LoweredIsInRun
lowered_is_in_run t f valid classes some = record {
  lowered = lowered_is_splittable t f valid classes some;
  instrs = lowered_form t f valid;
  undefs = lowered_has_fixed_undefs t f valid classes;
}

pub joined_is_in_run : JoinedIsInRun
joined_is_in_run t freqs f g js run z =
    let kept = joined_keeps_undefs t freqs f g js run.instrs run.undefs z in
    record { lowered = (joined_refines t freqs f g js run.lowered (form_has_plain_undefs t f run.instrs) z).1; instrs = kept.0; undefs = kept.1 }

pub step_is_in_run : StepIsInRun
step_is_in_run t f g run (splits v ms meet s) =
    let kept = split_keeps_undefs t f g v ms run.instrs run.undefs s in
    record { lowered = split_keeps_lowered t f g v ms run.lowered meet s; instrs = kept.0; undefs = kept.1 }
step_is_in_run t f g run (spills slots new v made s) =
    let kept = spill_keeps_lowered t f g slots new v made run.lowered run.instrs s in
    record { lowered = kept.0; instrs = kept.1; undefs = (spill_keeps_named t f g slots new v made run.lowered run.instrs run.undefs s).0 }

reached : {t : Target} {f g : Function} → IsInRun t f → IsReached t f g → IsInRun t g
reached run start = run
reached {t = t} run (step {g = g} {h = h} on s) = step_is_in_run t g h (reached run on) s

pub run_keeps_form : RunKeepsForm
run_keeps_form t freqs f g h js valid classes some z on = reached (joined_is_in_run t freqs (lowered t f) g js (lowered_is_in_run t f valid classes some) z) on

pub run_without_spills_refines : RunWithoutSpillsRefines
run_without_spills_refines t freqs f g h js parted valid classes some z s =
    let run = lowered_is_in_run t f valid classes some in
    let joined = joined_refines t freqs (lowered t f) g js run.lowered (form_has_plain_undefs t (lowered t f) run.instrs) z in
    refines_trans (meaning_of t f) (meaning_of t (lowered t f)) (meaning_of t h) (lowered_refine t f valid classes)
    (refines_trans (meaning_of t (lowered t f)) (meaning_of t g) (meaning_of t h) joined.0 (splits_refine t g h parted joined.1 s).0)
