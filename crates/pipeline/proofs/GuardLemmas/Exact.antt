-- Where a function's classes are those of its target, the verifier's words are exact.
use Rattle.std.specs.Prelude.{Result, Ok, Err, IfErr}
use Rattle.target_base.specs.declared.types.Target.{Target}
use Rattle.mir_func.specs.Value.{Function}
use Rattle.mir_meaning.specs.declared.Form.{Form}
use Rattle.mir_meaning.specs.Valid.{Fault, FirstFault}
use Rattle.mir_meaning.specs.Valid as first
use Rattle.machine_verify.specs.Lives.{FitsTarget}
use Rattle.machine_verify.specs.Verdict.{IsFault, IfInvalid, of_shape, of_liveness}
use Rattle.machine_verify.specs.declared.stop.VerifyStop.{VerifyStop}
use Rattle.machine_verify.specs.declared.stop.VerifyStop.TheVariants as stops

pub first_of : (t : Target) (form : Form) (f : Function) (x : Fault) → FitsTarget t f → IsFault t form f x → FirstFault t form f x
first_of t form f x fits (of_shape h) = first.of_shape h
first_of t form f x fits (of_liveness clean late exact) = first.of_liveness clean (exact fits)

if_stop : (t : Target) (form : Form) (f : Function) (stop : VerifyStop) → FitsTarget t f → IfInvalid (IsFault t form f) stop → IfInvalid (FirstFault t form f) stop
if_stop t form f (stops.Invalid x) fits h = first_of t form f _ fits h
if_stop t form f (stops.Memory e) fits h = tt

pub if_first : {X : Type 0} (t : Target) (form : Form) (f : Function) (r : Result X VerifyStop) → FitsTarget t f → IfErr r (IfInvalid (IsFault t form f)) → IfErr r (IfInvalid (FirstFault t form f))
if_first t form f (Ok x) fits h = tt
if_first t form f (Err stop) fits h = if_stop t form f stop fits h
