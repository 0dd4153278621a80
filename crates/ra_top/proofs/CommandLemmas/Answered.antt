-- What is answered at the document that a piece spells is an answer at the piece.
use Rattle.std.proofs.Common.{ℕ, List, Result, Ok, Err, inr}
use Rattle.std.specs.Prelude.{IfOk}
use Rattle.target_base.specs.declared.types.Target.{Target}
use Rattle.mir_func.specs.Value.{Function}
use Rattle.mir_meaning.specs.declared.Form.{Form}
use Rattle.mir_text.specs.declared.doc.Doc.{Doc}
use Rattle.mir_text.specs.declared.doc.Doc.TheVariants as docs
use Rattle.ra_top.specs.declared.commands.answer.Answer.{Answer}
use Rattle.ra_top.specs.declared.commands.answer.Answer.TheVariants as answers
use Rattle.ra_top.specs.declared.commands.answer.Job.{Job}
use Rattle.ra_top.specs.declared.commands.answer.Job.TheVariants as jobs
use Rattle.ra_top.specs.declared.commands.spot.DocStart.{DocStart}
use Rattle.ra_top.specs.declared.commands.status.Status.{Status}
use Rattle.ra_top.specs.declared.commands.status.Status.TheVariants as status
use Rattle.ra_top.specs.Commands.Answer.{IsSpelled, Refuses, IsAnswer}
use Rattle.ra_top.specs.Commands.Documents.{AllocRefuses, IntervalsRefuses, VerifyRefuses, RunRefuses, RefusesDoc, IsDocAnswer}

-- no function is refused by this status
abbrev IsNoRefusal : Status → Type 0
IsNoRefusal (status.Limit l) = ⊥
IsNoRefusal (status.Invalid x) = ⊥
IsNoRefusal (status.Unassignable p) = ⊥
IsNoRefusal status.NotYet = ⊥
IsNoRefusal s = Unit {0}

alloc_never : (t : Target) (f : Function) (s : Status) (detail : List ℕ) → IsNoRefusal s → AllocRefuses t f s detail → ⊥
alloc_never t f (status.Limit l) detail never h = never
alloc_never t f (status.Invalid x) detail never h = never
alloc_never t f (status.Unassignable p) detail never h = never
alloc_never t f status.NotYet detail never h = never
alloc_never t f s detail never h = h

intervals_never : (t : Target) (f : Function) (s : Status) (detail : List ℕ) → IsNoRefusal s → IntervalsRefuses t f s detail → ⊥
intervals_never t f (status.Limit l) detail never h = never
intervals_never t f (status.Invalid x) detail never h = never
intervals_never t f (status.Unassignable p) detail never h = never
intervals_never t f status.NotYet detail never h = never
intervals_never t f s detail never h = h

verify_never : (t : Target) (form : Form) (f : Function) (s : Status) (detail : List ℕ) → IsNoRefusal s → VerifyRefuses t form f s detail → ⊥
verify_never t form f (status.Limit l) detail never h = never
verify_never t form f (status.Invalid x) detail never h = never
verify_never t form f (status.Unassignable p) detail never h = never
verify_never t form f status.NotYet detail never h = never
verify_never t form f s detail never h = h

run_never : (t : Target) (f : Function) (s : Status) (detail : List ℕ) → IsNoRefusal s → RunRefuses t f s detail → ⊥
run_never t f (status.Limit l) detail never h = never
run_never t f (status.Invalid x) detail never h = never
run_never t f (status.Unassignable p) detail never h = never
run_never t f status.NotYet detail never h = never
run_never t f s detail never h = h

doc_never : (job : Job) (t : Target) (d : Doc) (s : Status) (detail : List ℕ) → IsNoRefusal s → RefusesDoc job t d s detail → ⊥
doc_never (jobs.Alloc how) t (docs.Function before f) s detail never h = alloc_never t f s detail never h
doc_never (jobs.Verify form) t (docs.Function before f) s detail never h = verify_never t form f s detail never h
doc_never (jobs.Run name n seed) t (docs.Function before f) s detail never h = run_never t f s detail never h.1
doc_never jobs.Intervals t (docs.Function before f) s detail never h = intervals_never t f s detail never h
doc_never (jobs.Trace how) t (docs.Function before f) s detail never h = alloc_never t f s detail never h
doc_never job t d s detail never h = h

doc_refused : (job : Job) (t : Target) (spot : DocStart) (piece : List ℕ) (d : Doc) (s : Status) (detail : List ℕ) → IsSpelled t spot piece d → RefusesDoc job t d s detail → Refuses job t spot piece s detail
doc_refused job t spot piece d (status.Limit l) detail is h = inr (record { doc = d; spelled = is; refused = h })
doc_refused job t spot piece d (status.Invalid x) detail is h = record { doc = d; spelled = is; refused = h }
doc_refused job t spot piece d (status.Unassignable p) detail is h = record { doc = d; spelled = is; refused = h }
doc_refused job t spot piece d status.NotYet detail is h = record { doc = d; spelled = is; refused = h }
doc_refused job t spot piece d status.Done detail is h = absurd (doc_never job t d status.Done detail tt h)
doc_refused job t spot piece d status.Usage detail is h = absurd (doc_never job t d status.Usage detail tt h)
doc_refused job t spot piece d (status.Target f) detail is h = absurd (doc_never job t d (status.Target f) detail tt h)
doc_refused job t spot piece d (status.Text f) detail is h = absurd (doc_never job t d (status.Text f) detail tt h)
doc_refused job t spot piece d status.ReadFault detail is h = absurd (doc_never job t d status.ReadFault detail tt h)
doc_refused job t spot piece d status.WriteFault detail is h = absurd (doc_never job t d status.WriteFault detail tt h)
doc_refused job t spot piece d status.Memory detail is h = absurd (doc_never job t d status.Memory detail tt h)

-- the document of a piece was answered
pub answer_at_doc : {E : Type 0} (job : Job) (t : Target) (spot : DocStart) (piece : List ℕ) (d : Doc) (r : Result Answer E) → IsSpelled t spot piece d → IfOk r (IsDocAnswer job t d) → IfOk r (IsAnswer job t spot piece)
answer_at_doc job t spot piece d (Ok (answers.Text text)) is h = record { doc = d; spelled = is; is = h }
answer_at_doc job t spot piece d (Ok (answers.Last text)) is h = record { doc = d; spelled = is; is = h }
answer_at_doc job t spot piece d (Ok (answers.Refused s detail)) is h = doc_refused job t spot piece d s detail is h
answer_at_doc job t spot piece d (Err x) is h = tt
