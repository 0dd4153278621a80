-- What treating a piece means for the file that it is the next piece of.
use Rattle.std.proofs.Common.{◌≡◌, ◌⊎◌, ℕ, ◌<◌, List, [], ◌∷◌, ◌++◌, Option, Some, None, true, refl, ap, sym, subst, inl, inr, arith, length, length-append}
use Rattle.std.specs.Prelude.{IfSome}
use Rattle.target_base.specs.declared.types.Target.{Target}
use Rattle.ra_top.specs.Devices.Pieces.{is_whole, NoneWhole, held_most, lines_of}
use Rattle.ra_top.specs.Devices.Unread.{Taken, IsRest}
use Rattle.ra_top.specs.declared.commands.answer.Job.{Job}
use Rattle.ra_top.specs.declared.ending.StreamStep.{StreamStep}
use Rattle.ra_top.specs.declared.ending.StreamStep.TheVariants as steps
use Rattle.ra_top.specs.declared.commands.spot.DocStart.{DocStart}
use Rattle.ra_top.specs.declared.commands.status.Status.{Status}
use Rattle.ra_top.specs.declared.commands.status.Status.TheVariants as status
use Rattle.ra_top.specs.declared.commands.answer.Job.TheVariants as jobs
use Rattle.ra_top.specs.Commands.Documents.{end_status}
use Rattle.ra_top.specs.Devices.Device.{WritesAll}
use Rattle.ra_top.proofs.Nothing.{writes_none}
use Rattle.ra_top.specs.Due.{IsHeld}
use Rattle.ra_top.specs.Steps.{AfterPiece, EndsAtPiece, EndsHere, AfterDocument, Moves, IsEnded, Finishes, IsFinished}

-- the piece that was cut off a text
pub record Cut (text : List ℕ) (left : Option (List ℕ)) (chunk piece : List ℕ) : Type 0 where
  pub rest : List ℕ
  pub left_is : left ≡ Some rest
  pub whole : text ≡ piece ++ (chunk ++ rest)
  pub held : IsHeld piece (chunk ++ rest)

-- how the reading of a piece ended
abbrev pub Ended : Option (List ℕ) → List ℕ → List ℕ → Type 0
Ended left chunk piece = (is_whole piece ≡ true) ⊎ ((length piece ≡ held_most) ⊎ IsRest left chunk piece)

pub nothing : (xs : List ℕ) → length xs ≡ 0 → xs ≡ []
nothing [] h = refl
nothing (x ∷ xs) h = absurd (omega (arith, h))

none_behind : (piece more all : List ℕ) → all ≡ piece ++ more → all ≡ piece → more ≡ []
none_behind piece more all whole is = nothing more (omega (arith, ap length whole, ap length is, length-append piece more))

cut_end : (l chunk0 chunk rest piece : List ℕ) → chunk0 ++ l ≡ piece ++ (chunk ++ rest) → Ended (Some l) chunk0 piece → (is_whole piece ≡ true) ⊎ ((length piece ≡ held_most) ⊎ (chunk ++ rest ≡ []))
cut_end l chunk0 chunk rest piece whole (inl w) = inl w
cut_end l chunk0 chunk rest piece whole (inr (inl m)) = inr (inl m)
cut_end l chunk0 chunk rest piece whole (inr (inr is)) = inr (inr (none_behind piece (chunk ++ rest) (chunk0 ++ l) whole is))

pub cut_of : (first : Option (List ℕ)) (chunk0 : List ℕ) (left : Option (List ℕ)) (chunk piece : List ℕ) → 0 < length piece → NoneWhole piece → Taken first chunk0 left chunk piece → Ended first chunk0 piece → IfSome first (λ l. Cut (chunk0 ++ l) left chunk piece)
cut_of None chunk0 left chunk piece filled none taken end = tt
cut_of (Some l) chunk0 left chunk piece filled none (rest, is, whole) end = record {
  rest = rest;
  left_is = is;
  whole = whole;
  held = record { filled = filled; none = none; end = cut_end l chunk0 chunk rest piece whole end };
}

pub mapped : (P Q : List ℕ → Type 0) → ((l : List ℕ) → P l → Q l) → (o : Option (List ℕ)) → IfSome o P → IfSome o Q
mapped P Q h None p = tt
mapped P Q h (Some l) p = h l p

writes_nothing : (old new : Option (List ℕ)) → new ≡ old → WritesAll old new []
writes_nothing old new e = subst (λ n. WritesAll old n []) (sym e) (writes_none old)

ends_of : (job : Job) (t : Target) (spot : DocStart) (text : List ℕ) (left : Option (List ℕ)) (chunk piece : List ℕ) (old new : Option (List ℕ)) (s : Status) (detail : List ℕ) → Cut text left chunk piece → EndsAtPiece job t spot piece old new s detail → EndsHere job t spot text left old new s detail
ends_of job t spot text left chunk piece old new status.Done detail c e = (e.text, inr (record { piece = piece; rest = chunk ++ c.rest; cut = c.whole; held = c.held; last = e.is }), e.written)
ends_of job t spot text left chunk piece old new status.Usage detail c e = absurd e.0
ends_of job t spot text left chunk piece old new (status.Target f) detail c e = ([], (record { piece = piece; rest = chunk ++ c.rest; cut = c.whole; held = c.held; refused = e.0 }, refl), writes_nothing old new e.1)
ends_of job t spot text left chunk piece old new (status.Text f) detail c e = ([], (record { piece = piece; rest = chunk ++ c.rest; cut = c.whole; held = c.held; refused = e.0 }, refl), writes_nothing old new e.1)
ends_of job t spot text left chunk piece old new (status.Limit l) detail c e = ([], (record { piece = piece; rest = chunk ++ c.rest; cut = c.whole; held = c.held; refused = e.0 }, refl), writes_nothing old new e.1)
ends_of job t spot text left chunk piece old new (status.Invalid x) detail c e = ([], (record { piece = piece; rest = chunk ++ c.rest; cut = c.whole; held = c.held; refused = e.0 }, refl), writes_nothing old new e.1)
ends_of job t spot text left chunk piece old new (status.Unassignable p) detail c e = ([], (record { piece = piece; rest = chunk ++ c.rest; cut = c.whole; held = c.held; refused = e.0 }, refl), writes_nothing old new e.1)
ends_of job t spot text left chunk piece old new status.ReadFault detail c e = absurd e
ends_of job t spot text left chunk piece old new status.WriteFault detail c e = (e.text, inl (record { piece = piece; rest = chunk ++ c.rest; cut = c.whole; held = c.held; answer = e.is }), e.written)
ends_of job t spot text left chunk piece old new status.Memory detail c e = e
ends_of job t spot text left chunk piece old new status.NotYet detail c e = ([], (record { piece = piece; rest = chunk ++ c.rest; cut = c.whole; held = c.held; refused = e.0 }, refl), writes_nothing old new e.1)

step_of : (job : Job) (t : Target) (spot next : DocStart) (text : List ℕ) (left : Option (List ℕ)) (chunk piece : List ℕ) (old new : Option (List ℕ)) (step : StreamStep) → Cut text left chunk piece → AfterPiece job t spot piece old new step → Moves spot piece next step → AfterDocument job t spot next text left chunk old new step
step_of job t spot next text left chunk piece old new steps.More c a m = record { piece = piece; rest = c.rest; left_is = c.left_is; cut = c.whole; held = c.held; next_is = m.0; out = a }
step_of job t spot next text left chunk piece old new (steps.End e) c a m = ends_of job t spot text left chunk piece old new e.status e.detail c a

-- a piece that was read is treated
pub document_step : (job : Job) (t : Target) (spot next : DocStart) (first : Option (List ℕ)) (chunk0 : List ℕ) (left : Option (List ℕ)) (chunk piece : List ℕ) (old new : Option (List ℕ)) (step : StreamStep) → 0 < length piece → NoneWhole piece → Taken first chunk0 left chunk piece → Ended first chunk0 piece → AfterPiece job t spot piece old new step → Moves spot piece next step → IfSome first (λ l. AfterDocument job t spot next (chunk0 ++ l) left chunk old new step)
document_step job t spot next first chunk0 left chunk piece old new step filled none taken end a m =
    mapped (λ l. Cut (chunk0 ++ l) left chunk piece) (λ l. AfterDocument job t spot next (chunk0 ++ l) left chunk old new step) (λ l c. step_of job t spot next (chunk0 ++ l) left chunk piece old new step c a m) first (cut_of first chunk0 left chunk piece filled none taken end)

not_whole : is_whole [] ≡ true → ⊥
unfolding lines_of
not_whole e = cc

pub all_read : (first : Option (List ℕ)) (chunk0 : List ℕ) → Ended first chunk0 [] → IfSome first (λ l. chunk0 ++ l ≡ [])
all_read first chunk0 (inl w) = absurd (not_whole w)
all_read first chunk0 (inr (inl m)) = absurd (omega (arith, m))
all_read first chunk0 (inr (inr is)) = is

-- the status is that of the job at its file's end
pub finished_as : (job : Job) (old new : Option (List ℕ)) (s : Status) → s ≡ end_status job → IsEnded job old new → Finishes job old new s
finished_as (jobs.Alloc how) old new s e is = subst (λ x. Finishes (jobs.Alloc how) old new x) (sym e) (refl, is)
finished_as (jobs.Verify form) old new s e is = subst (λ x. Finishes (jobs.Verify form) old new x) (sym e) (refl, is)
finished_as (jobs.Run name n seed) old new s e is = subst (λ x. Finishes (jobs.Run name n seed) old new x) (sym e) (refl, is)
finished_as jobs.Intervals old new s e is = subst (λ x. Finishes jobs.Intervals old new x) (sym e) (refl, is)
finished_as (jobs.Trace how) old new s e is = subst (λ x. Finishes (jobs.Trace how) old new x) (sym e) (refl, is)

over_done : (job : Job) (t : Target) (spot : DocStart) (text : List ℕ) (left old new : Option (List ℕ)) (detail : List ℕ) → text ≡ [] → status.Done ≡ end_status job → IsEnded job old new → EndsHere job t spot text left old new status.Done detail
over_done job t spot text left old new detail e ends (out, last, w) = (out, inl (record { nothing = e; ends = ends; last = last }), w)

over_usage : (job : Job) (t : Target) (spot : DocStart) (text : List ℕ) (left old new : Option (List ℕ)) (detail : List ℕ) → text ≡ [] → status.Usage ≡ end_status job → IsEnded job old new → EndsHere job t spot text left old new status.Usage detail
over_usage job t spot text left old new detail e ends (out, last, w) = (out, record { nothing = e; ends = ends; last = last }, w)

over : (job : Job) (t : Target) (spot : DocStart) (text : List ℕ) (left old new : Option (List ℕ)) (s : Status) (detail : List ℕ) → text ≡ [] → Finishes job old new s → EndsHere job t spot text left old new s detail
over job t spot text left old new status.Done detail e is = over_done job t spot text left old new detail e is.0 is.1
over job t spot text left old new status.Usage detail e is = over_usage job t spot text left old new detail e is.0 is.1
over job t spot text left old new (status.Target f) detail e is = absurd is
over job t spot text left old new (status.Text f) detail e is = absurd is
over job t spot text left old new (status.Limit l) detail e is = absurd is
over job t spot text left old new (status.Invalid x) detail e is = absurd is
over job t spot text left old new (status.Unassignable p) detail e is = absurd is
over job t spot text left old new status.ReadFault detail e is = absurd is
over job t spot text left old new status.WriteFault detail e (out, last, w) = (out, inr (e, last), w)
over job t spot text left old new status.Memory detail e is = is
over job t spot text left old new status.NotYet detail e is = absurd is

over_step : (job : Job) (t : Target) (spot next : DocStart) (text : List ℕ) (left : Option (List ℕ)) (chunk : List ℕ) (old new : Option (List ℕ)) (step : StreamStep) → text ≡ [] → IsFinished job old new step → AfterDocument job t spot next text left chunk old new step
over_step job t spot next text left chunk old new steps.More e is = absurd is
over_step job t spot next text left chunk old new (steps.End x) e is = over job t spot text left old new x.status x.detail e is

-- nothing was read: the run is over
pub document_done : (job : Job) (t : Target) (spot next : DocStart) (first : Option (List ℕ)) (chunk0 piece : List ℕ) (left : Option (List ℕ)) (chunk : List ℕ) (old new : Option (List ℕ)) (step : StreamStep) → length piece ≡ 0 → Ended first chunk0 piece → IsFinished job old new step → IfSome first (λ l. AfterDocument job t spot next (chunk0 ++ l) left chunk old new step)
document_done job t spot next first chunk0 piece left chunk old new step none end is =
    mapped (λ l. chunk0 ++ l ≡ []) (λ l. AfterDocument job t spot next (chunk0 ++ l) left chunk old new step) (λ l e. over_step job t spot next (chunk0 ++ l) left chunk old new step e is) first (all_read first chunk0 (subst (λ p. Ended first chunk0 p) (nothing piece none) end))
