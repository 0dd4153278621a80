-- What watchers were told, and what `trace` wrote, by the time that a run ends with a status.
use Rattle.std.proofs.Common.{◌≡◌, ℕ, ◌+◌, ◌<◌, ◌≤◌, true, List, [], ◌∷◌, ◌++◌, length, Option, Some, None, refl, sym, ◌∙◌, ap, subst, inl, inr, arith, append-nil}
use Rattle.std.specs.Prelude.{IfSome, codes}
use Rattle.std.specs.List.{All}
use Rattle.std.proofs.lemmas.List.{length_push}
use Rattle.std.proofs.lemmas.List.Elements.{All-nil, All-push}
use Rattle.target_base.specs.declared.types.Target.{Target}
use Rattle.mir_func.specs.Value.{Function}
use Rattle.watchers.specs.declared.steps.Step.{Step as RunStep}
use Rattle.watchers.specs.Told.{AllTold}
use Rattle.watchers.proofs.Runs.{none_told}
use Rattle.greedy_core.specs.Bounds.{AreBounded}
use Rattle.mir_text.specs.declared.doc.Doc.{Doc}
use Rattle.mir_text.specs.declared.doc.Doc.TheVariants as docs
use Rattle.ra_top.specs.Devices.Device.{WritesPart, WritesAll}
use Rattle.ra_top.specs.Devices.Pieces.{NoneWhole}
use Rattle.ra_top.specs.Devices.Unread.{Taken}
use Rattle.ra_top.proofs.DeviceLemmas.Written.{part_after, part_before, all_after}
use Rattle.ra_top.specs.Words.Words.{Asked, Alloc, VerifySource, VerifyAllocated, Run, Intervals, Trace, Check, Gen, is_word}
use Rattle.target_base.specs.Mini.{mini_target}
use Rattle.pipeline.specs.declared.passes.allocator.Allocator.{Allocator}
use Rattle.pipeline.specs.Guarded.Told.{ToldRun, ToldPart}
use Rattle.pipeline.proofs.GuardLemmas.Told.{part_joined, part_of_none, part_of_run}
use Rattle.ra_top.specs.declared.commands.answer.Job.{Job}
use Rattle.ra_top.specs.declared.commands.answer.Job.TheVariants as jobs
use Rattle.ra_top.specs.declared.commands.spot.DocStart.{DocStart}
use Rattle.ra_top.specs.declared.commands.status.Status.{Status}
use Rattle.ra_top.specs.declared.commands.status.Status.TheVariants as status
use Rattle.ra_top.specs.Commands.Spot.{first_spot, file_most}
use Rattle.ra_top.specs.Commands.Answer.{IsLast, Refuses}
use Rattle.ra_top.specs.Commands.Documents.{IsTextOf, IsLastTextOf, tells}
use Rattle.ra_top.specs.Commands.Told.{steps_of, ToldDoc}
use Rattle.ra_top.specs.Checked.{function_of, IfFunction}
use Rattle.ra_top.specs.Reading.{Behind}
use Rattle.ra_top.proofs.CommandLemmas.Watched.{run_more}
use Rattle.ra_top.proofs.CheckLemmas.Reads.{reads_on, IsReadSoFar, begun, goes_on, over}
use Rattle.ra_top.proofs.Documents.{Ended}
use Rattle.ra_top.specs.declared.ending.StreamStep.{StreamStep}
use Rattle.ra_top.specs.declared.ending.StreamStep.TheVariants as steps
use Rattle.ra_top.specs.Told.{IsDueText, NamesTarget}
use Rattle.ra_top.specs.Steps.{AfterPiece, EndsAtPiece, IsFinished, Moves, ToldAtPiece, ToldAtEnd, ToldStep}
use Rattle.ra_top.specs.Watched.{IsUndone, ToldAs, ToldJob, ToldGen, ToldWords, IfTells, is_trace, WritesLines, TracesStep}
use Rattle.ra_top.proofs.Nothing.{writes_none}

pub undone : (s is : Status) → s ≡ is → IsUndone is → IsUndone s
undone s is e h = subst IsUndone (sym e) h

-- no piece is refused as Done
pub refuses_undone : (job : Job) (t : Target) (spot : DocStart) (piece : List ℕ) (s : Status) (detail : List ℕ) → Refuses job t spot piece s detail → IsUndone s
refuses_undone job t spot piece status.Done detail h = absurd h
refuses_undone job t spot piece s detail h = tt

no_last_doc : (job : Job) (t : Target) (d : Doc) (text : List ℕ) → tells job ≡ true → IsLastTextOf job t d text → ⊥
no_last_doc (jobs.Run name n seed) t d text h is = absurd (cc)
no_last_doc job t (docs.Function before f) text h is = is
no_last_doc job t d text h is = is

-- `alloc` and `trace` end with no document
pub no_last : (job : Job) (t : Target) (spot : DocStart) (piece text : List ℕ) → tells job ≡ true → IsLast job t spot piece text → ⊥
no_last job t spot piece text h is = no_last_doc job t is.doc text h is.is

is_left : (first : Option (List ℕ)) → IfSome first (λ bytes. first ≡ Some bytes)
is_left None = tt
is_left (Some bytes) = refl

module _ {W : Type 0} (next : W → RunStep → W) where
  -- a run that isn't done
  pub as_part : (t : Target) (file : Option (List ℕ)) (s : Status) (old new : List W) → IsUndone s → ToldPart next old new → ToldAs next t file old new s
  as_part t file status.Done old new h p = absurd h
  as_part t file s old new h p = p

  -- the file was begun, which leaves what it holds
  pub as_begun : (t : Target) (file left : Option (List ℕ)) (s : Status) (old new : List W) → IfSome file (λ bytes. left ≡ Some bytes) → ToldAs next t left old new s → ToldAs next t file old new s
  as_begun t None left status.Done old new is told = record { functions = told.functions; read = tt; runs = told.runs; each = told.each; bounded = told.bounded; told = told.told }
  as_begun t (Some bytes) left status.Done old new is told = subst (λ o. ToldAs next t o old new status.Done) is told
  as_begun t file left s old new is told = told

  pub end_part : (left : Option (List ℕ)) (chunk : List ℕ) (s : Status) (old new : List W) → IsUndone s → ToldPart next old new → ToldAtEnd next left chunk old new s
  end_part left chunk status.Done old new h p = absurd h
  end_part left chunk s old new h p = p

  end_over : (left : Option (List ℕ)) (chunk : List ℕ) (s : Status) (old : List W) → IfSome left (λ l. chunk ++ l ≡ []) → ToldAtEnd next left chunk old old s
  end_over left chunk status.Done old nothing = (nothing, refl)
  end_over left chunk s old nothing = part_of_none next old old refl

  -- nothing is left of the file
  pub step_over : (job : Job) (t : Target) (spot behind : DocStart) (left : Option (List ℕ)) (chunk : List ℕ) (now_left : Option (List ℕ)) (now_chunk : List ℕ) (n : ℕ) (out now_out : Option (List ℕ)) (old : List W) (step : StreamStep) → IfSome left (λ l. chunk ++ l ≡ []) → IsFinished job out now_out step → ToldStep next t spot behind left chunk now_left now_chunk n n old old step
  step_over job t spot behind left chunk now_left now_chunk n out now_out old steps.More nothing is = absurd is
  step_over job t spot behind left chunk now_left now_chunk n out now_out old (steps.End e) nothing is = end_over left chunk e.status old nothing

  -- a piece that was read is treated
  pub step_piece : (t : Target) (spot behind : DocStart) (left : Option (List ℕ)) (chunk : List ℕ) (now_left : Option (List ℕ)) (now_chunk piece : List ℕ) (n m : ℕ) (old new : List W) (step : StreamStep) → 0 < length piece → NoneWhole piece → Taken left chunk now_left now_chunk piece → Ended left chunk piece → Moves spot piece behind step → ToldAtPiece next t spot piece n m old new step → ToldStep next t spot behind left chunk now_left now_chunk n m old new step
  step_piece t spot behind left chunk now_left now_chunk piece n m old new steps.More filled none taken end moves told =
      (told.0, reads_on t spot behind left chunk now_left now_chunk piece told.0 filled none taken end moves.0 told.1, told.2)
  step_piece t spot behind left chunk now_left now_chunk piece n m old new (steps.End e) filled none taken end moves told = end_part left chunk e.status old new told.0 told.1

  -- How far the watchers were told of a file: of each function that was read one run. The number of the next function is
  -- theirs, and no greater than that of the bytes before it.
  pub record ToldSoFar (t : Target) (file : Option (List ℕ)) (spot : DocStart) (chunk : List ℕ) (left : Option (List ℕ)) (n : ℕ) (old new : List W) : Type 0 where
    pub functions : List Function
    pub read : IsReadSoFar (λ f. Unit {0}) t file spot chunk left functions
    pub runs : List (List RunStep)
    pub each : length runs ≡ length functions
    pub bounded : All AreBounded runs
    pub told : AllTold next (steps_of 0 runs) old new
    pub number : n ≡ length runs
    pub few : n ≤ spot.offset

  -- a file is begun
  pub told_none : (t : Target) (file : Option (List ℕ)) (spot : DocStart) (chunk : List ℕ) (old : List W) → spot ≡ first_spot → chunk ≡ [] → ToldSoFar t file spot chunk file 0 old old
  told_none t file spot chunk old is empty = record {
    functions = [];
    read = begun (λ f. Unit {0}) t file spot chunk file [] (is_left file) is empty refl;
    runs = [];
    each = refl;
    bounded = All-nil AreBounded;
    told = none_told next old;
    number = refl;
    few = omega arith;
  }

  lines_more : (t : Target) (file : Option (List ℕ)) (spot behind : DocStart) (chunk now_chunk : List ℕ) (left now_left : Option (List ℕ)) (n m : ℕ) (old now new : List W) (d : Doc) → spot.offset < behind.offset → function_of d ≡ [] → IfFunction (λ f. Unit {0}) d → ToldSoFar t file spot chunk left n old now → IfSome left (λ l. Behind t spot behind (chunk ++ l) now_left now_chunk d) → new ≡ now → m ≡ n → ToldSoFar t file behind now_chunk now_left m old new
  lines_more t file spot behind chunk now_chunk left now_left n m old now new d on none meets a b same is = record {
    functions = a.functions;
    read = goes_on (λ f. Unit {0}) t file spot behind chunk now_chunk left now_left a.functions a.functions d a.read b meets (sym (append-nil a.functions) ∙ ap (λ fs. a.functions ++ fs) (sym none));
    runs = a.runs;
    each = a.each;
    bounded = a.bounded;
    told = subst (λ ws. AllTold next (steps_of 0 a.runs) old ws) (sym same) a.told;
    number = is ∙ a.number;
    few = omega (arith, is, on, a.few);
  }

  -- one more document was read
  pub told_more : (t : Target) (file : Option (List ℕ)) (spot behind : DocStart) (chunk now_chunk : List ℕ) (left now_left : Option (List ℕ)) (n m : ℕ) (old now new : List W) (d : Doc) → spot.offset < behind.offset → spot.offset ≤ file_most → ToldSoFar t file spot chunk left n old now → IfSome left (λ l. Behind t spot behind (chunk ++ l) now_left now_chunk d) → ToldDoc next d n m now new → ToldSoFar t file behind now_chunk now_left m old new
  told_more t file spot behind chunk now_chunk left now_left n m old now new (docs.Ir lines) on within a b told = lines_more t file spot behind chunk now_chunk left now_left n m old now new (docs.Ir lines) on refl tt a b told.0 told.1
  told_more t file spot behind chunk now_chunk left now_left n m old now new (docs.Rest lines) on within a b told = lines_more t file spot behind chunk now_chunk left now_left n m old now new (docs.Rest lines) on refl tt a b told.0 told.1
  told_more t file spot behind chunk now_chunk left now_left n m old now new (docs.Function before f) on within a b ((run, all, bounds), is) =
      let next_is : m ≡ n + 1 = omega (arith, is, within, a.few) in
      record {
        functions = a.functions ++ f ∷ [];
        read = goes_on (λ f. Unit {0}) t file spot behind chunk now_chunk left now_left a.functions (a.functions ++ f ∷ []) (docs.Function before f) a.read b tt refl;
        runs = a.runs ++ run ∷ [];
        each = length_push a.runs run ∙ ap (λ k. k + 1) a.each ∙ sym (length_push a.functions f);
        bounded = All-push AreBounded a.runs run a.bounded bounds;
        told = run_more next n a.runs run old now new a.number a.told all;
        number = next_is ∙ ap (λ k. k + 1) a.number ∙ sym (length_push a.runs run);
        few = omega (arith, next_is, on, a.few);
      }

  -- a run ends
  pub told_end : (t : Target) (file : Option (List ℕ)) (spot : DocStart) (chunk : List ℕ) (left : Option (List ℕ)) (n : ℕ) (old now new : List W) (s : Status) → ToldSoFar t file spot chunk left n old now → ToldAtEnd next left chunk now new s → ToldAs next t file old new s
  told_end t file spot chunk left n old now new status.Done a e = record {
    functions = a.functions;
    read = over (λ f. Unit {0}) t file spot chunk left a.functions a.read e.0;
    runs = a.runs;
    each = a.each;
    bounded = a.bounded;
    told = subst (λ ws. AllTold next (steps_of 0 a.runs) old ws) (sym e.1) a.told;
  }
  told_end t file spot chunk left n old now new s a e = (steps_of 0 a.runs ++ e.0, part_joined next old now new (steps_of 0 a.runs) e.0 a.told e.1)

  gen_told : (s : Status) (old new : List W) → (s ≡ status.Done → ToldRun next 0 old new) → (IsUndone s → ToldPart next old new) → ToldGen next old new s
  gen_told status.Done old new all part = all refl
  gen_told status.Usage old new all part = part tt
  gen_told (status.Target f) old new all part = part tt
  gen_told (status.Text f) old new all part = part tt
  gen_told (status.Limit l) old new all part = part tt
  gen_told (status.Invalid x) old new all part = part tt
  gen_told (status.Unassignable p) old new all part = part tt
  gen_told status.ReadFault old new all part = part tt
  gen_told status.WriteFault old new all part = part tt
  gen_told status.Memory old new all part = part tt
  gen_told status.NotYet old new all part = part tt

  -- the one run of `gen` was told
  pub gen_run : (s : Status) (old new : List W) → ToldRun next 0 old new → ToldGen next old new s
  gen_run s old new run = gen_told s old new (λ e. run) (λ h. part_of_run next 0 old new run)

  pub gen_part : (s : Status) (old new : List W) → IsUndone s → ToldPart next old new → ToldGen next old new s
  gen_part s old new h p = gen_told s old new (λ e. absurd (subst IsUndone e h)) (λ x. p)

pub if_tells : (job : Job) (P : Type 0) → (tells job ≡ true → P) → IfTells job P
if_tells (jobs.Alloc how) P told = told refl
if_tells (jobs.Trace how) P told = told refl
if_tells job P told = tt

module _ {W : Type 0} (next : Target → W → RunStep → W) where
  -- the documents were treated over a target
  pub job_told : (t : Target) (word : List ℕ) (text now file : Option (List ℕ)) (old new : List W) (s result : Status) → NamesTarget (is_word word (codes "-")) text t → now ≡ file → result ≡ s → ToldAs (next t) t now old new s → ToldJob next word text file old new result
  job_told t word text now file old new s result named same e told = inr (t, named, subst (λ o. ToldAs (next t) t o old new result) same (subst (ToldAs (next t) t now old new) (sym e) told))

  -- memory ran out before anything was told
  pub words_untold : (a : Option Asked) (contents : List ℕ → Option (List ℕ)) (old : List W) (s : Status) → IsUndone s → ToldWords next a contents old old s
  words_untold None contents old s h = refl
  words_untold (Some (Alloc how t f)) contents old s h = inl (h, refl)
  words_untold (Some (VerifySource t f)) contents old s h = refl
  words_untold (Some (VerifyAllocated t f)) contents old s h = refl
  words_untold (Some (Run t f g n seed)) contents old s h = refl
  words_untold (Some (Intervals t f)) contents old s h = refl
  words_untold (Some (Trace how t f)) contents old s h = inl (h, refl)
  words_untold (Some (Check t s a)) contents old status h = refl
  words_untold (Some (Gen seed)) contents old s h = gen_part (next mini_target) s old old h (part_of_none (next mini_target) old old refl)

writes_nothing : (old new : Option (List ℕ)) → new ≡ old → WritesAll old new []
writes_nothing old new e = subst (λ n. WritesAll old n []) (sym e) (writes_none old)

-- nothing was written before
pub lines_behind : (s : Status) (lines : List ℕ) (old mid new : Option (List ℕ)) → WritesAll old mid [] → WritesLines lines mid new s → WritesLines lines old new s
lines_behind status.Done lines old mid new a b = all_after old mid new [] lines a b
lines_behind status.Usage lines old mid new a b = all_after old mid new [] [] a b
lines_behind (status.Target f) lines old mid new a b = all_after old mid new [] [] a b
lines_behind (status.Text f) lines old mid new a b = all_after old mid new [] [] a b
lines_behind (status.Limit l) lines old mid new a b = all_after old mid new [] [] a b
lines_behind (status.Invalid x) lines old mid new a b = all_after old mid new [] [] a b
lines_behind (status.Unassignable p) lines old mid new a b = all_after old mid new [] [] a b
lines_behind status.ReadFault lines old mid new a b = all_after old mid new [] [] a b
lines_behind status.WriteFault lines old mid new a b = part_after old mid new [] lines a b
lines_behind status.Memory lines old mid new a b = all_after old mid new [] [] a b
lines_behind status.NotYet lines old mid new a b = all_after old mid new [] [] a b

trace_text : (how : Allocator) (t : Target) (d : Doc) (text : List ℕ) → IsTextOf (jobs.Trace how) t d text → text ≡ []
trace_text how t (docs.Function before f) text is = is.2
trace_text how t (docs.Ir lines) text is = is
trace_text how t (docs.Rest lines) text is = is

trace_last : (how : Allocator) (t : Target) (d : Doc) (text : List ℕ) → IsLastTextOf (jobs.Trace how) t d text → ⊥
trace_last how t (docs.Function before f) text is = is
trace_last how t (docs.Ir lines) text is = is
trace_last how t (docs.Rest lines) text is = is

part_traced : (how : Allocator) (t : Target) (spot : DocStart) (piece lines text : List ℕ) (old new : Option (List ℕ)) → IsDueText (jobs.Trace how) t spot piece text → WritesPart old new text → WritesPart old new lines
part_traced how t spot piece lines text old new (inl is) w = part_before old new [] lines (subst (WritesPart old new) (trace_text how t is.doc text is.is) w)
part_traced how t spot piece lines text old new (inr is) w = absurd (trace_last how t is.doc text is.is)

ends_traced : (how : Allocator) (t : Target) (spot : DocStart) (piece lines : List ℕ) (old new : Option (List ℕ)) (s : Status) (detail : List ℕ) → EndsAtPiece (jobs.Trace how) t spot piece old new s detail → WritesLines lines old new s
ends_traced how t spot piece lines old new status.Done detail e = absurd (trace_last how t e.is.doc e.text e.is.is)
ends_traced how t spot piece lines old new status.Usage detail e = writes_nothing old new e.1
ends_traced how t spot piece lines old new (status.Target f) detail e = writes_nothing old new e.1
ends_traced how t spot piece lines old new (status.Text f) detail e = writes_nothing old new e.1
ends_traced how t spot piece lines old new (status.Limit l) detail e = writes_nothing old new e.1
ends_traced how t spot piece lines old new (status.Invalid x) detail e = writes_nothing old new e.1
ends_traced how t spot piece lines old new (status.Unassignable p) detail e = writes_nothing old new e.1
ends_traced how t spot piece lines old new status.ReadFault detail e = absurd e
ends_traced how t spot piece lines old new status.WriteFault detail e = part_traced how t spot piece lines e.text old new e.is e.written
ends_traced how t spot piece lines old new status.Memory detail e = writes_nothing old new e
ends_traced how t spot piece lines old new status.NotYet detail e = writes_nothing old new e.1

step_traced : (how : Allocator) (t : Target) (spot : DocStart) (piece lines : List ℕ) (old new : Option (List ℕ)) (step : StreamStep) → AfterPiece (jobs.Trace how) t spot piece old new step → TracesStep lines old new step
step_traced how t spot piece lines old new steps.More a = subst (WritesAll old new) (trace_text how t a.is.doc a.text a.is.is) a.written
step_traced how t spot piece lines old new (steps.End e) a = ends_traced how t spot piece lines old new e.status e.detail a

-- a piece was treated
pub piece_traced : (job : Job) (t : Target) (spot : DocStart) (piece lines : List ℕ) (old new : Option (List ℕ)) (step : StreamStep) → is_trace job ≡ true → AfterPiece job t spot piece old new step → TracesStep lines old new step
piece_traced (jobs.Alloc how) t spot piece lines old new step h a = absurd (cc)
piece_traced (jobs.Verify form) t spot piece lines old new step h a = absurd (cc)
piece_traced (jobs.Run name n seed) t spot piece lines old new step h a = absurd (cc)
piece_traced jobs.Intervals t spot piece lines old new step h a = absurd (cc)
piece_traced (jobs.Trace how) t spot piece lines old new step h a = step_traced how t spot piece lines old new step a

module _ {W : Type 0} (next : Target → W → RunStep → W) where
  -- `alloc` and `trace` over the words that ask for them
  pub words_alloc : (a : Option Asked) (how : Allocator) (t f : List ℕ) (contents : List ℕ → Option (List ℕ)) (old new : List W) (s : Status) → Some (Alloc how t f) ≡ a → ToldJob next t (contents t) (contents f) old new s → ToldWords next a contents old new s
  words_alloc a how t f contents old new s e told = subst (λ x. ToldWords next x contents old new s) e told

  pub words_trace : (a : Option Asked) (how : Allocator) (t f : List ℕ) (contents : List ℕ → Option (List ℕ)) (old new : List W) (s : Status) → Some (Trace how t f) ≡ a → ToldJob next t (contents t) (contents f) old new s → ToldWords next a contents old new s
  words_trace a how t f contents old new s e told = subst (λ x. ToldWords next x contents old new s) e told

pub ruleset words_told = (words_alloc, words_trace)
