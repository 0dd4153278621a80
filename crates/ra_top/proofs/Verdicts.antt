-- What the first bytes of a target file tell of it.
use Rattle.std.proofs.Common.{◌≡◌, ℕ, ◌≤◌, ◌+◌, List, length, take, Option, Some, None, refl, ap, ◌∙◌, subst, arith, length-take}
use Rattle.std.specs.Prelude.{IfSome, IfOk, IfErr, Result, Ok, Err}
use Rattle.target_base.specs.declared.types.Target.{Target}
use Rattle.ra_top.specs.declared.ending.ExitReport.{ExitReport}
use Rattle.std.proofs.lemmas.List.{take_all}
use Rattle.pipeline.specs.declared.guarded.stop.LimitName.TheVariants as limits
use Rattle.ra_top.specs.declared.commands.status.Status.{Status}
use Rattle.ra_top.specs.declared.commands.status.Status.TheVariants as status
use Rattle.ra_top.specs.Told.{target_most, IsTargetOf, TargetVerdict, HasStatusCause}
use Rattle.ra_top.specs.Steps.{HasTargetCause, NamesNoDevice, NamesNone}

whole : (all bytes : List ℕ) → bytes ≡ take (1048576 + 1) all → length bytes ≤ target_most → bytes ≡ all
whole all bytes e h =
    let short : length all ≤ 1048576 + 1 = omega (arith, ap length e, length-take (1048576 + 1) all, h) in
    e ∙ take_all (1048576 + 1) all short

of_first : (all bytes : List ℕ) (s : Status) (detail : List ℕ) → bytes ≡ take (1048576 + 1) all → TargetVerdict bytes s detail → TargetVerdict all s detail
of_first all bytes status.Done detail e v = absurd v
of_first all bytes status.Usage detail e v = absurd v
of_first all bytes (status.Target fault) detail e v = subst (λ b. TargetVerdict b (status.Target fault) detail) (whole all bytes e v.0) v
of_first all bytes (status.Text fault) detail e v = absurd v
of_first all bytes (status.Limit limits.TargetBytes) detail e v = omega (arith, v, ap length e, length-take (1048576 + 1) all)
of_first all bytes (status.Limit limits.File) detail e v = absurd v
of_first all bytes (status.Limit limits.Document) detail e v = absurd v
of_first all bytes (status.Limit limits.Blocks) detail e v = absurd v
of_first all bytes (status.Limit limits.Instructions) detail e v = absurd v
of_first all bytes (status.Limit limits.Registers) detail e v = absurd v
of_first all bytes (status.Limit limits.Variables) detail e v = absurd v
of_first all bytes (status.Limit limits.Ranges) detail e v = absurd v
of_first all bytes status.ReadFault detail e v = tt
of_first all bytes status.WriteFault detail e v = absurd v
of_first all bytes status.Memory detail e v = tt
of_first all bytes status.NotYet detail e v = absurd v
of_first all bytes (status.Invalid x) detail e v = absurd v
of_first all bytes (status.Unassignable p) detail e v = absurd v

-- the verdict on the first bytes, one more than a target file may have, is that on the file
pub verdict_of_first : (file : Option (List ℕ)) (bytes read : List ℕ) (s : Status) (detail : List ℕ) → IfSome file (λ all. bytes ≡ take (1048576 + 1) all) → read ≡ bytes → TargetVerdict read s detail → IfSome file (λ all. TargetVerdict all s detail)
verdict_of_first None bytes read s detail e same v = tt
verdict_of_first (Some all) bytes read s detail e same v = of_first all read s detail (same ∙ e) v

-- no fault rose
pub no_fault : (s : Status) (old new : ℕ) → NamesNoDevice s → new ≡ old → HasStatusCause s old new 0 0
no_fault status.Done old new is e = (e, refl)
no_fault status.Usage old new is e = (e, refl)
no_fault (status.Target fault) old new is e = (e, refl)
no_fault (status.Text fault) old new is e = (e, refl)
no_fault (status.Limit limit) old new is e = (e, refl)
no_fault (status.Invalid x) old new is e = (e, refl)
no_fault (status.Unassignable p) old new is e = (e, refl)
no_fault status.ReadFault old new is e = absurd is
no_fault status.WriteFault old new is e = absurd is
no_fault status.Memory old new is e = (e, refl)
no_fault status.NotYet old new is e = (e, refl)

target_of_first : (all bytes : List ℕ) (t : Target) → bytes ≡ take (1048576 + 1) all → IsTargetOf bytes t → IsTargetOf all t
target_of_first all bytes t e is = subst (λ b. IsTargetOf b t) (whole all bytes e is.0) is

-- the target that the first bytes spell is that of the file
pub is_target_of_first : (file : Option (List ℕ)) (bytes read : List ℕ) (result : Result Target ExitReport) → IfSome file (λ all. bytes ≡ take (1048576 + 1) all) → read ≡ bytes → IfOk result (IsTargetOf read) → IfOk result (λ t. IfSome file (λ all. IsTargetOf all t))
is_target_of_first None bytes read (Ok t) e same is = tt
is_target_of_first (Some all) bytes read (Ok t) e same is = target_of_first all read t (same ∙ e) is
is_target_of_first file bytes read (Err x) e same is = tt

-- why the first bytes are refused is why the file is
pub is_refused_of_first : (file : Option (List ℕ)) (bytes read : List ℕ) (result : Result Target ExitReport) → IfSome file (λ all. bytes ≡ take (1048576 + 1) all) → read ≡ bytes → IfErr result (λ e. TargetVerdict read e.status e.detail) → IfErr result (λ x. IfSome file (λ all. TargetVerdict all x.status x.detail))
is_refused_of_first file bytes read (Ok t) e same is = tt
is_refused_of_first file bytes read (Err x) e same v = verdict_of_first file bytes read x.status x.detail e same v

-- no fault rose where the bytes were read
pub no_device : (result : Result Target ExitReport) (old new : ℕ) → NamesNone result → new ≡ old → HasTargetCause result old new
no_device (Ok t) old new is e = e
no_device (Err x) old new is e = no_fault x.status old new is e
