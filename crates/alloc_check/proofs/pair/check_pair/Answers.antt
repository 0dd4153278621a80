use Rattle.std.proofs.Common.{◌≡◌, IfErr, IsTrue, OnOk, Ok, Err, true, subst}
use Rattle.mir_meaning.specs.declared.Form.TheVariants as forms
use Rattle.mir_meaning.specs.Valid.{IsValid}
use Rattle.machine_verify.specs.Faults.{fault_of}
use Rattle.machine_verify.specs.Verdict.{IfInvalid, IsAccepted, IsFault}
use Rattle.alloc_check.proofs.Classes.{first_of, valid_of}
use Rattle.alloc_check.proofs.Told.{tells-invalid, tells-ok}
use Rattle.alloc_check.proofs.pair.check_pair.Goals as goal

pub returns-then-not-fits-clause-agreement : goal.returns-then-not-fits-clause-agreement
returns-then-not-fits-clause-agreement c fits = let never : c.fits.result ≡ true = c.fits.ensures.exact fits in absurd (cc)

pub returns-in-Ok-clause-agreement : goal.returns-in-Ok-clause-agreement
returns-in-Ok-clause-agreement c fits =
    let t = c.args.target.now in
    let f = c.args.source.now.func in
    let g = c.args.allocated.now in
    let accepted : IsAccepted t forms.Allocated g = subst (λ r. OnOk r (IsAccepted t forms.Allocated g)) c.in-Ok.is c.verify_allocated.ensures.ok in
    let valid : IsValid t forms.Allocated g = valid_of t forms.Allocated g fits accepted in
    tells-ok t f g valid c.agree.result c.agree.ensures.alike (c.agree.ensures.unlike valid.starts) (c.agree.ensures.facts valid.starts)

pub returns-in-Err-Invalid-clause-agreement : goal.returns-in-Err-Invalid-clause-agreement
returns-in-Err-Invalid-clause-agreement c fits =
    let t = c.args.target.now in
    let f = c.args.source.now.func in
    let g = c.args.allocated.now in
    let fault = fault_of c.in-Err-Invalid.fault in
    let found : IsFault t forms.Allocated g fault = subst (IfInvalid (IsFault t forms.Allocated g)) c.in-Err-Invalid.field-0-is (subst (λ r. IfErr r (IfInvalid (IsFault t forms.Allocated g))) c.in-Err-Invalid.is c.verify_allocated.ensures.err) in
    rw c.in-Err-Invalid.field-0-is (tells-invalid t f g fault (first_of t forms.Allocated g fault fits found))
