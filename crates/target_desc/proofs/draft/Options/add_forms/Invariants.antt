use Rattle.std.proofs.Common.{◌≡◌, fold, take}
use Rattle.target_desc.specs.Adding.{with_form}
use Rattle.target_desc.proofs.draft.Options.add_forms.Given as goal

abbrev pub invariant-loop-form : goal.invariant-loop-form
invariant-loop-form l = l.self ≡ fold with_form l.fn.self (take l.form-index l.forms)
