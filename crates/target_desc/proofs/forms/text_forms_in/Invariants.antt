use Rattle.std.proofs.Common.{◌≡◌, length}
use Rattle.target_desc.specs.Text.{words}
use Rattle.target_desc.specs.Forms.{text_forms_of}
use Rattle.target_desc.proofs.Onto.{onto}
use Rattle.target_desc.proofs.forms.text_forms_in.Given as goal

abbrev pub invariant-words : goal.invariant-words
invariant-words l = text_forms_of (words l.text) ≡ onto l.forms (text_forms_of (words l.rest))

abbrev pub decreases-words : goal.decreases-words
decreases-words l = length l.rest
