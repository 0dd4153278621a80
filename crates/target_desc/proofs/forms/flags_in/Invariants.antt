use Rattle.std.proofs.Common.{◌≡◌, length}
use Rattle.target_desc.specs.Text.{words}
use Rattle.target_desc.specs.Forms.{flags_in}
use Rattle.target_desc.proofs.Onto.{onto}
use Rattle.target_desc.proofs.forms.flags_in.Given as goal

abbrev pub invariant-words : goal.invariant-words
invariant-words l = flags_in (words l.text) ≡ onto l.flags (flags_in (words l.rest))

abbrev pub decreases-words : goal.decreases-words
decreases-words l = length l.rest
