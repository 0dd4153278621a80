use Rattle.std.proofs.Common.{◌≡◌, length}
use Rattle.target_desc.specs.Text.{words}
use Rattle.target_desc.specs.Forms.{roles_of}
use Rattle.target_desc.proofs.Onto.{onto}
use Rattle.target_desc.proofs.forms.roles_in.Given as goal

abbrev pub invariant-words : goal.invariant-words
invariant-words l = roles_of (words l.text) ≡ onto l.roles (roles_of (words l.rest))

abbrev pub decreases-words : goal.decreases-words
decreases-words l = length l.rest
