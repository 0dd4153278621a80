-- Refusals, and why a piece spells no document.
use Rattle.std.specs.Prelude.{◌≡◌, List, ℕ, Some, None, length}
use Rattle.std.specs.Fmt.{decimal}
use Rattle.target_base.specs.declared.types.Target.{Target}
use Rattle.mir_text.specs.Document.{FaultOf}
use Rattle.ra_top.specs.declared.commands.refusal.Refusal.{Refusal}
use Rattle.ra_top.specs.declared.commands.refusal.Refusal.TheVariants as refusals
use Rattle.ra_top.specs.declared.commands.spot.DocStart.{DocStart}
use Rattle.ra_top.specs.declared.commands.status.Status.{Status}
use Rattle.ra_top.specs.declared.commands.status.Status.TheVariants as status
use Rattle.ra_top.specs.Commands.Spot.{length_fault}
use Rattle.ra_top.specs.Commands.Answer.{is_first}

-- a refusal by a status says this; one for want of memory says nothing
abbrev pub IfBy : (Status → List ℕ → Type 0) → Refusal → Type 0
IfBy R (refusals.By s detail) = R s detail
IfBy R (refusals.Memory e) = Unit {0}

-- the refusal is for want of memory
abbrev pub IsOfMemory : Refusal → Type 0
IsOfMemory (refusals.By s detail) = ⊥
IsOfMemory (refusals.Memory e) = Unit {0}

-- a piece passes a limit on lengths; or within them it spells no document, at the line of its fault
abbrev pub IsUnspelled : Target → DocStart → List ℕ → Status → List ℕ → Type 0
IsUnspelled t spot piece (status.Limit limit) detail = length_fault spot.offset (length piece) ≡ Some limit
IsUnspelled t spot piece (status.Text fault) detail =
    (length_fault spot.offset (length piece) ≡ None) × FaultOf t (is_first spot) spot.line piece fault × (detail ≡ decimal fault.line)
IsUnspelled t spot piece s detail = ⊥
