-- What is live where a function begins, behind lowering.
use Rattle.std.specs.Prelude.{◌≡◌, ℕ, true, None, Some, slice_get}
use Rattle.target_base.specs.declared.types.Target.{Target}
use Rattle.meaning.specs.declared.types.Lane.{Lane}
use Rattle.mir_func.specs.declared.func.Block.{Block}
use Rattle.mir_func.specs.Value.{Function}
use Rattle.mir_meaning.specs.declared.Form.TheVariants as forms
use Rattle.mir_meaning.specs.Points.{LiveAt, Start, has_no_phis}
use Rattle.mir_meaning.specs.Valid.{IsValid, shape_fault}
use Rattle.live_laws.specs.Effects.Shaped.{AreClasses}
use Rattle.phi_elim.specs.Phis.{phis_lowered}
use Rattle.two_address.specs.Lowered.{lowered, ties_lowered}
use Rattle.ready_laws.specs.Starts.{ListsStart}

-- what is live at the start of a block in two-address form was live there, where the function has no phi
abbrev pub TiesKeepLive : Type 0
TiesKeepLive =
    (t : Target) (f : Function) → shape_fault t forms.Source f ≡ None → AreClasses t f → has_no_phis t f.blocks ≡ true
    → (n : ℕ) (l : Lane) → LiveAt t (ties_lowered t f) (Start n) l → LiveAt t f (Start n) l

-- what is live where a valid source begins without its phis was live there
abbrev pub PhisKeepStart : Type 0
PhisKeepStart =
    (t : Target) (f : Function) → IsValid t forms.Source f → (b : Block) → slice_get f.blocks 0 ≡ Some b
    → (l : Lane) → LiveAt t (phis_lowered t f) (Start b.number) l → LiveAt t f (Start b.number) l

-- so at the start of a valid source, lowered, no range is live, and its first block lists the units that are
abbrev pub LoweredIsListed : Type 0
LoweredIsListed = (t : Target) (f : Function) → IsValid t forms.Source f → AreClasses t f → ListsStart t (lowered t f)
