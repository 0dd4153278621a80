-- Over edits in which erased instructions stand, and when these go, the ways between blocks stay those of the function.
use Rattle.std.proofs.Common.{◌∷◌, List, []}
use Rattle.target_base.specs.declared.types.Target.{Target}
use Rattle.mir_func.specs.Value.{Function}
use Rattle.instr_effects.specs.Steps.{Numbering}
use Rattle.live_lanes.specs.declared.compute.flow.BlockFlow.{BlockFlow}
use Rattle.edit_laws.specs.Deferred.{deferred, all_deferred, all_deleted, all_gone, TouchesEdits}
use Rattle.edit_laws.specs.Edits.{Edit, Put, Replace, Erase, KeepsWays}
use Rattle.edit_laws.specs.Reasons.{Touched}
use Rattle.edit_laws.proofs.Numbered.{erased-plain-law}
use Rattle.live_edits.proofs.DraftWays.{HasWays, inserted-ways, replaced-ways, all-deleted-ways}

deferred-ways : (t : Target) (f : Function) (e : Edit) (flow : List BlockFlow) → KeepsWays t f e → HasWays t f flow → HasWays t (deferred f e) flow
deferred-ways t f (Put gap op os) flow keeps w = inserted-ways t f gap op os flow keeps w
deferred-ways t f (Replace id op os) flow keeps w = replaced-ways t f id op os flow keeps w
deferred-ways t f (Erase id) flow keeps w = w

module _ (touched : Touched) (t : Target) (num : Numbering) (flow : List BlockFlow) where
  pub all-deferred-ways : (es : List Edit) (f : Function) → TouchesEdits touched t f num es → HasWays t f flow → HasWays t (all_deferred f es) flow
  all-deferred-ways [] f told w = w
  all-deferred-ways (e ∷ es) f told w = all-deferred-ways es (deferred f e) told.2 (deferred-ways t f e flow told.0 w)

  pub all-erased-ways : (es : List Edit) (f : Function) → TouchesEdits touched t f num es → HasWays t (all_deferred f es) flow → HasWays t (all_deleted (all_deferred f es) (all_gone [] es)) flow
  all-erased-ways es f told w = all-deleted-ways t (all_deferred f es) (all_gone [] es) flow (λ id m gone. erased-plain-law touched t f num es told id m gone) w
