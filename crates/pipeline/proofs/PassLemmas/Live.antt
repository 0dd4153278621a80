-- What is known of a function that was made ready serves the text of what is live where; its ranges stay few.
use Rattle.std.proofs.Common.{◌≡◌, ◌≤◌, ◌*◌, ◌^◌, ◌∙◌, ℕ, List, length, refl, arith}
use Rattle.std.proofs.lemmas.List.{length-set}
use Rattle.target_base.specs.declared.types.Target.{Target}
use Rattle.mir_func.specs.Value.{Function}
use Rattle.live_edits.specs.declared.fold.Join.{Join}
use Rattle.live_edits.specs.Folded.{joined_class}
use Rattle.phi_elim.specs.Bulk.{bulk}
use Rattle.join_laws.specs.Joined.{Tried, done, joins, stays}
use Rattle.pipeline.specs.declared.passes.ready.PreparedFunc.{PreparedFunc}
use Rattle.pipeline.specs.Passes.Ready.{IsLive, IsPrepared}

-- joins leave as many ranges
pub as-many : (t : Target) {ids : List ℕ} {f : Function} {js : List Join} {g : Function} → Tried t ids f js g → length g.classes ≡ length f.classes
as-many t done = refl
as-many t (joins {f = f} {j = j} join on) = as-many t on ∙ length-set f.classes j.keep (joined_class t f j j.index)
as-many t (stays fails on) = as-many t on

-- h has as many ranges as g, which is f lowered
pub few-ranges : (f g h : Function) → bulk g ≤ 64 * bulk f → bulk f ≤ 2 ^ 24 → length h.classes ≡ length g.classes → length h.classes ≤ 2 ^ 32
few-ranges f g h more small same = omega arith

-- what was made ready is live
pub live_of : (t : Target) (f : Function) (made : PreparedFunc) → IsPrepared t f made → IsLive t made
live_of t f made h = record { computed = h.ready.computed; rules = h.ready.lowered.rules; terminators = h.ready.lowered.terminators; few = h.few }
