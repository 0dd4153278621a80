-- Each step keeps what the function does.
use Rattle.std.specs.Prelude.{◌≡◌, ℕ, None}
use Rattle.target_base.specs.declared.types.Target.{Target}
use Rattle.laws.proofs.Refines.{refines_refl, refines_trans}
use Rattle.mir_func.specs.Value.{Function}
use Rattle.mir_meaning.specs.Codes.{meaning_of, refines}
use Rattle.two_address.specs.Lowered.{lowered}
use Rattle.lowering_laws.proofs.Both.{lowered_refine}
use Rattle.join_laws.proofs.Trying.{joined_refines}
use Rattle.spiller.specs.Slots.{Slots}
use Rattle.spill_laws.proofs.InTurn.{form_has_plain_undefs}
use Rattle.spill_laws.proofs.Refining.{spill_refines}
use Rattle.split_laws.proofs.Splitting.{split_refines}
use Rattle.run_laws.proofs.Runs.{lowered_is_in_run}
use Rattle.rewriter.specs.Physical.{Assignment, register_of}
use Rattle.clear_laws.specs.Spills.{HasEarlyReload}
use Rattle.sibling_laws.proofs.SlotsApart.{siblings-give-slot-apart}
use Rattle.run_end_laws.specs.Allocating.{IsAllocating, assigns, spills, splits, start, step, unassigns}
use Rattle.run_end_laws.specs.States.{AllocatingRefines, KeepsState, StepRefines}
use Rattle.run_end_laws.proofs.States.{prepared-keeps-state, step-keeps-state}

pub step-refines : StepRefines
step-refines t f g s r rs new k (assigns v x free c) = refines_refl (meaning_of t f)
step-refines t f g s r rs new k (unassigns v c) = refines_refl (meaning_of t f)
step-refines t f g s r rs new k (splits v ms left meet z e) = split_refines t f g v ms k.ready.run.lowered meet z
step-refines t f g s r rs new k (spills v made left z) =
    let run = k.ready.run in
    spill_refines t f g s r v made run.lowered run.instrs run.undefs (siblings-give-slot-apart t f s v k.siblings left.inside) z

-- a state of an allocation, with what its function does
record Does (t : Target) (f g : Function) (r : Slots) (rs : Assignment) : Type 0 where
  pub state : KeepsState t g r rs
  pub same : refines t f g

does : {t : Target} {f : Function} {s : Slots} {g : Function} {r : Slots} {rs : Assignment} → (HasEarlyReload t → ⊥) → ((ns : Assignment) → ((v : ℕ) → register_of ns v ≡ None) → KeepsState t f s ns) → IsAllocating t f s g r rs → Does t f g r rs
does {t = t} {f = f} {rs = rs} p begin (start none) = record { state = begin rs none; same = refines_refl (meaning_of t f) }
does {t = t} {f = f} {rs = new} p begin (step {g = g} {h = h} {r = r} {q = q} {rs = rs} on z) =
    let d = does p begin on in
    record {
      state = step-keeps-state t g h r q rs new p d.state z;
      same = refines_trans (meaning_of t f) (meaning_of t g) (meaning_of t h) d.same (step-refines t g h r q rs new d.state z);
    }

pub allocating-refines : AllocatingRefines
allocating-refines t freqs source f g js s r rs p x on =
    let run = lowered_is_in_run t source x.valid x.classes x.block in
    let joined = joined_refines t freqs (lowered t source) f js run.lowered (form_has_plain_undefs t (lowered t source) run.instrs) x.joined in
    let allocated = does p (λ ns none. prepared-keeps-state t freqs source f js s ns x none) on in
    refines_trans (meaning_of t source) (meaning_of t (lowered t source)) (meaning_of t g) (lowered_refine t source x.valid x.classes)
    (refines_trans (meaning_of t (lowered t source)) (meaning_of t f) (meaning_of t g) joined.0 allocated.same)
