-- A prepared function is in order, and stays so step by step.
use Rattle.std.specs.Prelude.{◌≡◌, ℕ, None}
use Rattle.target_base.specs.declared.types.Target.{Target}
use Rattle.mir_func.specs.Value.{Function}
use Rattle.two_address.specs.Lowered.{lowered}
use Rattle.spiller.specs.Slots.{Slots}
use Rattle.spill_laws.proofs.InTurn.{form_has_plain_undefs}
use Rattle.run_laws.proofs.Runs.{lowered_is_in_run}
use Rattle.rewriter.specs.Physical.{Assignment, register_of}
use Rattle.clear_laws.specs.Apart.{IsApart}
use Rattle.clear_laws.specs.Spills.{HasEarlyReload}
use Rattle.clear_laws.proofs.Registers.{assign_apart, nothing_apart, unassign_apart}
use Rattle.clear_laws.proofs.SplitPoints.{split_apart}
use Rattle.clear_laws.proofs.SpillKept.{places_are_kept}
use Rattle.clear_laws.proofs.SpillPoints.{spill_apart, spill_points_by}
use Rattle.clear_laws.proofs.Starts.{spill_starts_by}
use Rattle.ready_laws.specs.Starts.{ListsStart}
use Rattle.ready_laws.proofs.JoinStarts.{joined-keeps-listed}
use Rattle.ready_laws.proofs.Listed.{spill-keeps-listed}
use Rattle.ready_laws.proofs.LoweredStarts.{lowered-is-listed}
use Rattle.ready_laws.proofs.NoSlots.{joined-has-no-slots, lowered-has-no-slots}
use Rattle.ready_laws.proofs.Runs.{joined-is-ready, step-keeps-ready}
use Rattle.ready_laws.proofs.SplitStarts.{split-keeps-listed}
use Rattle.sibling_laws.specs.Steps.{IsOriginalsStep}
use Rattle.sibling_laws.specs.Steps as runs
use Rattle.sibling_laws.proofs.FirstSiblings.{first-siblings-apart}
use Rattle.sibling_laws.proofs.Runs.{originals-step-is-slot-step, run-keeps-siblings}
use Rattle.sibling_laws.proofs.SlotsApart.{siblings-give-slot-apart}
use Rattle.run_end_laws.specs.Allocating.{IsAllocating, assigns, spills, splits, start, step, unassigns}
use Rattle.run_end_laws.specs.States.{AllocatingKeepsState, KeepsState, PreparedKeepsState, StepKeepsState}

pub prepared-keeps-state : PreparedKeepsState
prepared-keeps-state t freqs source f js s rs x none =
    let run = lowered_is_in_run t source x.valid x.classes x.block in
    let ready = joined-is-ready t freqs source f js s x.valid x.classes x.block x.joined x.first in
    let begin = first-siblings-apart t f s ready.run.lowered (joined-has-no-slots t freqs (lowered t source) f js x.joined (lowered-has-no-slots t source x.valid x.block)) x.first x.own in
    record {
      ready = ready;
      known = begin.0;
      siblings = begin.1;
      registers = nothing_apart t f rs none;
      start = joined-keeps-listed t freqs (lowered t source) f js run.lowered (form_has_plain_undefs t (lowered t source) run.instrs) x.joined (lowered-is-listed t source x.valid x.classes);
    }

-- a step of a run, of whatever kind, where registers and the start are kept
edited : (t : Target) (f g : Function) (s r : Slots) (rs new : Assignment) → (HasEarlyReload t → ⊥) → KeepsState t f s rs → IsOriginalsStep t f s g r → IsApart t g new → ListsStart t g → KeepsState t g r new
edited t f g s r rs new p k z registers begin =
    let kept = run-keeps-siblings t f g s r p k.ready.run k.known k.siblings (runs.step runs.start z) in
    record {
      ready = step-keeps-ready t f g s r k.ready (originals-step-is-slot-step t f g s r z);
      known = kept.1;
      siblings = kept.2;
      registers = registers;
      start = begin;
    }

pub step-keeps-state : StepKeepsState
step-keeps-state t f g s r rs new p k (assigns v x free c) = record {
  ready = k.ready;
  known = k.known;
  siblings = k.siblings;
  registers = assign_apart t f rs new v x k.registers free.suits free.ranges free.units c;
  start = k.start;
}
step-keeps-state t f g s r rs new p k (unassigns v c) = record {
  ready = k.ready;
  known = k.known;
  siblings = k.siblings;
  registers = unassign_apart t f rs new v k.registers c;
  start = k.start;
}
step-keeps-state t f g s r rs new p k (splits v ms left meet z e) =
    edited t f g s r rs new p k (runs.splits v ms left.inside meet z e)
    (split_apart t f g v ms rs new k.ready.run.lowered meet z left.none left.others k.registers)
    (split-keeps-listed t f g v ms k.ready.run.lowered meet z k.start)
step-keeps-state t f g s r rs new p k (spills v made left z) =
    let run = k.ready.run in
    let apart = siblings-give-slot-apart t f s v k.siblings left.inside in
    edited t f g s r rs new p k (runs.spills v made left.inside z)
    (spill_apart (spill_points_by places_are_kept) t f g s r v made rs new run.lowered run.instrs run.undefs apart z left.none left.others k.registers)
    (spill-keeps-listed t f g s r v made z (spill_starts_by places_are_kept t f g s r v made run.lowered run.instrs run.undefs apart z) k.start)

keeps : {t : Target} {f : Function} {s : Slots} {g : Function} {r : Slots} {rs : Assignment} → (HasEarlyReload t → ⊥) → ((ns : Assignment) → ((v : ℕ) → register_of ns v ≡ None) → KeepsState t f s ns) → IsAllocating t f s g r rs → KeepsState t g r rs
keeps {rs = rs} p begin (start none) = begin rs none
keeps {t = t} {rs = new} p begin (step {g = g} {h = h} {r = r} {q = q} {rs = rs} on z) = step-keeps-state t g h r q rs new p (keeps p begin on) z

pub allocating-keeps-state : AllocatingKeepsState
allocating-keeps-state t freqs source f g js s r rs p x on = keeps p (λ ns none. prepared-keeps-state t freqs source f js s ns x none) on
