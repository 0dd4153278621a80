-- A run keeps siblings apart.
use Rattle.std.proofs.Common.{sym, ap, subst}
use Rattle.target_base.specs.declared.types.Target.{Target}
use Rattle.mir_func.specs.Value.{Function}
use Rattle.spiller.specs.Slots.{Slots}
use Rattle.run_laws.specs.Form.{IsInRun}
use Rattle.run_laws.specs.Runs as plain
use Rattle.run_laws.proofs.Runs.{step_is_in_run}
use Rattle.clear_laws.specs.Spills.{HasEarlyReload}
use Rattle.clear_laws.proofs.SpillKept.{places_are_kept}
use Rattle.clear_laws.proofs.SpillPoints.{spill_slots_by}
use Rattle.ready_laws.specs.Runs as slotted
use Rattle.sibling_laws.specs.Siblings.{AreSiblingsApart, KnowsOriginals}
use Rattle.sibling_laws.specs.Steps.{IsOriginalsStep, IsReachedFrom, OriginalsStepIsSlotStep, ReachedFromIsReachedWith, RunKeepsSiblings, RunKeepsSlotApart, spills, splits, start, step}
use Rattle.sibling_laws.proofs.FirstSiblings.{first-siblings-apart}
use Rattle.sibling_laws.proofs.SlotsApart.{siblings-give-slot-apart}
use Rattle.sibling_laws.proofs.SpillSiblings.{spill-keeps-siblings}
use Rattle.sibling_laws.proofs.SplitSiblings.{split-keeps-siblings}

pub originals-step-is-slot-step : OriginalsStepIsSlotStep
originals-step-is-slot-step t f g s r (splits v ms h meet z e) = slotted.splits v ms meet z (ap (λ (q : Slots). q.given) e) (ap (λ (q : Slots). q.taken) e)
originals-step-is-slot-step t f g s r (spills v made h z) = slotted.spills v made z

reached : {t : Target} {f : Function} {s : Slots} {g : Function} {r : Slots} → IsReachedFrom t f s g r → slotted.IsReachedWith t f s g r
reached start = slotted.start
reached {t = t} (step {g = g} {h = h} {r = r} {q = q} on z) = slotted.step (reached on) (originals-step-is-slot-step t g h r q z)

pub reached-from-is-reached-with : ReachedFromIsReachedWith
reached-from-is-reached-with t f g s r on = reached on

-- what a run keeps
record Keeps (t : Target) (f : Function) (s : Slots) : Type 0 where
  pub run : IsInRun t f
  pub known : KnowsOriginals f s
  pub apart : AreSiblingsApart t f s

step-keeps : (t : Target) → (HasEarlyReload t → ⊥) → (f g : Function) (s r : Slots) → Keeps t f s → IsOriginalsStep t f s g r → Keeps t g r
step-keeps t late f g s r k (splits v ms h meet z e) =
    let kept = split-keeps-siblings t f g s v ms k.run.lowered h meet z k.known k.apart in
    record {
      run = step_is_in_run t f g k.run (plain.splits v ms meet z);
      known = subst (KnowsOriginals g) (sym e) kept.0;
      apart = subst (AreSiblingsApart t g) (sym e) kept.1;
    }
step-keeps t late f g s r k (spills v made h z) =
    let run = step_is_in_run t f g k.run (plain.spills s r v made z) in
    let points = spill_slots_by places_are_kept t f g s r v made k.run.lowered k.run.instrs k.run.undefs (siblings-give-slot-apart t f s v k.apart h) late z in
    let kept = spill-keeps-siblings t f g s r v made run.lowered h z points k.known k.apart in
    record { run = run; known = kept.0; apart = kept.1 }

keeps : {t : Target} {f : Function} {s : Slots} {g : Function} {r : Slots} → (HasEarlyReload t → ⊥) → Keeps t f s → IsReachedFrom t f s g r → Keeps t g r
keeps late k start = k
keeps {t = t} late k (step {g = g} {h = h} {r = r} {q = q} on z) = step-keeps t late g h r q (keeps late k on) z

pub run-keeps-siblings : RunKeepsSiblings
run-keeps-siblings t f g s r late run known apart on =
    let k = keeps late (record { run = run; known = known; apart = apart }) on in
    (k.run, k.known, k.apart)

pub run-keeps-slot-apart : RunKeepsSlotApart
run-keeps-slot-apart t f g s r v late run none first own on h =
    let begin = first-siblings-apart t f s run.lowered none first own in
    let k = keeps late (record { run = run; known = begin.0; apart = begin.1 }) on in
    siblings-give-slot-apart t g r v k.apart h
