use Rattle.std.proofs.Common.{◌≡◌, ℕ, List, Some, subst}
use Rattle.std.proofs.lemmas.Result.{IfOk-weaker}
use Rattle.instr_effects.specs.declared.owner.Owner.TheVariants as owners
use Rattle.instr_effects.specs.Numbered.{number_in}
use Rattle.live_edits.specs.declared.edit.Edit.{Edit as CodeEdit}
use Rattle.live_edits.specs.declared.edit_run.EditRun.{EditRun}
use Rattle.live_edits.specs.EditedRuns.{ClearsRange}
use Rattle.live_edits.specs.Runs.{edits_of}
use Rattle.live_edits.proofs.EditedParts.{logged-none, may-start}
use Rattle.live_edits.proofs.edit_run.EditRun.try_all_of.Goals as goal

abbrev TakenOf : EditRun → ℕ → ℕ → Type 0
TakenOf r v l = (k : ℕ) × (number_in r.lanes (owners.Range v k) ≡ Some l)

pub returns-in_err-clear_range-clause-logged : goal.returns-in_err-clear_range-clause-logged
returns-in_err-clear_range-clause-logged c = λ may.
    let t = c.args.target.now in
    let es = edits_of c.args.edits.items in
    let old = c.args.self.now in
    let cleared = c.clear_range.new.self in
    let clears = c.clear_range.ensures.clears in
    record { cleared = cleared; range = clears.range; takes = clears.takes; logged = logged-none t es cleared (may-start t es old cleared (TakenOf old clears.range) may clears.takes) }

pub returns-clause-logged : goal.returns-clause-logged
returns-clause-logged c = λ may.
    let t = c.args.target.now in
    let es = edits_of c.args.edits.items in
    let old = c.args.self.now in
    let cleared = c.clear_range.new.self in
    let clears = c.clear_range.ensures.clears in
    record { cleared = cleared; range = clears.range; takes = clears.takes; logged = c.try_all.ensures.logged (may-start t es old cleared (TakenOf old clears.range) may clears.takes) }

pub returns-clause-done : goal.returns-clause-done
returns-clause-done c =
    let t = c.args.target.now in
    let es = edits_of c.args.edits.items in
    let old = c.args.self.now in
    let cleared = c.clear_range.new.self in
    let clears = subst (λ (xs : List CodeEdit). ClearsRange (edits_of xs) old cleared) c.as_slice.ensures.value c.clear_range.ensures.clears in
    IfOk-weaker c.try_all.result _ _
    (λ made done may. record {
      cleared = cleared;
      clears = clears;
      done = done (may-start t es old cleared (TakenOf old clears.range) may clears.takes);
    })
    c.try_all.ensures.done

pub returns-clause-told : goal.returns-clause-told
returns-clause-told c =
    let t = c.args.target.now in
    let es = edits_of c.args.edits.items in
    let old = c.args.self.now in
    let cleared = c.clear_range.new.self in
    let clears = subst (λ (xs : List CodeEdit). ClearsRange (edits_of xs) old cleared) c.as_slice.ensures.value c.clear_range.ensures.clears in
    IfOk-weaker c.try_all.result _ _
    (λ made told may. record {
      cleared = cleared.rows.rows.rows.items;
      kept = c.clear_range.ensures.kept may.fresh.aside;
      changed = told (may-start t es old cleared (TakenOf old clears.range) may clears.takes);
    })
    c.try_all.ensures.told
