use Rattle.std.proofs.Common.{◌≡◌, ℕ, Some, inl, sym, subst}
use Rattle.instr_effects.specs.declared.owner.Owner.TheVariants as owners
use Rattle.instr_effects.specs.Numbered.{number_in}
use Rattle.live_edits.specs.declared.edit_run.EditRun.{EditRun}
use Rattle.live_edits.specs.ToldRuns.{KeepsOtherRows}
use Rattle.live_edits.proofs.AsideRows.{takes-none}
use Rattle.live_edits.proofs.ToldRuns.{others-kept}
use Rattle.live_edits.proofs.edit_run.EditRun.clear_range.Goals as goal

abbrev TakenOf : EditRun → ℕ → ℕ → Type 0
TakenOf r v l = (k : ℕ) × (number_in r.lanes (owners.Range v k) ≡ Some l)

pub returns-in-Some-clause-clears : goal.returns-in-Some-clause-clears
returns-in-Some-clause-clears c = record { range = c.in-Some.v; takes = c.clear_rows.ensures.takes; leaves = c.clear_rows.ensures.leaves }

-- no rows are taken away
pub returns-in-None-clause-clears : goal.returns-in-None-clause-clears
returns-in-None-clause-clears c = record { range = 0; takes = takes-none c.args.self.now (TakenOf c.args.self.now 0); leaves = λ l e. inl e }

pub returns-in-Some-clause-kept : goal.returns-in-Some-clause-kept
returns-in-Some-clause-kept c = λ none. subst (KeepsOtherRows c.args.self.now c.clear_rows.new.self.rows.rows.rows.items) (sym c.in-Some.is) (others-kept c.args.self.now c.clear_rows.new.self c.in-Some.v c.clear_rows.ensures.takes none)
