use Rattle.std.proofs.Common.{◌≡◌, ℕ, Some, inl, inr}
use Rattle.instr_effects.specs.declared.owner.Owner.TheVariants as owners
use Rattle.instr_effects.specs.Numbered.{number_in}
use Rattle.live_edits.specs.declared.edit_run.EditRun.{EditRun}
use Rattle.live_edits.proofs.AsideRows.{takes-none}
use Rattle.live_edits.proofs.edit_run.EditRun.clear_rows.Goals as goal

abbrev TakenOf : EditRun → ℕ → ℕ → Type 0
TakenOf r v l = (k : ℕ) × (number_in r.lanes (owners.Range v k) ≡ Some l)

pub returns-in_err-may_go-clause-takes : goal.returns-in_err-may_go-clause-takes
returns-in_err-may_go-clause-takes c = takes-none c.args.self.now (TakenOf c.args.self.now c.args.v)

pub returns-in_err-may_go-clause-leaves : goal.returns-in_err-may_go-clause-leaves
returns-in_err-may_go-clause-leaves c = λ l e. inl e

pub returns-then-branch-clause-leaves : goal.returns-then-branch-clause-leaves
returns-then-branch-clause-leaves c = λ l e. inr (c.in_ok-may_go.ensures c.if-branch.true)

pub returns-clause-takes : goal.returns-clause-takes
returns-clause-takes c = takes-none c.args.self.now (TakenOf c.args.self.now c.args.v)

pub returns-clause-leaves : goal.returns-clause-leaves
returns-clause-leaves c = λ l e. inl e
