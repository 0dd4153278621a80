use Rattle.std.proofs.Common.{◌≡◌, ◌∙◌, ℕ, Some, sym}
use Rattle.instr_effects.specs.declared.owner.Owner.TheVariants as owners
use Rattle.instr_effects.specs.Numbered.{number_in}
use Rattle.live_edits.proofs.AsideRows.{takes-none, takes-then}
use Rattle.live_edits.proofs.edit_run.EditRun.take_rows.Goals as goal

pub lanes-init : goal.lanes-init
lanes-init c = takes-none c.args.self.now (λ l. (k : ℕ) × (number_in c.args.self.now.lanes (owners.Range c.args.v k) ≡ Some l))

pub lanes-preserved : goal.lanes-preserved
lanes-preserved c =
    takes-then c.args.self.now c.lanes.self c.take_lane.new.self (λ l. (k : ℕ) × (number_in c.args.self.now.lanes (owners.Range c.args.v k) ≡ Some l)) (λ l. c.lane.result ≡ Some l) c.lanes.invariant c.take_lane.ensures
    (λ l e. (c.lanes.k, sym (c.of_range-own.ensures c.lanes.k) ∙ (sym c.lane.ensures ∙ e)))

pub returns-in_err-take_lane : goal.returns-in_err-take_lane
returns-in_err-take_lane c =
    takes-then c.args.self.now c.lanes.self c.take_lane.new.self (λ l. (k : ℕ) × (number_in c.args.self.now.lanes (owners.Range c.args.v k) ≡ Some l)) (λ l. c.lane.result ≡ Some l) c.lanes.invariant c.take_lane.ensures
    (λ l e. (c.lanes.k, sym (c.of_range-own.ensures c.lanes.k) ∙ (sym c.lane.ensures ∙ e)))
