use Rattle.std.proofs.Common.{sym, ◌∙◌, ap}
use Rattle.std.specs.Prelude.{option_map}
use Rattle.target_base.specs.Numbers.{op_number}
use Rattle.target_base.specs.Registers.{IsOpcode}
use Rattle.target_base.proofs.Lookups.{taken_there, holds_taken, spill_there}
use Rattle.target_base.proofs.types.Target.spill_op.Goals as goal

pub returns-clause-value : goal.returns-clause-value
returns-clause-value c =
    let v = sym c.spill_at.ensures.value in
    v ∙ ap (option_map (λ o. o.0)) (taken_there c.spill_at.result (op_number 0) c.unwrap_or.result c.unwrap_or.ensures (λ e. spill_there _ _ _ _ _ _ _ _ _ c.args.self.now.sound c.args.c c.requires (v ∙ ap (option_map (λ o. o.0)) e)))

pub returns-clause-there : goal.returns-clause-there
returns-clause-there c =
    let v = sym c.spill_at.ensures.value in
    holds_taken (IsOpcode c.args.self.now) c.spill_at.result (op_number 0) c.unwrap_or.result c.unwrap_or.ensures c.spill_at.ensures.there
    (λ e. spill_there _ _ _ _ _ _ _ _ _ c.args.self.now.sound c.args.c c.requires (v ∙ ap (option_map (λ o. o.0)) e))
