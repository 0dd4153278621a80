use Rattle.std.proofs.Common.{length, arith}
use Rattle.std.proofs.lemmas.Grind.{common_steps}
use Rattle.instr_effects.proofs.Tables.{of-units, reserved-long}
use Rattle.instr_effects.proofs.lanes.LaneTable.of_units.Goals as goal

pub returns-clause-table : goal.returns-clause-table
returns-clause-table c =
    of-units _ (length c.args.target.now.units) (grind (arith, common_steps)) (reserved-long c.args.target.now _ c.in_ok-reserved.ensures) (grind (arith, common_steps)) (λ s. grind (arith, common_steps))
