use Rattle.std.proofs.Common.{[], refl, arith}
use Rattle.std.proofs.lemmas.Grind.{common_steps}
use Rattle.instr_effects.proofs.Tables.{with-slot, with-owners, slot-keeps}
use Rattle.instr_effects.proofs.lanes.LaneTable.new_slot.Goals as goal

pub returns-clause-table : goal.returns-clause-table
returns-clause-table c =
    λ n h. with-slot c.args.self.now _ c.in_ok-lanes.lanes c.args.slot h n (grind (arith, common_steps)) (grind (arith, common_steps)) (grind (arith, common_steps)) refl refl (grind (arith, common_steps, c.in_ok-insert.ensures.updates.1)) (λ s o. grind (arith, common_steps, c.in_ok-insert.ensures.updates.0 s))

pub returns-clause-numbers : goal.returns-clause-numbers
returns-clause-numbers c =
    λ n. slot-keeps c.args.self.now (record { owners = c.extend_from_slice.new.self; reserved = c.args.self.now.reserved; ranges = c.args.self.now.ranges; slots = c.insert.new.self }) c.args.slot n refl refl (λ s o. grind (arith, common_steps, c.in_ok-insert.ensures.updates.1, c.in_ok-insert.ensures.updates.0 s))

pub returns-in_err-extend_from_slice-clause-table : goal.returns-in_err-extend_from_slice-clause-table
returns-in_err-extend_from_slice-clause-table c =
    λ n h. with-owners c.args.self.now _ [] h (grind (arith, common_steps)) refl refl (λ s. refl)

pub returns-in_err-insert-clause-table : goal.returns-in_err-insert-clause-table
returns-in_err-insert-clause-table c =
    λ n h. with-owners c.args.self.now _ c.in_ok-own.own.items h (grind (arith, common_steps)) refl refl (λ s. grind (arith, common_steps))
