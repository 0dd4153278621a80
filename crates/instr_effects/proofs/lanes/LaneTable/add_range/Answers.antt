use Rattle.std.proofs.Common.{◌≡◌, ◌∙◌, [], length, ap, refl, arith}
use Rattle.std.proofs.lemmas.Grind.{common_steps}
use Rattle.mir_meaning.specs.Registers.{numbers}
use Rattle.instr_effects.specs.declared.owner.Owner.TheVariants as owners
use Rattle.instr_effects.proofs.Tables.{map-long, numbers-long, with-range, with-owners, range-keeps}
use Rattle.instr_effects.proofs.lanes.LaneTable.add_range.Goals as goal

pub returns-clause-table : goal.returns-clause-table
returns-clause-table c =
    λ h. with-range c.args.self.now _ c.in_ok-lanes.lanes c.args.count h (grind (arith, common_steps)) (grind (arith, common_steps)) (grind (arith, common_steps)) (grind (arith, common_steps)) refl (λ s. refl)

pub returns-clause-numbers : goal.returns-clause-numbers
returns-clause-numbers c =
    range-keeps c.args.self.now (record { owners = c.extend_from_slice.new.self; reserved = c.args.self.now.reserved; ranges = c.push.new.self; slots = c.args.self.now.slots }) c.in_ok-lanes.lanes (grind (arith, common_steps)) refl (λ s. refl)

pub returns-in_err-extend_from_slice-clause-table : goal.returns-in_err-extend_from_slice-clause-table
returns-in_err-extend_from_slice-clause-table c =
    λ h. with-owners c.args.self.now _ [] h (grind (arith, common_steps)) refl refl (λ s. refl)

pub returns-in_err-push-clause-table : goal.returns-in_err-push-clause-table
returns-in_err-push-clause-table c =
    λ h. with-owners c.args.self.now _ c.in_ok-own.own.items h (grind (arith, common_steps)) refl (grind (arith, common_steps)) (λ s. refl)

pub returns-clause-numbered : goal.returns-clause-numbered
returns-clause-numbered c =
    let own = c.in_ok-lanes.lanes in
    let first : own.first ≡ length c.args.self.now.owners.items = grind (arith, common_steps) in
    let long : own.count ≡ c.args.count = grind (arith, common_steps) in
    let listed : length c.in_ok-own.own.items ≡ c.args.count = ap length c.in_ok-own.ensures ∙ (map-long (owners.Range c.in-Ok.v) (numbers 0 c.args.count) ∙ numbers-long 0 c.args.count) in
    record {
      own = own;
      ranges = grind (arith, common_steps);
      first = first;
      long = long;
      owned = grind (arith, common_steps);
      few = let whole = c.in_ok-extend_from_slice.ensures.len in let slice = c.as_slice.ensures.len in omega (arith, own.fits, first, long, listed, whole, slice);
    }
