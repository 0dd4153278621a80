use Rattle.std.proofs.Common.{◌≡◌, ◌++◌, drop, map}
use Rattle.std.specs.Prelude.{filter_map}
use Rattle.mir_func.specs.Binding.{explicit_bound, explicit_roles, numbered}
use Rattle.spiller.specs.Spilled.{own_definition}
use Rattle.spiller.specs.Views.{gap_before, own_setting, planned}
use Rattle.spiller.specs.Additions.{definitions_given, own_definitions, with_addition}
use Rattle.spiller.specs.Seating.{defined_tiny}
use Rattle.spiller.proofs.seats.PlaceTinies.define.Given as goal

-- the tinies so far and what is planned, with those of the operands that are left
abbrev pub invariant-operands : goal.invariant-operands
invariant-operands l =
    let s = own_setting l.view in
    let left = filter_map (own_definition s l.instr) (numbered l.number (explicit_bound (explicit_roles l.roles) (drop l.number l.instr.operands))) in
    record {
      reads : l.self.reads ≡ l.fn.self.reads;
      tinies : l.self.definitions.items ++ map defined_tiny (numbered l.plan.next_range left) ≡ l.fn.self.definitions.items ++ map defined_tiny (numbered l.fn.plan.next_range (own_definitions s l.instr));
      plan : with_addition (definitions_given s (gap_before l.view l.at) l.at (numbered l.plan.next_range left)) (planned l.plan) ≡ with_addition (definitions_given s (gap_before l.view l.at) l.at (numbered l.fn.plan.next_range (own_definitions s l.instr))) (planned l.fn.plan);
    }
