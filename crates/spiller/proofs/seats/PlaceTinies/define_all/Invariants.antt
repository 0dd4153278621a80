use Rattle.std.proofs.Common.{◌≡◌, ◌++◌, flat_map, map, take}
use Rattle.mir_func.specs.Binding.{numbered}
use Rattle.spiller.specs.Views.{gap_before, own_setting, planned}
use Rattle.spiller.specs.Additions.{definitions_given, own_definitions, with_addition}
use Rattle.spiller.specs.Seating.{defined_tiny}
use Rattle.spiller.proofs.seats.PlaceTinies.define_all.Given as goal

-- the tinies of the instructions so far
abbrev pub invariant-instrs : goal.invariant-instrs
invariant-instrs l =
    let s = own_setting l.view in
    let ds = numbered l.fn.plan.next_range (flat_map (own_definitions s) (take l.instr-index l.instrs)) in
    record {
      reads : l.self.reads ≡ l.fn.self.reads;
      tinies : l.self.definitions.items ≡ l.fn.self.definitions.items ++ map defined_tiny ds;
      plan : planned l.plan ≡ with_addition (definitions_given s (gap_before l.view l.at) l.at ds) (planned l.fn.plan);
    }
