use Rattle.std.proofs.Common.{◌≡◌, ◌≤◌, ◌+◌, ◌*◌, ◌-◌, ◌^◌, ◌++◌, min, length, take, drop}
use Rattle.phi_elim.specs.Phis.{arrivals_of, arrivals_in, all_instrs, phi_count, all_in_place, arriving_at, lowered_blocks, incoming_class}
use Rattle.std.specs.List.{flat_map}
use Rattle.phi_elim.proofs.phis.incoming_classes.Given as goal

abbrev pub invariant-layout : goal.invariant-layout
invariant-layout l = l.made.items ++ flat_map (incoming_class l.target l.classes) (all_instrs (drop l.b-index l.blocks)) ≡ flat_map (incoming_class l.target l.classes) (all_instrs l.blocks)
