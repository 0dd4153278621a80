use Rattle.std.proofs.Common.{◌≡◌, ◌≤◌, ◌+◌, ◌*◌, ◌-◌, ◌^◌, ◌++◌, min, length, take, drop}
use Rattle.phi_elim.specs.Phis.{arrivals_of, arrivals_in, all_instrs, phi_count, all_in_place, arriving_at, lowered_blocks, incoming_class}
use Rattle.std.specs.List.{flat_map}
use Rattle.phi_elim.proofs.phis.push_classes.Given as goal

abbrev pub invariant-each : goal.invariant-each
invariant-each l = l.made.items ++ flat_map (incoming_class l.target l.classes) (drop l.i-index l.instrs) ≡ l.fn.made.items ++ flat_map (incoming_class l.target l.classes) l.instrs
