use Rattle.std.proofs.Common.{◌≡◌, ◌++◌, drop, map, flat_map}
use Rattle.meaning.specs.declared.types.Lane.TheVariants.{SlotLane}
use Rattle.instr_effects.proofs.items.silent.at_widths.Given as goal

abbrev pub invariant-loop-k : goal.invariant-loop-k
invariant-loop-k l =
    l.made ++ flat_map (λ k. map (λ w. SlotLane l.s k w) l.widths) (drop l.k-index l.lanes) ≡ flat_map (λ k. map (λ w. SlotLane l.s k w) l.widths) l.lanes
