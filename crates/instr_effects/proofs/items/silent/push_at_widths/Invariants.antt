use Rattle.std.proofs.Common.{◌≡◌, ◌++◌, drop, map}
use Rattle.meaning.specs.declared.types.Lane.TheVariants.{SlotLane}
use Rattle.instr_effects.proofs.items.silent.push_at_widths.Given as goal

abbrev pub invariant-loop-w : goal.invariant-loop-w
invariant-loop-w l = l.out ++ map (λ w. SlotLane l.s l.k w) (drop l.w-index l.widths) ≡ l.initial.out ++ map (λ w. SlotLane l.s l.k w) l.widths
