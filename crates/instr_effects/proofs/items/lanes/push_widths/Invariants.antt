use Rattle.std.proofs.Common.{◌≡◌, ◌++◌, drop}
use Rattle.target_base.specs.Storage.{widths}
use Rattle.instr_effects.proofs.items.lanes.push_widths.Given as goal

abbrev pub invariant-loop-u : goal.invariant-loop-u
invariant-loop-u l = l.out ++ widths l.units (drop l.u-index l.us) ≡ l.initial.out ++ widths l.units l.us
