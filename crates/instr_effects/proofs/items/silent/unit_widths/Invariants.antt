use Rattle.std.proofs.Common.{◌≡◌, [], drop}
use Rattle.mir_meaning.specs.Items.{widths_once}
use Rattle.instr_effects.proofs.items.silent.unit_widths.Given as goal

abbrev pub invariant-loop-d : goal.invariant-loop-d
invariant-loop-d l = widths_once l.made (drop l.d-index l.d-items) ≡ widths_once [] l.t.units
