use Rattle.std.proofs.Common.{drop, take}
use Rattle.rewriter.specs.LiveUnits.{Marks, held_live}
use Rattle.rewriter.specs.declared.live_units.LiveUnits.{LiveUnits}
use Rattle.rewriter.proofs.live_units.LiveUnits.mark_ranges.Given as goal

abbrev pub invariant-each : goal.invariant-each
invariant-each l =
    (y : LiveUnits) → Marks (held_live l.live.target l.live.table l.v (drop l.v (take 4294967296 l.registers))) l.self y
    → Marks (held_live l.live.target l.live.table 0 (take 4294967296 l.registers)) l.initial.self y
