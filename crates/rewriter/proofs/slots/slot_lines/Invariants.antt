use Rattle.std.proofs.Common.{◌≡◌, ◌++◌, drop}
use Rattle.std.specs.Prelude.{flat_map}
use Rattle.rewriter.specs.Head.{slot_line}
use Rattle.rewriter.proofs.slots.slot_lines.Given as goal

abbrev pub invariant-slots : goal.invariant-slots
invariant-slots l = l.lines ++ flat_map (slot_line l.target) (drop l.k l.slots) ≡ flat_map (slot_line l.target) l.slots
