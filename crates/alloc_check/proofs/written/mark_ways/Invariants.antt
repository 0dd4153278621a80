use Rattle.std.proofs.Common.{take}
use Rattle.std.specs.List.{list_all}
use Rattle.alloc_check.specs.Written.{AddsMarks, way_leaves}
use Rattle.alloc_check.proofs.written.mark_ways.Given as goal

abbrev pub invariant-loop-e : goal.invariant-loop-e
invariant-loop-e l = AddsMarks l.fn.marks.items (λ x. list_all (way_leaves x) (take l.e-index l.ways)) l.marks.items
