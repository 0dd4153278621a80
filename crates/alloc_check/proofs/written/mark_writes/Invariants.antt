use Rattle.std.proofs.Common.{not, take}
use Rattle.std.specs.List.{list_all}
use Rattle.meaning.specs.Lanes.{same_lane}
use Rattle.alloc_check.specs.Written.{AddsMarks}
use Rattle.alloc_check.proofs.written.mark_writes.Given as goal

abbrev pub invariant-loop-w : goal.invariant-loop-w
invariant-loop-w l = AddsMarks l.fn.marks.items (λ x. list_all (λ w. not (same_lane w.lane x)) (take l.w-index l.writes)) l.marks.items
