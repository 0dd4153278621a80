use Rattle.std.proofs.Common.{◌≡◌, ℕ, map, take}
use Rattle.std.specs.List.{filter_map}
use Rattle.mir_func.specs.declared.func.Instr.{Instr}
use Rattle.live_lanes.specs.Touching.{FindsInstrs}
use Rattle.evictor.specs.Hints.{assignment_of, hint_at, is_more_frequent}
use Rattle.evictor.proofs.Spots.{spots}
use Rattle.evictor.proofs.Tops.{top}
use Rattle.evictor.proofs.hints.hint.Given as goal

abbrev pub invariant-touched : goal.invariant-touched
invariant-touched l =
    FindsInstrs l.fn.m.live.table l.fn.m.live.func.blocks
    → l.id-items ≡ map (λ (s : ℕ × Instr). s.1.id) (spots l.fn.v 0 l.fn.m.live.func.blocks)
    → l.best ≡ top is_more_frequent (filter_map (hint_at l.fn.m.live.target l.fn.m.live.func (assignment_of l.fn.m) l.fn.freqs l.fn.v) (take l.id-index (spots l.fn.v 0 l.fn.m.live.func.blocks)))
