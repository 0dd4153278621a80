use Rattle.std.proofs.Common.{◌≡◌, drop}
use Rattle.meaning.specs.Facts.{all_known, known_at_start}
use Rattle.mir_meaning.specs.Codes.{given_of}
use Rattle.alloc_check.proofs.start.all_start.Given as goal

abbrev pub invariant-loop-fact : goal.invariant-loop-fact
invariant-loop-fact l = all_known (known_at_start (given_of l.t l.f) (given_of l.t l.g)) (drop l.fact-index l.facts) ≡ all_known (known_at_start (given_of l.t l.f) (given_of l.t l.g)) l.facts
