use Rattle.std.proofs.Common.{◌≡◌, ◌++◌, map, length}
use Rattle.instr_effects.specs.Ends.{pairs_of}
use Rattle.instr_effects.specs.Numbered.{number_in}
use Rattle.instr_effects.specs.Steps.{phi_read_of, seen_read}
use Rattle.instr_effects.proofs.effects.EffectReader.pair_reads.Given as goal

abbrev pub invariant-pairs : goal.invariant-pairs
invariant-pairs l = map seen_read l.reads.items ++ map (phi_read_of l.self.target.now l.self.func.now (number_in l.self.lanes.now)) (pairs_of l.rest) ≡ map (phi_read_of l.self.target.now l.self.func.now (number_in l.self.lanes.now)) (pairs_of l.operands)

abbrev pub decreases-pairs : goal.decreases-pairs
decreases-pairs l = length l.rest
