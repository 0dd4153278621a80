use Rattle.std.proofs.Common.{◌≡◌, ◌++◌, flat_map, filter_map, take, not, ◌&&◌}
use Rattle.instr_effects.specs.Acts.{use_owners}
use Rattle.instr_effects.specs.Numbered.{number_in}
use Rattle.instr_effects.specs.Runs.{of_kind}
use Rattle.instr_effects.proofs.effects.EffectReader.read_explicits.Given as goal

abbrev pub invariant-operands : goal.invariant-operands
invariant-operands l = l.reads.items ≡ l.fn.reads.items ++ flat_map (of_kind (λ o. not o.def && not o.implicit) (λ o. filter_map (number_in l.self.lanes.now) (use_owners l.self.target.now l.self.func.now o))) (take l.operand-index l.operands)
