use Rattle.std.proofs.Common.{◌≡◌, ◌++◌, flat_map, take, map, ◌&&◌, false}
use Rattle.instr_effects.specs.Owners.{operand_owners}
use Rattle.instr_effects.specs.Acts.{plain}
use Rattle.instr_effects.specs.Numbered.{number_in}
use Rattle.instr_effects.specs.Steps.{act_writings}
use Rattle.instr_effects.specs.Runs.{of_kind}
use Rattle.instr_effects.proofs.effects.EffectReader.write_implicits.Given as goal

abbrev pub invariant-operands : goal.invariant-operands
invariant-operands l = l.writes.items ≡ l.fn.writes.items ++ flat_map (of_kind (λ o. o.implicit && o.def) (λ o. act_writings (number_in l.self.lanes.now) (map (plain false) (operand_owners l.self.target.now l.self.func.now o)))) (take l.operand-index l.operands)
