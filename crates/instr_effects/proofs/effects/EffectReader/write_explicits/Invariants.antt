use Rattle.std.proofs.Common.{◌≡◌, ◌++◌, flat_map, drop}
use Rattle.mir_func.specs.Binding.{definitions}
use Rattle.instr_effects.specs.Acts.{result_acts}
use Rattle.instr_effects.specs.Numbered.{number_in}
use Rattle.instr_effects.specs.Steps.{act_writings}
use Rattle.instr_effects.proofs.effects.EffectReader.write_explicits.Given as goal

abbrev pub invariant-operands : goal.invariant-operands
invariant-operands l =
    l.writes.items ++ flat_map (λ d. act_writings (number_in l.self.lanes.now) (result_acts l.self.target.now l.self.func.now d.0 d.1)) (definitions l.left (drop l.operand-index l.operands))
    ≡ l.fn.writes.items ++ flat_map (λ d. act_writings (number_in l.self.lanes.now) (result_acts l.self.target.now l.self.func.now d.0 d.1)) (definitions l.roles l.operands)
