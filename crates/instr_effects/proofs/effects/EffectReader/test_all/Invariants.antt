use Rattle.std.proofs.Common.{◌≡◌, ◌++◌, flat_map, filter_map, take, not, ◌&&◌}
use Rattle.instr_effects.specs.Acts.{flag_owners, takes_some}
use Rattle.instr_effects.specs.Numbered.{number_in}
use Rattle.instr_effects.specs.Runs.{of_kind}
use Rattle.instr_effects.proofs.effects.EffectReader.test_all.Given as goal

abbrev pub invariant-operands : goal.invariant-operands
invariant-operands l = l.reads.items ≡ l.fn.reads.items ++ flat_map (of_kind (λ o. (o.implicit && not o.def) && takes_some l.tested o) (λ o. filter_map (number_in l.self.lanes.now) (flag_owners l.self.target.now l.self.func.now l.place o))) (take l.operand-index l.operands)
