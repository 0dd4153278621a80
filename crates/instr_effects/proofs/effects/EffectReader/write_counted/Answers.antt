use Rattle.std.proofs.Common.{ap, ◌∙◌, ◌++◌, flat_map}
use Rattle.mir_func.specs.Binding.{definitions}
use Rattle.instr_effects.specs.Acts.{result_acts}
use Rattle.instr_effects.specs.Steps.{act_writings}
use Rattle.instr_effects.specs.Numbered.{number_in}
use Rattle.instr_effects.proofs.CountedParts.{written-in-parts}
use Rattle.instr_effects.proofs.effects.EffectReader.write_counted.Goals as goal

pub returns : goal.returns
returns c =
    written-in-parts c.args.self.target.now c.args.self.func.now (number_in c.args.self.lanes.now) c.args.desc.now.effect c.args.desc.now.roles c.args.operands.now
    c.args.writes.now.items c.write_explicits.new.writes.items c.write_implicits.new.writes.items c.clobber.new.writes.items
    (c.in_ok-write_explicits.ensures ∙ ap (λ rs. c.args.writes.now.items ++ flat_map (λ d. act_writings (number_in c.args.self.lanes.now) (result_acts c.args.self.target.now c.args.self.func.now d.0 d.1)) (definitions rs c.args.operands.now)) c.as_slice.ensures) c.in_ok-write_implicits.ensures c.in_ok-clobber.ensures
