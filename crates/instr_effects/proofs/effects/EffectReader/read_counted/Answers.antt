use Rattle.std.proofs.Common.{ap, ◌∙◌}
use Rattle.instr_effects.specs.Acts.{tested_role}
use Rattle.instr_effects.specs.Numbered.{number_in}
use Rattle.instr_effects.proofs.CountedParts.{read-in-parts}
use Rattle.instr_effects.proofs.effects.EffectReader.read_counted.Goals as goal

pub returns : goal.returns
returns c =
    read-in-parts c.args.self.target.now c.args.self.func.now (number_in c.args.self.lanes.now) c.args.desc.now.effect c.args.desc.now.roles c.args.operands.now c.tested_role-tested.result
    c.args.reads.now.items c.read_explicits.new.reads.items c.read_condition.new.reads.items c.read_implicits.new.reads.items
    (c.tested_role-tested.ensures ∙ ap (tested_role c.args.desc.now.effect) c.as_slice.ensures) c.in_ok-read_explicits.ensures c.in_ok-read_condition.ensures c.in_ok-read_implicits.ensures
