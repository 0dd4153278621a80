use Rattle.std.proofs.Common.{sym, ap, ◌∙◌, cond, map, [], length}
use Rattle.instr_effects.specs.Numbered.{number_in}
use Rattle.instr_effects.specs.Owners.{operand_owners}
use Rattle.instr_effects.proofs.Runs.{no-number}
use Rattle.instr_effects.proofs.SilentParts.{constant_run}
use Rattle.instr_effects.proofs.effects.EffectReader.constant_lanes.Goals as goal

pub returns : goal.returns
returns c =
    let t = c.args.self.target.now in
    let f = c.args.self.func.now in
    constant_run t f (number_in c.args.self.lanes.now) c.len.result c.args.op.now (c.len.ensures ∙ ap length c.operand_lanes.ensures)
    ∙ ap (λ b. cond b (map (λ o. no-number o) (operand_owners t f c.args.op.now)) []) (sym c.if-not-is_constant.false ∙ c.is_constant.ensures)
