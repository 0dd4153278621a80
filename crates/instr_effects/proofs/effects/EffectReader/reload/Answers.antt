use Rattle.std.proofs.Common.{sym, ap, ◌∙◌, ◌++◌, ◌≡◌, length, slice_get, Some}
use Rattle.instr_effects.specs.Numbered.{number_in}
use Rattle.instr_effects.proofs.SilentParts.{filled, left, reload_readings, reload_writings}
use Rattle.instr_effects.proofs.effects.EffectReader.reload.Goals as goal

pub returns-clause-reads : goal.returns-clause-reads
returns-clause-reads c =
    let t = c.args.self.target.now in
    let f = c.args.self.func.now in
    let num = number_in c.args.self.lanes.now in
    let os = c.args.operands.now in
    let d = c.in-Some.to in
    let s = c.in-Some-slot_at.slot in
    let k = c.in-Some-operand_at.lanes.now in
    let one = sym c.register_at.ensures ∙ c.in-Some.is in
    let two = sym c.slot_at.ensures ∙ c.in-Some-slot_at.is in
    let three : slice_get os 2 ≡ Some k = sym c.in-Some-operand_at.ensures in
    let many = c.len-count.ensures ∙ ap length c.operand_lanes.ensures in
    c.in_ok-define.ensures.reads
    ∙ ap (λ x. c.args.effects.now.reads.items ++ x) (ap (λ x. left t f num d x) c.slot_lanes.ensures ∙ sym (reload_readings t f num c.args.early os d s c.len-count.result k one two three many))

pub returns-clause-writes : goal.returns-clause-writes
returns-clause-writes c =
    let t = c.args.self.target.now in
    let f = c.args.self.func.now in
    let num = number_in c.args.self.lanes.now in
    let os = c.args.operands.now in
    let d = c.in-Some.to in
    let s = c.in-Some-slot_at.slot in
    let k = c.in-Some-operand_at.lanes.now in
    let one = sym c.register_at.ensures ∙ c.in-Some.is in
    let two = sym c.slot_at.ensures ∙ c.in-Some-slot_at.is in
    let three : slice_get os 2 ≡ Some k = sym c.in-Some-operand_at.ensures in
    let many = c.len-count.ensures ∙ ap length c.operand_lanes.ensures in
    c.in_ok-define.ensures.writes
    ∙ ap (λ x. c.args.effects.now.writes.items ++ x) (ap (λ x. filled t f num c.args.early d x) c.slot_lanes.ensures ∙ sym (reload_writings t f num c.args.early os d s c.len-count.result k one two three many))
