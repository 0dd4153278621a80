use Rattle.std.proofs.Common.{sym, ap, ap₂, ◌∙◌, ◌++◌, ◌≡◌, length, slice_get, Some, flat_map, false}
use Rattle.std.specs.Prelude.{zip}
use Rattle.instr_effects.specs.Numbered.{number_in}
use Rattle.instr_effects.specs.Runs.{one_move, one_kept}
use Rattle.instr_effects.proofs.SilentParts.{store_readings, store_writings}
use Rattle.instr_effects.proofs.effects.EffectReader.store.Goals as goal

pub returns-clause-reads : goal.returns-clause-reads
returns-clause-reads c =
    let t = c.args.self.target.now in
    let f = c.args.self.func.now in
    let num = number_in c.args.self.lanes.now in
    let os = c.args.operands.now in
    let d = c.in-Some.from in
    let s = c.in-Some-slot_at.slot in
    let k = c.in-Some-operand_at.lanes.now in
    let one = sym c.register_at.ensures ∙ c.in-Some.is in
    let two = sym c.slot_at.ensures ∙ c.in-Some-slot_at.is in
    let three : slice_get os 2 ≡ Some k = sym c.in-Some-operand_at.ensures in
    let many = c.len.ensures ∙ ap length c.given_lanes-given.ensures in
    c.in_ok-move_lanes.ensures.reads
    ∙ ap (λ x. c.args.effects.now.reads.items ++ x) (ap₂ (λ x y. flat_map one_kept (zip x y)) c.slot_lanes.ensures c.given_lanes-given.ensures ∙ sym (store_readings t f num os d s c.len.result k one two three many))

pub returns-clause-writes : goal.returns-clause-writes
returns-clause-writes c =
    let t = c.args.self.target.now in
    let f = c.args.self.func.now in
    let num = number_in c.args.self.lanes.now in
    let os = c.args.operands.now in
    let d = c.in-Some.from in
    let s = c.in-Some-slot_at.slot in
    let k = c.in-Some-operand_at.lanes.now in
    let one = sym c.register_at.ensures ∙ c.in-Some.is in
    let two = sym c.slot_at.ensures ∙ c.in-Some-slot_at.is in
    let three : slice_get os 2 ≡ Some k = sym c.in-Some-operand_at.ensures in
    let many = c.len.ensures ∙ ap length c.given_lanes-given.ensures in
    c.in_ok-move_lanes.ensures.writes
    ∙ ap (λ x. c.args.effects.now.writes.items ++ x) (ap₂ (λ x y. flat_map (one_move false) (zip x y)) c.slot_lanes.ensures c.given_lanes-given.ensures ∙ sym (store_writings t f num os d s c.len.result k one two three many))
