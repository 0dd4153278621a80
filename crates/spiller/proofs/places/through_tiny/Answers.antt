use Rattle.std.proofs.Common.{◌∙◌, ◌∷◌, [], ap}
use Rattle.std.proofs.lemmas.Result.{on_ok_weaker}
use Rattle.mir_func.specs.declared.func.RegOp.{RegOp}
use Rattle.mir_func.specs.declared.func.Operand.TheVariants as operands
use Rattle.spiller.specs.Setting.{lanes_named}
use Rattle.spiller.specs.Views.{own_setting, planned}
use Rattle.spiller.proofs.Changes.{through-by}
use Rattle.spiller.proofs.places.through_tiny.Goals as goal

pub returns : goal.returns
returns c gap behind =
    let from = operands.Stack c.args.from.slot ∷ lanes_named c.args.from.index ∷ [] in
    let to = operands.Stack c.args.to.slot ∷ lanes_named c.args.to.index ∷ [] in
    on_ok_weaker c.put.result (λ e. through-by (own_setting c.args.view) c.args.instr.now.id c.args.class from to gap c.gap_behind-gap.result
    c.args.plan.now.next_id c.next_id.result c.args.plan.now.next_range c.in_ok-tiny.tiny c.reload_op.result c.spill_op.result c.in_ok-loaded.loaded c.in_ok-stored.stored
    (planned c.args.plan.now) (planned c.tiny.new.self) (planned c.note_slot.new.self) (planned c.replace.new.self) (planned c.put.new.self)
    c.next_id.ensures c.in_ok-tiny.ensures.range (c.gap_behind-gap.ensures gap behind)
    c.reload_op.ensures (c.in_ok-loaded.ensures ∙ ap (λ (o : RegOp). operands.Reg o ∷ from) c.whole_definition.ensures)
    c.spill_op.ensures (c.in_ok-stored.ensures ∙ ap (λ (o : RegOp). operands.Reg o ∷ to) c.whole_use.ensures)
    c.in_ok-tiny.ensures.plan c.note_slot.ensures c.in_ok-replace.ensures e)
    c.put.ensures
