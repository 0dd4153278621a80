use Rattle.std.proofs.Common.{◌≡◌, ◌∙◌, ◌∷◌, [], sym, ap}
use Rattle.std.proofs.lemmas.Result.{on_ok_weaker}
use Rattle.mir_func.specs.declared.func.RegOp.{RegOp}
use Rattle.mir_func.specs.declared.func.Operand.TheVariants as operands
use Rattle.mir_meaning.specs.Points.{is_range}
use Rattle.live_laws.proofs.Effects.Moving.{some-same}
use Rattle.spiller.specs.declared.plan.SlotPart.{SlotPart}
use Rattle.spiller.specs.Setting.{lanes_named, moving_class}
use Rattle.spiller.specs.Spilled.{is_own_part}
use Rattle.spiller.specs.Views.{gap_before, planned, spilling_of}
use Rattle.spiller.specs.Additions.{with_addition}
use Rattle.spiller.specs.Moving.{moved_through}
use Rattle.spiller.proofs.Moves.{spill-erased, spill-moved}
use Rattle.spiller.proofs.places.change_spill.Goals as goal

pub returns-then-is_own_slot : goal.returns-then-is_own_slot
returns-then-is_own_slot c facts gap o m x are own behind =
    let view = c.args.view in
    let i = c.args.instr.now in
    let s = spilling_of view view.slot facts in
    let p0 = planned c.args.plan.now in
    let slot = operands.Stack m ∷ lanes_named x ∷ [] in
    let pair = some-same (c.in-Some.register, c.in-Some.there) (o, record { slot = m; index = x }) (sym c.in-Some.is ∙ c.slot_sides.ensures o m x (c.as_slice.ensures ∙ are)) in
    let register = ap (λ (q : RegOp × SlotPart). q.0) pair in
    let there = ap (λ (q : RegOp × SlotPart). q.1) pair in
    let part = c.is_own_slot.ensures facts (ap (λ (r : RegOp). is_range view.v r.loc) register ∙ own) ∙ (λ k. is_own_part s (register k) (operands.Stack (there k).slot ∷ lanes_named (there k).index ∷ [])) in
    on_ok_weaker c.erase.result (λ e. spill-erased s (gap_before view i.id) gap i p0 (planned c.erase.new.self) p0.next_id p0.next_range o slot own (sym part ∙ c.if-is_own_slot.true) e) c.erase.ensures

pub returns : goal.returns
returns c facts gap o m x are own behind =
    let view = c.args.view in
    let i = c.args.instr.now in
    let s = spilling_of view view.slot facts in
    let p0 = planned c.args.plan.now in
    let slot = operands.Stack m ∷ lanes_named x ∷ [] in
    let pair = some-same (c.in-Some.register, c.in-Some.there) (o, record { slot = m; index = x }) (sym c.in-Some.is ∙ c.slot_sides.ensures o m x (c.as_slice.ensures ∙ are)) in
    let register = ap (λ (q : RegOp × SlotPart). q.0) pair in
    let there = ap (λ (q : RegOp × SlotPart). q.1) pair in
    let part = c.is_own_slot.ensures facts (ap (λ (r : RegOp). is_range view.v r.loc) register ∙ own) ∙ (λ k. is_own_part s (register k) (operands.Stack (there k).slot ∷ lanes_named (there k).index ∷ [])) in
    let class = c.moving_class-class.ensures view.slot facts ∙ ap (λ (r : RegOp). moving_class s r.index) register in
    let mine : c.own_part-own.result ≡ record { slot = view.slot; index = o.index } = c.own_part-own.ensures ∙ ap {B = SlotPart} (λ (r : RegOp). record { slot = view.slot; index = r.index }) register in
    on_ok_weaker c.through_tiny.result (λ e. spill-moved s (gap_before view i.id) gap i p0 (planned c.through_tiny.new.plan) o m x c.moving_class-class.result are own (sym part ∙ c.if-is_own_slot.false) class (e ∙ (λ k. with_addition (moved_through s.target p0.next_id p0.next_range i.id gap c.moving_class-class.result (operands.Stack (mine k).slot ∷ lanes_named (mine k).index ∷ []) (operands.Stack (there k).slot ∷ lanes_named (there k).index ∷ [])) p0))) (c.through_tiny.ensures gap behind)
