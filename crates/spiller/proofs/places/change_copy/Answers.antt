use Rattle.std.proofs.Common.{◌∙◌, ◌∷◌, [], sym, ap}
use Rattle.std.proofs.lemmas.Result.{on_ok_weaker}
use Rattle.mir_func.specs.declared.func.RegOp.{RegOp}
use Rattle.mir_func.specs.declared.func.Operand.TheVariants as operands
use Rattle.mir_func.specs.Binding.{register_at}
use Rattle.mir_meaning.specs.Points.{is_range}
use Rattle.live_laws.proofs.Effects.Moving.{some-same}
use Rattle.spiller.specs.Spilled.{copied_in, copied_within}
use Rattle.spiller.specs.Views.{gap_before, planned, spilling_of}
use Rattle.spiller.specs.Planned.{with_change}
use Rattle.spiller.specs.Moving.{copied_from}
use Rattle.spiller.proofs.Moves.{copy-in, copy-out, copy-within}
use Rattle.spiller.proofs.places.change_copy.Goals as goal

pub returns-then-is_own-2 : goal.returns-then-is_own-2
returns-then-is_own-2 c facts d o gap source are named behind copied same =
    let view = c.args.view in
    let i = c.args.instr.now in
    let s = spilling_of view view.slot facts in
    let p0 = planned c.args.plan.now in
    let to = some-same c.in-Some-Some.to d (sym c.in-Some-Some.is-0 ∙ (c.register_at.ensures ∙ ap (λ os. register_at os 0) (c.as_slice-operands.ensures ∙ are))) in
    let from = some-same c.in-Some-Some.from o (sym c.in-Some-Some.is-1 ∙ (c.register_at-2.ensures ∙ ap (λ os. register_at os 1) (c.as_slice-operands.ensures ∙ are))) in
    let own = sym (ap (λ (r : RegOp). is_range view.v r.loc) from) ∙ (sym c.is_own.ensures ∙ c.if-is_own.true) in
    let other = sym (ap (λ (r : RegOp). is_range view.v r.loc) to) ∙ (sym c.is_own-then-is_own.ensures ∙ c.if-is_own-2.true) in
    on_ok_weaker c.change_own_copy.result (λ e. copy-within s (gap_before view i.id) gap i p0 (planned c.change_own_copy.new.plan) p0.next_id p0.next_range d o own other (e ∙ (λ k. with_change s (gap_before view i.id) gap (i ∷ []) (copied_within s p0.next_id p0.next_range i (to k) (from k)) p0))) (c.change_own_copy.ensures facts gap named behind)

pub returns-else-is_own-2 : goal.returns-else-is_own-2
returns-else-is_own-2 c facts d o gap source are named behind copied same =
    let view = c.args.view in
    let i = c.args.instr.now in
    let s = spilling_of view view.slot facts in
    let p0 = planned c.args.plan.now in
    let to = some-same c.in-Some-Some.to d (sym c.in-Some-Some.is-0 ∙ (c.register_at.ensures ∙ ap (λ os. register_at os 0) (c.as_slice-operands.ensures ∙ are))) in
    let from = some-same c.in-Some-Some.from o (sym c.in-Some-Some.is-1 ∙ (c.register_at-2.ensures ∙ ap (λ os. register_at os 1) (c.as_slice-operands.ensures ∙ are))) in
    let own = sym (ap (λ (r : RegOp). is_range view.v r.loc) from) ∙ (sym c.is_own.ensures ∙ c.if-is_own.true) in
    let other = sym (ap (λ (r : RegOp). is_range view.v r.loc) to) ∙ (sym c.is_own-then-is_own.ensures ∙ c.if-is_own-2.false) in
    on_ok_weaker c.change_copy_from.result (λ e. copy-out s (gap_before view i.id) gap i p0 (planned c.change_copy_from.new.plan) p0.next_id p0.next_range d o own other (e ∙ (λ k. with_change s (gap_before view i.id) gap (i ∷ []) (copied_from s (sym (same own) k) i (to k) (from k)) p0))) (c.change_copy_from.ensures facts gap source named (are ∙ (λ k. operands.Reg (sym to k) ∷ operands.Reg (sym from k) ∷ [])) (copied own))

pub returns-else-is_own : goal.returns-else-is_own
returns-else-is_own c facts d o gap source are named behind copied same =
    let view = c.args.view in
    let i = c.args.instr.now in
    let s = spilling_of view view.slot facts in
    let p0 = planned c.args.plan.now in
    let to = some-same c.in-Some-Some.to d (sym c.in-Some-Some.is-0 ∙ (c.register_at.ensures ∙ ap (λ os. register_at os 0) (c.as_slice-operands.ensures ∙ are))) in
    let from = some-same c.in-Some-Some.from o (sym c.in-Some-Some.is-1 ∙ (c.register_at-2.ensures ∙ ap (λ os. register_at os 1) (c.as_slice-operands.ensures ∙ are))) in
    let none = sym (ap (λ (r : RegOp). is_range view.v r.loc) from) ∙ (sym c.is_own.ensures ∙ c.if-is_own.false) in
    on_ok_weaker c.change_copy_to.result (λ e. copy-in s (gap_before view i.id) gap i p0 (planned c.change_copy_to.new.plan) p0.next_id p0.next_range d o none are named (e ∙ (λ k. with_change s (gap_before view i.id) gap (i ∷ []) (copied_in s i (to k) (from k)) p0))) (c.change_copy_to.ensures facts gap named (are ∙ (λ k. operands.Reg (sym to k) ∷ operands.Reg (sym from k) ∷ [])))
