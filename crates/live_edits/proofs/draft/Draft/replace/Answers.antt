use Rattle.std.proofs.Common.{◌++◌, ◌∷◌, [], ap, ◌∙◌, refl}
use Rattle.mir_func.specs.declared.func.Op.TheVariants.{Known}
use Rattle.live_edits.specs.declared.draft.Draft.{Draft}
use Rattle.live_edits.specs.declared.draft.FormerInstr.TheVariants as formers
use Rattle.live_edits.proofs.DraftEdits.{replace-none, replace-done, replace-order, replace-logged}
use Rattle.live_edits.proofs.draft.Draft.replace.Goals as goal

pub returns-in_default-clause-replaced : goal.returns-in_default-clause-replaced
returns-in_default-clause-replaced c = λ order. record {
  func = replace-none c.args.self.now.func c.args.id c.args.op c.args.operands (c.in_default.ensures.place order);
  order = order;
}

pub returns-clause-replaced : goal.returns-clause-replaced
returns-clause-replaced c = λ order.
    let d = c.args.self.now in
    let done = c.change_at-old_op.ensures.new in
    record {
      func = replace-done d.func c.change_at-old_op.new.self c.args.id (c.in-Some.position, c.in-Some.place) c.args.op c.args.operands c.find.ensures.function (c.in-Some.ensures.place order) done;
      order = replace-order d.func c.change_at-old_op.new.self d.order c.in-Some.position c.in-Some.place (Known c.args.op) c.args.operands order done;
    }

pub returns-clause-logged : goal.returns-clause-logged
returns-clause-logged c = λ order.
    let d = c.args.self.now in
    let new : Draft = record { func = c.change_at-old_op.new.self; order = d.order; log = c.note.new.log } in
    let was = c.change_at-old_op.result in
    let entry = formers.Replaced c.in-Some.position c.in-Some.place was.0 was.1 in
    replace-logged d new c.args.id (c.in-Some.position, c.in-Some.place) (Known c.args.op) was.0 c.args.operands was.1 order (c.in-Some.ensures.place order)
    c.change_at-old_op.ensures.new c.change_at-old_op.ensures.old refl (c.note.ensures ∙ ap (λ es. es ++ entry ∷ []) c.reserve.ensures.items)
