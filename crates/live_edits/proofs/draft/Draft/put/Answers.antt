use Rattle.std.proofs.Common.{◌+◌, ◌<◌, ◌^◌, ◌++◌, ◌∷◌, [], ap, ◌∙◌}
use Rattle.live_edits.specs.declared.draft.Draft.{Draft}
use Rattle.live_edits.specs.declared.draft.FormerInstr.TheVariants as formers
use Rattle.live_edits.proofs.DraftEdits.{any-err, put-ready, put-into, put-logged, stays-logged}
use Rattle.live_edits.proofs.draft.Draft.put.Goals as goal

pub returns-in_err-id-clause-err : goal.returns-in_err-id-clause-err
returns-in_err-id-clause-err c =
    any-err c.from_residual-in_err-id.result _
    (λ order there.
    let d = c.args.self.now in
    let next : d.func.next_id + 1 < 2 ^ 32 = c.has_id_left.ensures.0 c.if-not-has_id_left.false in
    let z = put-ready d.func d.order c.args.gap c.in-Some.position c.gap_place-place.result c.position.result c.position.ensures c.in-Some.is next c.gap_place-place.ensures order there in
    (c.in_err-id.ensures.err z.0).func)

pub returns-in_err-id-clause-logged : goal.returns-in_err-id-clause-logged
returns-in_err-id-clause-logged c = λ order there.
    let d = c.args.self.now in
    let new : Draft = record { func = c.insert.new.func; order = c.insert.new.order; log = c.reserve.new.self } in
    let next : d.func.next_id + 1 < 2 ^ 32 = c.has_id_left.ensures.0 c.if-not-has_id_left.false in
    let z = put-ready d.func d.order c.args.gap c.in-Some.position c.gap_place-place.result c.position.result c.position.ensures c.in-Some.is next c.gap_place-place.ensures order there in
    let same = c.in_err-id.ensures.err z.0 in
    stays-logged d new same.func same.order c.reserve.ensures.items

pub returns-clause-put : goal.returns-clause-put
returns-clause-put c = λ order there.
    let d = c.args.self.now in
    let new : Draft = record { func = c.insert.new.func; order = c.insert.new.order; log = c.note.new.log } in
    let next : d.func.next_id + 1 < 2 ^ 32 = c.has_id_left.ensures.0 c.if-not-has_id_left.false in
    let z = put-ready d.func d.order c.args.gap c.in-Some.position c.gap_place-place.result c.position.result c.position.ensures c.in-Some.is next c.gap_place-place.ensures order there in
    let done = c.in_ok-id.ensures.ok z.0 in
    put-into d new c.args.gap c.args.op c.args.operands c.in-Some.position c.gap_place-place.result c.in_ok-id.id z.0 z.1 z.2 done.0 done.1

pub returns-clause-logged : goal.returns-clause-logged
returns-clause-logged c = λ order there.
    let d = c.args.self.now in
    let new : Draft = record { func = c.insert.new.func; order = c.insert.new.order; log = c.note.new.log } in
    let next : d.func.next_id + 1 < 2 ^ 32 = c.has_id_left.ensures.0 c.if-not-has_id_left.false in
    let z = put-ready d.func d.order c.args.gap c.in-Some.position c.gap_place-place.result c.position.result c.position.ensures c.in-Some.is next c.gap_place-place.ensures order there in
    let done = c.in_ok-id.ensures.ok z.0 in
    let entry = formers.Put c.in-Some.position c.gap_place-place.result in
    put-logged d new c.args.op c.args.operands c.in-Some.position c.gap_place-place.result z.0 done.0 (c.note.ensures ∙ ap (λ es. es ++ entry ∷ []) c.reserve.ensures.items)
