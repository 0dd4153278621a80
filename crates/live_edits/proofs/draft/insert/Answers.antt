use Rattle.live_edits.proofs.DraftOrder.{put-done, put-refused}
use Rattle.live_edits.proofs.draft.insert.Goals as goal

pub returns-in-Ok-clause-ok : goal.returns-in-Ok-clause-ok
returns-in-Ok-clause-ok c = λ room.
    let a = c.args in
    let done = c.in_ok-id.ensures.ok in
    (put-done a.func.now c.insert_at.new.self a.order.now c.put_id.new.order a.position a.place a.op a.operands c.in_ok-id.id c.id_before-before.result c.id_before-before.ensures.function room done.0 (c.id_before-before.ensures.id room.within) done.1 c.in-Ok.ensures.ok, done.0)

pub returns-in-Err-clause-err : goal.returns-in-Err-clause-err
returns-in-Err-clause-err c = λ room.
    let a = c.args in
    let done = c.in_ok-id.ensures.ok in
    put-refused a.func.now c.insert_at.new.self c.retract_at.new.self a.order.now c.put_id.new.order a.position a.place a.op a.operands room done.1 c.retract_at.ensures c.in-Err.ensures.err
