use Rattle.std.proofs.Common.{length, refl, arith}
use Rattle.mir_func.specs.Edits.{made}
use Rattle.mir_func.specs.At.{put_at}
use Rattle.mir_func.proofs.Places.{set_changed}
use Rattle.mir_func.proofs.Standing.{room_at}
use Rattle.mir_func.proofs.func.Func.insert_at.Goals as goal

pub returns-clause-ok : goal.returns-clause-ok
returns-clause-ok c =
    let x = made c.self.inside.next_id c.args.op c.args.operands in
    let e = set_changed (put_at c.args.place x) c.self.inside.blocks c.args.position c.args.position c.get_mut.result.now c.put_at.new.block refl (omega arith) c.get_mut.ensures.value c.in_ok-put_at.ensures.ok in
    rw (← c.self.view_is) (refl, rw (room_at c.args.position (length c.self.inside.blocks) c.self.inside.next_id (omega arith) (omega (arith, c.if-id.false))) (rw e refl))
