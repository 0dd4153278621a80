use Rattle.std.proofs.Common.{◌≡◌, ◌+◌, ◌-◌, refl, arith, eq-eqb}
use Rattle.mir_func.specs.At.{cut_at}
use Rattle.mir_func.proofs.Places.{set_changed}
use Rattle.mir_func.proofs.Standing.{instr_read}
use Rattle.mir_func.proofs.func.Func.retract_at.Goals as goal

pub returns : goal.returns
returns c =
    let i = c.get.result.now in
    let found = instr_read c.self.inside.blocks c.args.position c.args.place c.get-block.result.now i (omega arith) c.get-block.ensures (omega arith) c.get.ensures in
    let last = eq-eqb (i.id + 1) c.self.inside.next_id (omega arith) in
    let next : c.self.inside.next_id - 1 ≡ i.id = omega arith in
    let e = set_changed (cut_at c.args.place) c.self.inside.blocks c.args.position c.args.position c.get_mut.result.now c.cut_at.new.block refl (omega arith) c.get_mut.ensures.value c.cut_at.ensures.rest in
    rw (← c.self.view_is) (rw (found, last, next, e) refl)
