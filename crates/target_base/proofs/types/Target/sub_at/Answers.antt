use Rattle.std.proofs.Common.{◌≡◌, ◌<◌, ◌≤◌, Some, arith, length}
use Rattle.target_base.specs.Storage.{sub_place}
use Rattle.target_base.specs.Registers.{units_of, lanes_of}
use Rattle.target_base.proofs.Sound.{regs_count}
use Rattle.target_base.proofs.Lookups.{sub_place_within}
use Rattle.target_base.proofs.types.Target.sub_at.Goals as goal

pub overflow_cast-result : goal.overflow_cast-result
overflow_cast-result c =
    let e : sub_place c.args.self.now.regs (units_of c.args.self.now c.args.r) (lanes_of c.args.self.now c.args.i) ≡ Some c.in-Some.place = cc in
    let w : c.in-Some.place < length c.args.self.now.regs = sub_place_within c.args.self.now.regs (units_of c.args.self.now c.args.r) (lanes_of c.args.self.now c.args.i) c.in-Some.place e in
    let n : length c.args.self.now.regs ≤ 512 = regs_count _ _ _ _ _ _ _ _ _ c.args.self.now.sound in
    omega arith
