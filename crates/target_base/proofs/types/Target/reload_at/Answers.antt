use Rattle.std.proofs.Common.{◌≡◌, ◌<◌, ◌≤◌, Some, arith, length}
use Rattle.std.specs.Prelude.{position}
use Rattle.target_base.specs.Registers.{regs_of}
use Rattle.target_base.specs.Rules.{reloads}
use Rattle.target_base.proofs.Sound.{opcodes_count}
use Rattle.target_base.proofs.Lookups.{reload_place_within}
use Rattle.target_base.proofs.types.Target.reload_at.Goals as goal

pub overflow_cast-result : goal.overflow_cast-result
overflow_cast-result c =
    let e : position (reloads c.args.self.now.classes (regs_of c.args.self.now c.args.c)) c.args.self.now.opcodes ≡ Some c.in-Some.place = cc in
    let w : c.in-Some.place < length c.args.self.now.opcodes = reload_place_within c.args.self.now.classes (regs_of c.args.self.now c.args.c) c.args.self.now.opcodes c.in-Some.place e in
    let n : length c.args.self.now.opcodes ≤ 1024 = opcodes_count _ _ _ _ _ _ _ _ _ c.args.self.now.sound in
    omega arith
