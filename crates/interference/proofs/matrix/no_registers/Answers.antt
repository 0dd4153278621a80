use Rattle.std.proofs.Common.{arith, ap, length-append, length}
use Rattle.interference.specs.Clashes.{register_in}
use Rattle.interference.proofs.Empty.{no-more}
use Rattle.interference.proofs.matrix.no_registers.Goals as goal

pub each-init : goal.each-init
each-init c = record {
  count = ap length c.in_ok-registers.ensures.items;
  none = λ v. ap (λ rs. register_in rs v) c.in_ok-registers.ensures.items;
}

pub each-preserved : goal.each-preserved
each-preserved c = record {
  count = grind (arith, length-append, c.in_ok-push.ensures.items, c.each.invariant.count);
  none = no-more c.each.registers.items c.push.new.self.items c.in_ok-push.ensures.items c.each.invariant.none;
}
