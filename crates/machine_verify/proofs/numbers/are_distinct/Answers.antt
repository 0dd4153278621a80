use Rattle.std.proofs.Common.{◌-◌, arith}
use Rattle.machine_verify.proofs.Listed.{twice, once, holds_from}
use Rattle.machine_verify.proofs.numbers.are_distinct.Goals as goal

pub returns-then-not-branch : goal.returns-then-not-branch
returns-then-not-branch c =
    twice c.args.ns.now (c.numbers.k - 1) c.numbers.k c.numbers.later _ (omega arith) (omega arith) c.numbers.invariant.holds c.in_ok-add.ensures.new c.if-not-branch.true

pub numbers-preserved : goal.numbers-preserved
numbers-preserved c = record {
  within = omega arith;
  holds = holds_from c.args.ns.now (c.numbers.k - 1) c.numbers.k c.numbers.later _ (omega arith) (omega arith) c.numbers.invariant.holds c.in_ok-add.ensures.ok;
  apart = once c.args.ns.now (c.numbers.k - 1) c.numbers.k c.numbers.later _ (omega arith) (omega arith) c.numbers.invariant.holds c.in_ok-add.ensures.new c.if-not-branch.false c.numbers.invariant.apart;
}
