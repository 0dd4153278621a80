use Rattle.std.proofs.Common.{arith, length}
use Rattle.split_choose.specs.LongRuns.{near_in}
use Rattle.split_choose.proofs.Best.{none-yet, next-better, all-seen}
use Rattle.split_choose.proofs.runs.best_of.Goals as goal

pub registers-init : goal.registers-init
registers-init c parents freqs loc = none-yet (near_in c.args.view.m.now c.args.view.v parents) (length c.args.view.places.now) c.args.registers.now

pub registers-preserved : goal.registers-preserved
registers-preserved c parents freqs loc =
    next-better (near_in c.args.view.m.now c.args.view.v parents) (length c.args.view.places.now) c.args.registers.now c.registers.register-index c.registers.best c.longest_run.result c.better_of-best.result _ (omega arith)
    (c.longest_run.ensures parents freqs loc) c.better_of-best.ensures (c.registers.invariant parents freqs loc)

pub returns : goal.returns
returns c parents freqs loc =
    all-seen (near_in c.args.view.m.now c.args.view.v parents) (length c.args.view.places.now) c.args.registers.now c.registers.register-index c.registers.best (omega arith) (c.registers.invariant parents freqs loc)
