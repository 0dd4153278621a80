use Rattle.std.proofs.Common.{◌∙◌, ap, arith, drop, suc}
use Rattle.std.specs.Prelude.{option_map}
use Rattle.meaning.specs.State.{written}
use Rattle.mir_interp.specs.Decoded.{edge_of, code_of_steps}
use Rattle.mir_interp.specs.Holds.{held_by}
use Rattle.mir_interp.proofs.Placing.{counted_here}
use Rattle.mir_interp.proofs.Stepping.{stepped}
use Rattle.mir_interp.proofs.machine.step.Goals as goal

pub returns-in_ok-onward-in-Counted-clause-did : goal.returns-in_ok-onward-in-Counted-clause-did
returns-in_ok-onward-in-Counted-clause-did g c = λ m env h o r few next.
    let old = c.args.machine.now in
    stepped env (code_of_steps c.args.steps.now) (drop (suc c.args.at) (code_of_steps c.args.steps.now)) next c.args.at c.args.machine.now c.in_ok-onward-in-Counted.onward _ o c.in-Counted.rest c.in-Counted.reads c.in-Counted.writes (option_map edge_of c.in-Counted.target) (c.in_ok-results-in-Counted.results, c.in_ok-results-in-Counted.control) (held_by c.write.new.store)
    (counted_here c.args.steps.now c.args.at c.index-steps-at.result c.in-Counted.rest c.in-Counted.reads c.in-Counted.writes c.in-Counted.target (omega arith) c.index-steps-at.is c.in-Counted.is)
    (c.in_ok-results-in-Counted.ensures.did m env h o r few)
    (c.in_ok-write-in-Counted.ensures m env h
    ∙ (ap (λ t. written env t c.as_slice.result.now (held_by c.args.machine.now.store)) c.as_slice-computed.ensures
    ∙ ap (λ t. written env c.in_ok-results-in-Counted.results t (held_by c.args.machine.now.store)) c.as_slice.ensures))
    (c.in_ok-onward-in-Counted.ensures m env h next)
