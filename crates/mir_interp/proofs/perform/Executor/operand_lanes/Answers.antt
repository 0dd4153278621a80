use Rattle.std.proofs.Common.{◌∙◌, ◌++◌, sym, ap, arith, map}
use Rattle.meaning.specs.State.{fetch}
use Rattle.mir_interp.specs.Holds.{held_by}
use Rattle.mir_interp.proofs.Reading.{lanes_past, lanes_there}
use Rattle.mir_interp.proofs.perform.Executor.operand_lanes.Goals as goal

pub returns-then-k-read_count : goal.returns-then-k-read_count
returns-then-k-read_count g c = λ n env h. c.new.ensures ∙ sym (lanes_past env (held_by c.args.self.now.store.now) c.args.self.now.reads.now c.args.k (omega arith))

pub returns : goal.returns
returns g c = λ n env h.
    let s = c.as_slice-sources.ensures ∙ c.get-picked.ensures in
    c.in_ok-push_fetched.ensures n env h
    ∙ (ap (λ t. t ++ map (fetch env (held_by c.args.self.now.store.now)) c.as_slice-sources.result.now) c.in_ok-lanes.ensures
    ∙ (ap (map (fetch env (held_by c.args.self.now.store.now))) s
    ∙ sym (lanes_there env (held_by c.args.self.now.store.now) c.args.self.now.reads.now c.args.k c.get-picked.result.now (omega arith))))
