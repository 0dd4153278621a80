use Rattle.std.proofs.Common.{◌≡◌, ◌||◌, ◌<◌, ◌+◌, ◌∙◌, drop, length, ap, sym, arith}
use Rattle.meaning.specs.Perform.{lacks}
use Rattle.meaning.specs.State.{values}
use Rattle.mir_interp.specs.Holds.{held_by}
use Rattle.mir_interp.proofs.Lacking.{lacks_step}
use Rattle.mir_interp.proofs.perform.Executor.lacks.Goals as goal

pub returns-then-lacking : goal.returns-then-lacking
returns-then-lacking g c = λ n env h.
    let ns = c.args.self.now.rest.now.needed in
    let vs = values env (held_by c.args.self.now.store.now) c.args.self.now.reads.now in
    let there : c.loop-k.k < length ns = omega arith in
    sym (c.loop-k.invariant n env h
    ∙ (lacks_step ns vs c.loop-k.k there
    ∙ ap (λ b. b || lacks (drop (c.loop-k.k + 1) ns) (drop (c.loop-k.k + 1) vs)) (sym (c.in_ok-lacking.ensures n env h) ∙ c.if-lacking.true)))

pub loop-k-preserved : goal.loop-k-preserved
loop-k-preserved g c = λ n env h.
    let ns = c.args.self.now.rest.now.needed in
    let vs = values env (held_by c.args.self.now.store.now) c.args.self.now.reads.now in
    let there : c.loop-k.k < length ns = omega arith in
    c.loop-k.invariant n env h
    ∙ (lacks_step ns vs c.loop-k.k there
    ∙ ap (λ b. b || lacks (drop (c.loop-k.k + 1) ns) (drop (c.loop-k.k + 1) vs)) (sym (c.in_ok-lacking.ensures n env h) ∙ c.if-lacking.false))
