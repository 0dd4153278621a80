use Rattle.std.proofs.Common.{◌+◌, ◌-◌, ◌∙◌, sym, arith, length}
use Rattle.mir_interp.specs.Holds.{held_by}
use Rattle.mir_interp.proofs.Joining.{joined_fetched_missing, joined_fetched_undef, joined_fetched_more}
use Rattle.mir_interp.proofs.fetch.RunContext.join_sources.Goals as goal

pub returns-then-i-sources : goal.returns-then-i-sources
returns-then-i-sources g c = λ n env h. sym (joined_fetched_missing env (held_by c.args.store.now) (length c.args.widths.now - 1 - c.loop-k.k) c.args.widths.now c.args.sources.now (omega arith) c.if-i-sources.true)

pub returns-in_default : goal.returns-in_default
returns-in_default g c = λ n env h. sym (joined_fetched_undef env (held_by c.args.store.now) (length c.args.widths.now - 1 - c.loop-k.k) c.args.widths.now c.args.sources.now c.index-sources-i.result (omega arith) c.if-i-sources.false c.index-sources-i.is (sym (c.in_ok-fetched.ensures n env h) ∙ c.in_default.is))

pub loop-k-preserved : goal.loop-k-preserved
loop-k-preserved g c = λ n env h.
    joined_fetched_more env (held_by c.args.store.now) (length c.args.widths.now - 1 - c.loop-k.k) (length c.args.widths.now - (c.loop-k.k + 1)) (length c.args.widths.now - c.loop-k.k) c.args.widths.now c.args.sources.now c.index-sources-i.result c.in-Some.lane c.loop-k.number c.in_ok-number.number (omega arith) (omega arith) (omega arith) c.if-i-sources.false c.index-sources-i.is (sym (c.in_ok-fetched.ensures n env h) ∙ c.in-Some.is) (c.loop-k.invariant n env h) c.in_ok-number.ensures
