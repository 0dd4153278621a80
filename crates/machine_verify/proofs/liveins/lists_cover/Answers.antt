use Rattle.std.proofs.Common.{◌∙◌, sym, arith}
use Rattle.machine_verify.proofs.Lived.{cover_end}
use Rattle.machine_verify.proofs.liveins.lists_cover.Goals as goal

pub returns : goal.returns
returns c = sym (c.loop-r.invariant ∙ cover_end c.args.wanted.now c.loop-r.rest.now c.args.rs.now c.loop-r.r-index (omega arith))
