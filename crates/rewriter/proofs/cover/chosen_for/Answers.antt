use Rattle.std.proofs.Common.{sym}
use Rattle.machine_verify.specs.Liveins.{is_set}
use Rattle.rewriter.proofs.Covers.{chosen_is}
use Rattle.rewriter.proofs.cover.chosen_for.Goals as goal

pub returns : goal.returns
returns c = chosen_is c.args.target.now (is_set c.args.live.now) c.args.holders.now c.args.u c.index-holders-u.result c.as_slice.result.now c.chosen_among.result c.requires.holders c.requires.unit (sym c.if-not-is_set.ensures) c.index-holders-u.is c.as_slice.ensures c.chosen_among.ensures
