use Rattle.std.proofs.Common.{◌∙◌, sym, arith}
use Rattle.mir_interp.proofs.Naming.{found_there}
use Rattle.mir_interp.proofs.fetch.place_of.Goals as goal

pub returns-then-is_same : goal.returns-then-is_same
returns-then-is_same c = found_there c.args.names.now c.loop-m.m c.args.name.now c.index-names-m.result c.as_slice-other.result.now (omega arith) c.index-names-m.is c.as_slice-other.ensures (sym c.is_same.ensures ∙ c.if-is_same.true)
