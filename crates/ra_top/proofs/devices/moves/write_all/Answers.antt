use Rattle.std.proofs.Common.{◌∙◌, arith, length-take, length-drop, ◌-◌, length, drop}
use Rattle.ra_top.proofs.DeviceLemmas.Written.{written_more}
use Rattle.ra_top.proofs.devices.moves.write_all.Goals as goal

pub pieces-preserved : goal.pieces-preserved
pieces-preserved g c = record {
  within = omega (arith, c.in-Ok.ensures.within, length-take (length c.args.bytes.now - c.pieces.done) (drop c.pieces.done c.args.bytes.now), length-drop c.pieces.done c.args.bytes.now);
  faults = c.in-Ok.ensures.cause ∙ c.pieces.invariant.faults;
  written = written_more _ _ _ c.args.bytes.now c.pieces.done c.in-Ok.n c.pieces.invariant.written c.in-Ok.ensures.takes;
}
