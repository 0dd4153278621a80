use Rattle.std.proofs.Common.{◌≡◌, take}
use Rattle.ra_top.specs.Devices.Device.{WritesAll}
use Rattle.ra_top.specs.Commands.Status.{joined}
use Rattle.ra_top.proofs.commands.status.write_parts.Given as goal

abbrev pub invariant-loop-part : goal.invariant-loop-part
invariant-loop-part g l = record {
  faults : g.E.Sink.faults l.err ≡ g.E.Sink.faults l.fn.err;
  written : WritesAll (g.E.Sink.written l.fn.err) (g.E.Sink.written l.err) (joined (take l.part-index l.parts));
}
