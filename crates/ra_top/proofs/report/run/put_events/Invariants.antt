use Rattle.std.proofs.Common.{◌≡◌, ◌++◌, drop, map}
use Rattle.mir_interp.specs.Stands.{event_of}
use Rattle.ra_top.specs.Report.Run.Printed.{event_lines}
use Rattle.ra_top.proofs.report.run.put_events.Given as goal

abbrev pub invariant-loop-event : goal.invariant-loop-event
invariant-loop-event l = l.out ++ event_lines (map event_of (drop l.event-index l.events)) ≡ l.initial.out ++ event_lines (map event_of l.events)
