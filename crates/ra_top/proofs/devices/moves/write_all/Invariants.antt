use Rattle.std.proofs.Common.{◌≡◌, ◌≤◌, ◌-◌, ◌++◌, length, take, Some}
use Rattle.std.specs.Prelude.{IfSome}
use Rattle.ra_top.proofs.devices.moves.write_all.Given as goal

abbrev pub invariant-pieces : goal.invariant-pieces
invariant-pieces g l = record {
  within : l.done ≤ length l.bytes;
  faults : g.O.Sink.faults l.out ≡ g.O.Sink.faults l.fn.out;
  written : IfSome (g.O.Sink.written l.fn.out) (λ w. g.O.Sink.written l.out ≡ Some (w ++ take l.done l.bytes));
}

abbrev pub decreases-pieces : goal.decreases-pieces
decreases-pieces g l = length l.bytes - l.done
