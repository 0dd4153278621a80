use Rattle.std.proofs.Common.{◌≡◌, ◌≤◌, ◌+◌, drop, length}
use Rattle.mir_read.specs.Resolving.{operands_named}
use Rattle.mir_read.proofs.Lists.{behind}
use Rattle.mir_read.proofs.resolve.operands.Given as goal

abbrev pub invariant-loop-o : goal.invariant-loop-o
invariant-loop-o l = record {
  ranges : length l.ranges.names ≤ length l.fn.ranges.names + l.o-index;
  given : length l.ranges.given ≤ length l.fn.ranges.given + l.o-index;
  made : length l.made ≤ l.o-index;
  same : operands_named l.scope.names.now l.scope.headers.now l.scope.keyed.now l.fn.ranges l.raw ≡ behind l.made (operands_named l.scope.names.now l.scope.headers.now l.scope.keyed.now l.ranges (drop l.o-index l.raw));
}
