use Rattle.std.proofs.Common.{◌≡◌, take, map}
use Rattle.interference.specs.Clashes.{IsOrdered}
use Rattle.split_choose.specs.Spans.{AreSpans, is_clear_in}
use Rattle.split_choose.proofs.regions.clear_blocks.Given as goal

abbrev pub invariant-spans : goal.invariant-spans
invariant-spans l = IsOrdered l.view.m.now → AreSpans l.view.spans.now → l.clear.items ≡ map (is_clear_in l.view.m.now l.view.v l.fn.register) (take l.span-index l.view.spans.now)
