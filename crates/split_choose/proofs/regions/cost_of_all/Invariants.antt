use Rattle.std.proofs.Common.{◌≡◌, take, map}
use Rattle.split_choose.specs.declared.spans.Span.{Span}
use Rattle.split_choose.specs.declared.regions.InsidePart.{InsidePart}
use Rattle.split_choose.specs.Regions.{capped, costs_of}
use Rattle.split_choose.proofs.regions.cost_of_all.Given as goal

abbrev pub invariant-spans : goal.invariant-spans
invariant-spans l = (test : Span → InsidePart) → l.insides ≡ map test l.spans → l.cost ≡ capped (costs_of test (take l.k l.spans))
