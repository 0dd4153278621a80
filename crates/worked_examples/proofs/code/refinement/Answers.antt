use Rattle.worked_examples.proofs.CodeLemmas.Differing.{lanes, events, ends, counts, divisors, asks_nothing}
use Rattle.worked_examples.proofs.code.refinement.Goals as goal

pub returns : goal.returns
returns c = record {
  lanes_stay = lanes;
  events_stay = events;
  ends_stay = ends;
  counts_stay = counts;
  divisors_stay = divisors;
  undefined_asks_nothing = asks_nothing;
}
