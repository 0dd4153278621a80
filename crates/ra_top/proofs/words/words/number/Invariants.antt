use Rattle.std.proofs.Common.{◌≡◌, ◌<◌, ◌^◌, drop}
use Rattle.ra_top.specs.Words.Words.{number_of, number_behind}
use Rattle.ra_top.proofs.words.words.number.Given as goal

abbrev pub invariant-loop-b : goal.invariant-loop-b
invariant-loop-b l = record {
  value : number_behind l.n (drop l.b-index l.digits) ≡ number_of l.digits;
  within : l.n < 10 ^ l.b-index;
}
