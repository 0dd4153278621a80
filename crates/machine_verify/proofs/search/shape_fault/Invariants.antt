use Rattle.std.proofs.Common.{◌≡◌, drop, take}
use Rattle.mir_meaning.specs.Rules.{block_numbers}
use Rattle.mir_meaning.specs.Valid.{shape_fault, blocks_fault}
use Rattle.machine_verify.specs.Sets.{Holds, HoldsSlots}
use Rattle.machine_verify.proofs.search.shape_fault.Given as goal

abbrev pub invariant-search : goal.invariant-search
invariant-search l = record {
  numbers : Holds l.known.numbers (block_numbers l.q.f.now.blocks);
  seen : Holds l.known.seen (block_numbers (take l.k l.q.f.now.blocks));
  slots : HoldsSlots l.known.slots l.q.f.now;
  rest : shape_fault l.q.target.now l.q.form l.q.f.now ≡ blocks_fault l.q.target.now l.q.form l.q.f.now l.k (drop l.k l.q.f.now.blocks);
}
