use Rattle.std.proofs.Common.{◌≡◌, ◌++◌, take}
use Rattle.std.specs.Prelude.{filter, map}
use Rattle.join_laws.specs.Joined.{copies_ranges}
use Rattle.coalescer.proofs.order.push_copies.Given as goal

abbrev pub invariant-instrs : goal.invariant-instrs
invariant-instrs l = l.copies.items ≡ l.fn.copies.items ++ map (λ i. (l.freq, i.id)) (filter (copies_ranges l.target) (take l.instr-index l.block.instrs))
