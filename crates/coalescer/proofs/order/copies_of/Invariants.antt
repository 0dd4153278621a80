use Rattle.std.proofs.Common.{◌≡◌, take}
use Rattle.std.specs.Prelude.{flat_map, zip}
use Rattle.join_laws.specs.Joined.{block_copies}
use Rattle.coalescer.proofs.order.copies_of.Given as goal

abbrev pub invariant-layout : goal.invariant-layout
invariant-layout l = l.copies.items ≡ flat_map (block_copies l.target) (take l.k (zip l.freqs l.blocks))
