use Rattle.std.proofs.Common.{arith, drop, ◌+◌}
use Rattle.std.specs.Prelude.{flat_map}
use Rattle.std.proofs.lemmas.Grind.{common_steps}
use Rattle.mir_interp.specs.Stands.{symbols_among}
use Rattle.mir_interp.proofs.Naming.{first_seen_append}
use Rattle.mir_interp.proofs.names.symbols_of.Goals as goal

pub loop-b-preserved : goal.loop-b-preserved
loop-b-preserved c =
    let a = first_seen_append c.loop-b.names (symbols_among c.b-item.result.instrs) (flat_map (λ b. symbols_among b.instrs) (drop (c.loop-b.b-index + 1) c.as_slice-b-items.result.now)) in
    grind (arith, common_steps, a)
