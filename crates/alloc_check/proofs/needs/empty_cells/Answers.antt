use Rattle.std.proofs.Common.{ap, ◌∙◌}
use Rattle.alloc_check.specs.Cells.{asked_in}
use Rattle.alloc_check.specs.declared.cells.FactBucket.{FactBucket}
use Rattle.alloc_check.proofs.Celled.{asked-empty}
use Rattle.alloc_check.proofs.needs.empty_cells.Goals as goal

pub loop-preserved : goal.loop-preserved
loop-preserved c =
    let cell : FactBucket = record { left = c.loop.left; right = c.loop.right; facts = c.new-facts.result } in
    ap (asked_in c.args.slots) c.in_ok-push.ensures.ok ∙ asked-empty c.args.slots c.loop.cells cell c.loop.invariant c.new-facts.ensures
