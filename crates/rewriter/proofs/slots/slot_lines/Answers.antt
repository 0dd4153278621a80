use Rattle.std.proofs.Common.{arith, refl}
use Rattle.rewriter.specs.Head.{slot_line}
use Rattle.rewriter.proofs.Heads.{lines_more, lines_all}
use Rattle.rewriter.proofs.slots.slot_lines.Goals as goal

pub slots-preserved : goal.slots-preserved
slots-preserved c = lines_more (slot_line c.args.target.now) c.slots.lines _ _ c.args.slots.now c.slots.k _ _ (omega arith) refl c.in_ok-push_slot.ensures c.slots.invariant

pub returns : goal.returns
returns c = lines_all (slot_line c.args.target.now) c.slots.lines _ c.args.slots.now c.slots.k (omega arith) c.slots.invariant
