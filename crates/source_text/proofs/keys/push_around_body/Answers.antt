use Rattle.std.proofs.Common.{length, refl}
use Rattle.mir_text.proofs.Lines.{nothing}
use Rattle.source_text.specs.Keys.{above_body, below_body}
use Rattle.source_text.proofs.Ends.{ended}
use Rattle.source_text.proofs.keys.push_around_body.Goals as goal

pub returns-clause-above : goal.returns-clause-above
returns-clause-above c = ended above_body c.lines.above _ c.lines.rest.now refl (nothing (length c.lines.rest.now) c.is_empty.result c.is_empty.ensures c.lines-test.false) c.lines.invariant.above

pub returns-clause-below : goal.returns-clause-below
returns-clause-below c = ended below_body c.lines.below _ c.lines.rest.now refl (nothing (length c.lines.rest.now) c.is_empty.result c.is_empty.ensures c.lines-test.false) c.lines.invariant.below
