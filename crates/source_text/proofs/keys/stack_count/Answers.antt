use Rattle.std.proofs.Common.{◌≡◌, length, ap, arith}
use Rattle.mir_text.specs.Document.{lines}
use Rattle.mir_text.proofs.Lines.{lines_none, nothing}
use Rattle.source_text.specs.Keys.{stack_count}
use Rattle.source_text.proofs.keys.stack_count.Goals as goal

pub returns : goal.returns
returns c =
    let none : length c.lines.rest.now ≡ 0 = nothing (length c.lines.rest.now) c.is_empty.result c.is_empty.ensures c.lines-test.false in
    let left : stack_count (lines c.lines.rest.now) ≡ 0 = ap stack_count (lines_none c.lines.rest.now none) in
    omega (arith, left, c.lines.invariant.same)
