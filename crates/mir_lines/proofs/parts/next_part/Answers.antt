use Rattle.std.proofs.Common.{◌≡◌, Some, None}
use Rattle.std.specs.Prelude.{◌==◌, position}
use Rattle.mir_lines.proofs.Cut.{parts_cut, parts_whole, behind_is}
use Rattle.mir_lines.proofs.parts.next_part.Goals as goal

pub returns-in-None-clause-whole : goal.returns-in-None-clause-whole
returns-in-None-clause-whole c =
    let none : position (λ b. b == 44) c.args.text.now ≡ None = cc (c.find_comma.ensures, c.in-None.is) in
    parts_whole c.args.text.now none

pub returns-in-Some-clause-whole : goal.returns-in-Some-clause-whole
returns-in-Some-clause-whole c =
    let found : position (λ b. b == 44) c.args.text.now ≡ Some c.in-Some.k = cc (c.find_comma.ensures, c.in-Some.is) in
    rw (behind_is c.args.text.now c.in-Some.k) (parts_cut c.args.text.now c.in-Some.k found)
