use Rattle.std.proofs.Common.{◌≡◌, Some, ◌∙◌}
use Rattle.std.specs.Prelude.{◌==◌}
use Rattle.std.specs.List.{position}
use Rattle.target_desc.proofs.Cut.{cut_there, rest_is}
use Rattle.target_desc.proofs.text.cut.Goals as goal

pub returns-in-Some-clause-back : goal.returns-in-Some-clause-back
returns-in-Some-clause-back c =
    let found : position (λ b. b == c.args.byte) c.args.text.now ≡ Some c.in-Some.k = cc in
    rw c.split_at.ensures.back (rest_is c.args.text.now c.in-Some.k ∙ (cut_there c.args.byte c.args.text.now c.in-Some.k found).1)
