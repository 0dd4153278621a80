use Rattle.std.proofs.Common.{◌≡◌, ◌++◌, ◌∷◌, [], ◌∙◌}
use Rattle.mir_read.proofs.Sets.{put_new}
use Rattle.mir_read.proofs.ranges.Ranges.append.Goals as goal

pub returns-clause-value : goal.returns-clause-value
returns-clause-value c =
    let names : c.add.new.self ≡ c.args.self.now.names ++ c.args.name.now ∷ [] = c.in_ok-add.ensures.ok ∙ put_new c.args.self.now.names c.args.name.now c.requires.new in
    cc (names, c.in_ok-push.ensures.ok)
