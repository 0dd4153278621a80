use Rattle.std.proofs.Common.{◌∙◌, ap, map}
use Rattle.word_set.specs.Words.{with_name}
use Rattle.word_set.proofs.Places.{name_inserted}
use Rattle.word_set.proofs.WordSet.add.Goals as goal

pub returns-clause-ok : goal.returns-clause-ok
returns-clause-ok c =
    ap (λ keys. map (λ v. v.items) keys) c.in_ok-insert.ensures.keys
    ∙ name_inserted c.self.inside.set.keys (λ v. v.items) c.in_ok-from_slice.field-0 c.args.word.now c.in_ok-from_slice.ensures.items
    ∙ ap (λ words. with_name words c.args.word.now) c.self.view_is
