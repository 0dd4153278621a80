use Rattle.std.proofs.Common.{◌∙◌, ap}
use Rattle.std.specs.Prelude.{position}
use Rattle.target_base.specs.Storage.{same_numbers}
use Rattle.word_set.proofs.Places.{place_among}
use Rattle.word_set.proofs.WordSet.place.Goals as goal

pub returns : goal.returns
returns c = c.get_index_of.ensures.index ∙ place_among c.self.inside.set.keys (λ v. v.items) c.args.word.now ∙ ap (position (same_numbers c.args.word.now)) c.self.view_is
