use Rattle.live_edits.proofs.DraftPlaces.{gap-found}
use Rattle.std.proofs.Common.{sym, ap, ◌∙◌}
use Rattle.mir_func.specs.At.{instrs_at}
use Rattle.mir_func.specs.Edits.{gap_place}
use Rattle.live_edits.proofs.draft.Draft.gap_place.Goals as goal

pub returns-in-Some : goal.returns-in-Some
returns-in-Some c = λ order there here.
    let f = c.args.self.now.func in
    gap-found f c.args.gap c.args.position c.in-Some.id c.place_in.result c.place_in.ensures.function c.in-Some.is here there (c.place_in.ensures.place order)
    ∙ ap (λ q. gap_place q (instrs_at f.blocks c.args.position)) (sym c.in-Some.is)
