use Rattle.std.proofs.Common.{◌∙◌, [], ◌∷◌, ap, map, sym, subst, flat_map}
use Rattle.std.proofs.lemmas.List.{append-nil}
use Rattle.std.proofs.lemmas.Result.{on_ok_weaker}
use Rattle.mir_meaning.specs.Places.{each_once}
use Rattle.spiller.specs.Additions.{own_uses}
use Rattle.spiller.specs.Listed.{keyed_tied_uses}
use Rattle.spiller.specs.Views.{spilling_of, way_of}
use Rattle.spiller.proofs.ListSteps.{first-ways, lists-operands, lists-same}
use Rattle.spiller.proofs.remat.add_instr.Goals as goal

pub returns : goal.returns
returns c = λ form.
    let view = c.args.view in
    let ds = c.args.definitions.now in
    let i = c.args.instr.now in
    let mid = c.add_instr_ways.new.readings.items in
    let new = c.add_tied.new.readings.items in
    let uses = own_uses view.target.now view.live.now.func view.v i in
    on_ok_weaker c.add_tied.result
    (λ l. lists-operands view ds (i ∷ []) c.as_slice.result.now c.args.readings.now.items mid new (form, tt)
    (ap (map (way_of view.v)) c.as_slice.ensures.value ∙ (first-ways view.v c.new-ways.result.items c.add_ways.new.ways.items uses c.new-ways.ensures.items c.in_ok-add_ways.ensures ∙ ap (each_once []) (sym (append-nil uses))))
    (c.in_ok-add_instr_ways.ensures form)
    (lists-same view ds (λ s. keyed_tied_uses s i) (λ s. flat_map (keyed_tied_uses s) (i ∷ [])) mid new (λ slot facts. sym (append-nil (keyed_tied_uses (spilling_of view slot facts) i))) l))
    c.add_tied.ensures
