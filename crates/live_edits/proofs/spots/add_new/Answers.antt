use Rattle.std.proofs.Common.{◌∷◌, [], ◌∙◌, sym, ap, subst}
use Rattle.std.proofs.lemmas.List.{map_push}
use Rattle.mir_meaning.specs.Paths.{Among}
use Rattle.live_edits.specs.Pieces.{node_of, nodes_of}
use Rattle.live_edits.proofs.AlikeLists.{alike-equal, alike-own}
use Rattle.live_edits.proofs.RiseSteps.{only}
use Rattle.live_edits.proofs.spots.add_new.Goals as goal

pub returns-then-is_last : goal.returns-then-is_last
returns-then-is_last c =
    let old = c.args.spots.now.items in
    let n = node_of c.args.spot in
    let own : Among n (nodes_of old) = subst (λ xs. Among n (nodes_of xs)) c.as_slice.ensures.value (c.is_last.ensures c.if-is_last.true) in
    alike-own (nodes_of old) (n ∷ []) (λ m a. subst (λ y. Among y (nodes_of old)) (sym (only m n a)) own)

pub returns : goal.returns
returns c = alike-equal _ _ (ap nodes_of c.in_ok-push.ensures.items ∙ map_push node_of c.args.spots.now.items c.args.spot)
