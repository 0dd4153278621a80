use Rattle.std.proofs.Common.{◌≡◌, ◌∙◌, ◌<◌, ◌*◌, ◌++◌, ◌∷◌, [], Bool, false, List, ap, sym, length, take, map, get_or, arith}
use Rattle.split_choose.specs.declared.spans.Span.{Span}
use Rattle.split_choose.specs.Bundles.{start_of, end_of, root_of}
use Rattle.split_choose.specs.Regions.{inside_at, inside_in}
use Rattle.split_choose.proofs.Walks.{map_next}
use Rattle.split_choose.proofs.Flags.{inside-told, position-at}
use Rattle.split_choose.proofs.regions.insides_of.Goals as goal

pub spans-preserved : goal.spans-preserved
spans-preserved c = λ test are few positions earlier.
    let parents = c.args.view.bundles.now.parents.items in
    let spans = c.args.view.spans.now in
    let s = c.span-item.result in
    let here : c.inside_of.result ≡ inside_in parents test spans s =
    c.inside_of.ensures (omega (arith, few, position-at _ spans c.spans.k s positions c.spans-test.true c.span-item.is))
    ∙ ap (λ (flags : List Bool). inside_at c.flag_at.result (get_or flags (root_of parents (start_of s.position)) false) (get_or flags (root_of parents (end_of s.position)) false) s) c.as_slice.ensures.value
    ∙ inside-told parents test spans _ c.in_ok-outside.outside.items c.spans.k s c.flag_at.result c.args.clear.now earlier positions (c.in_ok-outside.ensures test are few positions) c.spans-test.true c.span-item.is are c.flag_at.ensures in
    c.in_ok-push.ensures.items
    ∙ ap (λ x. c.spans.insides.items ++ x ∷ []) here
    ∙ ap (λ xs. xs ++ inside_in parents test spans s ∷ []) (c.spans.invariant test are few positions earlier)
    ∙ map_next (inside_in parents test spans) spans c.spans.k s c.spans-test.true c.span-item.is
