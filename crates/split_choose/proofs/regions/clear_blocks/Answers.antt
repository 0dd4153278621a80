use Rattle.std.proofs.Common.{◌≡◌, ◌∙◌, ◌++◌, ◌∷◌, [], List, ap, sym, subst, map}
use Rattle.std.specs.Prelude.{nat_le}
use Rattle.std.specs.List.{list_all}
use Rattle.live_lanes.specs.declared.ask.extent.Stretch.{Stretch}
use Rattle.split_choose.specs.declared.spans.Span.{Span}
use Rattle.split_choose.specs.Spans.{AreStretches, is_alone, is_clear_in}
use Rattle.split_choose.proofs.Walks.{all_at, map_next}
use Rattle.split_choose.proofs.regions.clear_blocks.Goals as goal

pub spans-preserved : goal.spans-preserved
spans-preserved c = λ ordered spans.
    let s = c.span-item.result in
    let P : List Stretch → Type 0 = AreStretches in
    let here : c.is_alone.result ≡ is_clear_in c.args.view.m.now c.args.view.v c.args.register s =
    c.is_alone.ensures ordered (subst P (sym c.as_slice.ensures.value) (all_at (λ (x : Span). list_all (λ (at : Stretch). nat_le at.first at.last) x.stretches.items) c.args.view.spans.now c.spans.span-index s spans c.spans-test.true c.span-item.is))
    ∙ ap (is_alone c.args.view.m.now c.args.view.v c.args.register s.position) c.as_slice.ensures.value in
    c.in_ok-push.ensures.items
    ∙ ap (λ b. c.spans.clear.items ++ b ∷ []) here
    ∙ ap (λ bs. bs ++ is_clear_in c.args.view.m.now c.args.view.v c.args.register s ∷ []) (c.spans.invariant ordered spans)
    ∙ map_next (is_clear_in c.args.view.m.now c.args.view.v c.args.register) c.args.view.spans.now c.spans.span-index s c.spans-test.true c.span-item.is
