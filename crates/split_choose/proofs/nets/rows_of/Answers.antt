use Rattle.std.proofs.Common.{◌≡◌, ◌∙◌, ◌+◌, ◌*◌, ◌++◌, cond, false, ap, length, get_or, drop, arith}
use Rattle.split_choose.specs.Nets.{node_of, has_inside, row_of, rows_from}
use Rattle.split_choose.proofs.Walks.{mapped-at}
use Rattle.split_choose.proofs.Flags.{position-at}
use Rattle.split_choose.proofs.Netting.{next-bound, rows_next}
use Rattle.split_choose.proofs.nets.rows_of.Goals as goal

pub spans-preserved : goal.spans-preserved
spans-preserved c = λ test are few positions earlier nodes fits.
    let parents = c.args.view.bundles.now.parents.items in
    let spans = c.args.view.spans.now in
    let count = length c.args.view.m.now.live.func.blocks in
    let s = c.span-item.result in
    let node = node_of parents test spans in
    let was = c.spans.invariant test are few positions earlier nodes fits in
    let low = position-at count spans c.spans.k s positions c.spans-test.true c.span-item.is in
    let has : c.has_inside-has.result ≡ has_inside test s =
    c.has_inside-has.ensures test (c.flag_at.ensures ∙ (ap (λ xs. get_or xs c.spans.k false) are ∙ mapped-at test spans c.spans.k s false c.spans-test.true c.span-item.is)) in
    let row : c.row_at.result ≡ row_of node (has_inside test s) c.spans.next s =
    c.row_at.ensures test (2 * count) earlier nodes (omega arith) (omega (arith, low)) ∙ ap (λ b. row_of node b c.spans.next s) has in
    let goes : c.next_number-next.result ≡ cond (has_inside test s) (c.spans.next + 1) c.spans.next =
    c.next_number-next.ensures (omega (arith, was.0, fits, c.spans-test.true)) ∙ ap (λ b. cond b (c.spans.next + 1) c.spans.next) has in
    let bound = next-bound (has_inside test s) c.spans.next (c.args.bundles.now.next + c.spans.k) c.next_number-next.result was.0 goes in (
      omega (arith, bound),
      ap (λ xs. xs ++ rows_from node (has_inside test) c.next_number-next.result (drop (c.spans.k + 1) spans)) c.in_ok-push.ensures.items
          ∙ rows_next node (has_inside test) c.args.bundles.now.next c.spans.next c.next_number-next.result spans c.spans.k s c.spans.rows.items c.row_at.result c.spans-test.true c.span-item.is row goes was.1,
    )
