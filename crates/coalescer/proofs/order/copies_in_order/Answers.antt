use Rattle.std.proofs.Common.{◌≡◌, ◌∙◌, ℕ, List, map, sym, ap, subst, rules}
use Rattle.std.specs.Prelude.{flat_map, zip}
use Rattle.std.specs.List.Sorted.{IsNonDecreasingBy, IsStableByKey}
use Rattle.std.specs.Ordering.{nat_cmp}
use Rattle.std.proofs.lemmas.List.Sorted.{IsNonDecreasingBy-from_sort_by_key, answers_always}
use Rattle.mir_func.specs.declared.func.Block.{Block}
use Rattle.mir_func.specs.Value.{Function}
use Rattle.join_laws.specs.Joined.{block_copies, by_frequency}
use Rattle.coalescer.proofs.Frequencies.{AreBelow, below-moved, copies-below, rank, sorted-is}
use Rattle.coalescer.proofs.order.copies_in_order.Goals as goal

pub returns : goal.returns
returns c =
    let t = c.args.target.now in
    let fs = c.args.freqs.now in
    let xs = c.in_ok-copies.copies.items in
    let ys = c.sort_by_key.new.self.items in
    let blocks : c.as_slice-blocks.result.now ≡ c.args.live.now.func.blocks = c.as_slice-blocks.ensures ∙ ap (λ (g : Function). g.blocks) c.behind-live.view_is ∙ ap (λ (g : Function). g.blocks) c.func.ensures in
    let listed : xs ≡ flat_map (block_copies t) (zip fs c.args.live.now.func.blocks) = c.in_ok-copies.ensures ∙ ap (λ (bs : List Block). flat_map (block_copies t) (zip fs bs)) blocks in
    let below : AreBelow 18446744073709551616 xs = subst (AreBelow 18446744073709551616) (sym listed) (copies-below t fs c.args.live.now.func.blocks c.type_inv.freqs) in
    let up : IsNonDecreasingBy rank ys = IsNonDecreasingBy-from_sort_by_key rank ys c.in_ok-sort_by_key.ensures.sorted (λ a r q k. search rules) in
    let stable : IsStableByKey rank nat_cmp xs ys = c.in_ok-sort_by_key.ensures.stable rank (answers_always _ _ _ (λ f a r g h. search rules)) in
    ap (λ (cs : List (ℕ × ℕ)). map (λ d. d.1) cs) (sorted-is xs ys below (below-moved 18446744073709551616 xs ys c.in_ok-sort_by_key.ensures.permutation below) up stable ∙ ap by_frequency listed)
