use Rattle.std.proofs.Common.{◌≡◌, ◌∙◌, sym, ap, subst, eqb}
use Rattle.std.specs.Prelude.{nat_eq}
use Rattle.std.specs.Ordering.{nat_cmp}
use Rattle.std.specs.List.{list_any, dedup}
use Rattle.std.specs.List.Sorted.{IsStrictlySortedBy}
use Rattle.std.proofs.lemmas.List.Filters.{dedup_is}
use Rattle.std.proofs.lemmas.List.Sorted.{list_any-IsPermutation}
use Rattle.std.proofs.lemmas.Map.Keys.{IsStrictlyIncreasing-dedup, sorted_from_strictly_increasing}
use Rattle.split_choose.proofs.Positions.{any-dedup}
use Rattle.split_choose.proofs.spans.positions_of.Goals as goal

pub returns-clause-order : goal.returns-clause-order
returns-clause-order c =
    let was = c.sort.new.self.items in
    let left : c.dedup.new.self.items ≡ dedup eqb was = dedup_is eqb was c.dedup.new.self.items c.dedup.ensures.filtered in
    subst (IsStrictlySortedBy nat_cmp) (sym left) (sorted_from_strictly_increasing (dedup eqb was) (IsStrictlyIncreasing-dedup was c.in_ok-sort.ensures.sorted))

pub returns-clause-all : goal.returns-clause-all
returns-clause-all c = λ k.
    let was = c.sort.new.self.items in
    let left : c.dedup.new.self.items ≡ dedup eqb was = dedup_is eqb was c.dedup.new.self.items c.dedup.ensures.filtered in
    ap (list_any (nat_eq k)) left ∙ (any-dedup was k ∙ (sym (list_any-IsPermutation (nat_eq k) c.in_ok-positions.positions.items was c.sort.ensures.permutation) ∙ ap (list_any (nat_eq k)) c.in_ok-positions.ensures))
