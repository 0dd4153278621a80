-- The numbers of the bundles of a range.
use Rattle.std.specs.Prelude.{◌≡◌, ℕ, ◌+◌, Bool, List}
use Rattle.split_choose.specs.declared.spans.Span.{Span}
use Rattle.split_choose.specs.declared.nets.BundleNodes.{BundleNodes}
use Rattle.split_choose.specs.Regions.{AreOut}
use Rattle.split_choose.specs.Nets.{AreFlags, is_free, count_below, ranks}

-- they tell which of so many borders' bundles are out, and the nodes of the others
pub record AreNodes (parents : List ℕ) (clear : Span → Bool) (spans : List Span) (count : ℕ) (made : BundleNodes) : Type 0 where
  pub out : AreOut parents clear spans count made.outside.items
  pub free : List Bool
  pub flags : AreFlags count (is_free parents clear spans) free
  pub numbers : made.numbers.items ≡ ranks 2 free
  pub next : made.next ≡ 2 + count_below (is_free parents clear spans) count
