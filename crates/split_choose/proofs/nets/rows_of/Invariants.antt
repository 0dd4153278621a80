use Rattle.std.proofs.Common.{◌≡◌, ◌+◌, ◌*◌, ◌<◌, ◌≤◌, ◌++◌, Bool, length, drop, map}
use Rattle.split_choose.specs.declared.spans.Span.{Span}
use Rattle.split_choose.specs.Bundles.{AreEarlier}
use Rattle.split_choose.specs.Regions.{ArePositions}
use Rattle.split_choose.specs.Nets.{node_of, has_inside, rows_from}
use Rattle.split_choose.specs.BundleNodes.{AreNodes}
use Rattle.split_choose.proofs.nets.rows_of.Given as goal

abbrev pub invariant-spans : goal.invariant-spans
invariant-spans l =
    let parents = l.view.bundles.now.parents.items in
    let blocks = length l.view.m.now.live.func.blocks in
    let spans = l.view.spans.now in
    (test : Span → Bool) → l.clear ≡ map test spans → blocks < 1073741823 → ArePositions blocks spans → AreEarlier parents
    → AreNodes parents test spans (2 * blocks) l.bundles → l.bundles.next + length spans < 4294967296
    → (l.next ≤ l.bundles.next + l.k)
    × (l.rows.items ++ rows_from (node_of parents test spans) (has_inside test) l.next (drop l.k spans) ≡ rows_from (node_of parents test spans) (has_inside test) l.bundles.next spans)
