use Rattle.std.proofs.Common.{◌≡◌, ◌*◌, ◌<◌, Bool, length, take, map}
use Rattle.split_choose.specs.declared.spans.Span.{Span}
use Rattle.split_choose.specs.Bundles.{AreEarlier}
use Rattle.split_choose.specs.Regions.{ArePositions, inside_in}
use Rattle.split_choose.proofs.regions.insides_of.Given as goal

abbrev pub invariant-spans : goal.invariant-spans
invariant-spans l = (test : Span → Bool) → l.clear ≡ map test l.view.spans.now → length l.view.m.now.live.func.blocks < 2147483648
    → ArePositions (length l.view.m.now.live.func.blocks) l.view.spans.now → AreEarlier l.view.bundles.now.parents.items
    → l.insides.items ≡ map (inside_in l.view.bundles.now.parents.items test l.view.spans.now) (take l.k l.view.spans.now)
