-- The part of a range in a register is offered.
use Rattle.std.proofs.Common.{◌≡◌, ◌∙◌, ◌<◌, ◌*◌, ℕ, List, Bool, Option, Some, None, ap, sym, refl, length, map}
use Rattle.target_base.specs.declared.types.Reg.{Reg}
use Rattle.interference.specs.declared.matrix.Matrix.{Matrix}
use Rattle.interference.specs.Clashes.{IsOrdered}
use Rattle.split_choose.specs.declared.spans.Span.{Span}
use Rattle.split_choose.specs.declared.regions.InsidePart.{InsidePart}
use Rattle.split_choose.specs.declared.regions.RegionCandidate.{RegionCandidate}
use Rattle.split_choose.specs.Bundles.{AreEarlier}
use Rattle.split_choose.specs.Spans.{AreSpans, is_clear_in}
use Rattle.split_choose.specs.Regions.{ArePositions, inside_in, capped, costs_of}
use Rattle.split_choose.specs.Parts.{IsReady, IsPart, part_in, part_cost}

pub part_is : (m : Matrix) (v : ℕ) (ps : List ℕ) (spans : List Span) (r : Reg) (o : RegionCandidate) (clear flags : List Bool) (insides seen : List InsidePart) (cost : ℕ)
    → (IsOrdered m → AreSpans spans → clear ≡ map (is_clear_in m v r) spans) → flags ≡ clear
    → ((test : Span → Bool) → flags ≡ map test spans → length m.live.func.blocks < 2147483648 → ArePositions (length m.live.func.blocks) spans → AreEarlier ps → insides ≡ map (inside_in ps test spans) spans)
    → seen ≡ insides → ((test : Span → InsidePart) → seen ≡ map test spans → cost ≡ capped (costs_of test spans))
    → o.register ≡ r → o.insides.items ≡ insides → o.cost ≡ cost → IsReady m ps spans → IsPart m v ps spans r o
part_is m v ps spans r o clear flags insides seen cost cleared same placed shown costs register parts price ready =
    let a : insides ≡ map (part_in m v ps spans r) spans = placed (is_clear_in m v r) (same ∙ cleared ready.order ready.stretches) ready.few ready.positions ready.earlier in
    record {
      register = register;
      insides = parts ∙ a;
      cost = price ∙ costs (part_in m v ps spans r) (shown ∙ a);
    }
