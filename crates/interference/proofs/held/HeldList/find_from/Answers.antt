use Rattle.std.proofs.Common.{◌≡◌, ◌≤◌, ◌+◌, ◌-◌, ℕ, suc, Bool, false, List, sym, ap, ◌∙◌, subst, arith}
use Rattle.std.specs.Prelude.{slice_get}
use Rattle.std.specs.List.{list_any}
use Rattle.std.proofs.lemmas.List.Folds.{list_any-append}
use Rattle.live_lanes.specs.declared.ask.extent.Stretch.{Stretch}
use Rattle.live_lanes.proofs.Held.{or-none}
use Rattle.interference.specs.declared.held.RangeExtent.{RangeExtent}
use Rattle.interference.specs.Clashes.{held_of, AreApart}
use Rattle.interference.specs.Parts.{parts_of, part_before, before}
use Rattle.interference.specs.Changes.{is_piece, high_rank, low_rank, begins_before}
use Rattle.interference.proofs.Parts.{behind_all}
use Rattle.interference.proofs.Walked.{part-apart, next-apart, or-false}
use Rattle.interference.proofs.Sought.{before-there, none-ahead, all-begun}
use Rattle.interference.proofs.held.HeldList.find_from.Goals as goal

pub parts-init : goal.parts-init
parts-init c = λ behind filled apart.
    let slots = c.args.slots.now in
    let ps = parts_of c.args.self.now in
    let hs = held_of c.args.self.now in
    let gap = c.args.gap in
    let piece : RangeExtent → Bool = is_piece c.args.range c.args.start in
    let e : gap.part + 1 ≡ suc gap.part = omega arith in
    ap (λ j. list_any piece (before ps gap j)) e ∙ ap (list_any piece) (behind.begun filled apart) ∙ all-begun slots c.args.range c.args.start hs

pub returns-in-UpTo : goal.returns-in-UpTo
returns-in-UpTo c = λ behind filled apart.
    let slots = c.args.slots.now in
    let v = c.args.range in
    let start = c.args.start in
    let ps = parts_of c.args.self.now in
    let hs = held_of c.args.self.now in
    let gap = c.args.gap in
    let at : Stretch = record { first = 0; last = high_rank slots start } in
    let same = behind.begun filled apart in
    let j : ℕ = c.parts.part - 1 in
    let le : j ≤ gap.part = omega arith in
    let next : suc j ≡ c.parts.part = omega arith in
    let stretches : c.part_before.result.now ≡ part_before ps gap j = c.part_before.ensures behind.within in
    let n : ℕ = behind_all slots 0 (before ps gap j) in
    let low : AreApart slots n c.part_before.result.now = subst (AreApart slots n) (sym stretches) (part-apart slots ps gap hs at apart same j le) in
    let met = c.in-UpTo.ensures c.low_rank-low.ensures n low in
    record {
      held = met.0;
      some = met.1;
      there = before-there ps gap j (c.in-UpTo.count - 1) met.0 (ap (λ (xs : List RangeExtent). slice_get xs (c.in-UpTo.count - 1)) (sym stretches) ∙ met.2);
      is = met.3;
    }

pub returns-in-Nowhere : goal.returns-in-Nowhere
returns-in-Nowhere c = λ behind filled apart.
    let slots = c.args.slots.now in
    let v = c.args.range in
    let start = c.args.start in
    let ps = parts_of c.args.self.now in
    let hs = held_of c.args.self.now in
    let gap = c.args.gap in
    let at : Stretch = record { first = 0; last = high_rank slots start } in
    let same = behind.begun filled apart in
    let j : ℕ = c.parts.part - 1 in
    let le : j ≤ gap.part = omega arith in
    let next : suc j ≡ c.parts.part = omega arith in
    let stretches : c.part_before.result.now ≡ part_before ps gap j = c.part_before.ensures behind.within in
    let n : ℕ = behind_all slots 0 (before ps gap j) in
    let low : AreApart slots n c.part_before.result.now = subst (AreApart slots n) (sym stretches) (part-apart slots ps gap hs at apart same j le) in
    let met = c.in-Nowhere.ensures c.low_rank-low.ensures n low in
    let piece : RangeExtent → Bool = is_piece v start in
    let ahead : list_any piece (before ps gap j) ≡ false = none-ahead slots v start 0 (before ps gap j) (part_before ps gap j) (next-apart slots ps gap hs at apart same j le) (ap (list_any (begins_before slots (low_rank slots start))) (sym stretches) ∙ met.1) in
    let here : list_any piece (part_before ps gap j) ≡ false = ap (list_any piece) (sym stretches) ∙ met.0 in
    sym (c.parts.invariant behind filled apart) ∙ ap (λ k. list_any piece (before ps gap k)) (sym next)
    ∙ list_any-append piece (before ps gap j) (part_before ps gap j) ∙ or-none (list_any piece (before ps gap j)) (list_any piece (part_before ps gap j)) ahead here

pub parts-preserved : goal.parts-preserved
parts-preserved c = λ behind filled apart.
    let slots = c.args.slots.now in
    let v = c.args.range in
    let start = c.args.start in
    let ps = parts_of c.args.self.now in
    let hs = held_of c.args.self.now in
    let gap = c.args.gap in
    let at : Stretch = record { first = 0; last = high_rank slots start } in
    let same = behind.begun filled apart in
    let j : ℕ = c.parts.part - 1 in
    let le : j ≤ gap.part = omega arith in
    let next : suc j ≡ c.parts.part = omega arith in
    let stretches : c.part_before.result.now ≡ part_before ps gap j = c.part_before.ensures behind.within in
    let n : ℕ = behind_all slots 0 (before ps gap j) in
    let low : AreApart slots n c.part_before.result.now = subst (AreApart slots n) (sym stretches) (part-apart slots ps gap hs at apart same j le) in
    let met = c.in-Open.ensures c.low_rank-low.ensures n low in
    let piece : RangeExtent → Bool = is_piece v start in
    let here : list_any piece (part_before ps gap j) ≡ false = ap (list_any piece) (sym stretches) ∙ met in
    sym (list_any-append piece (before ps gap j) (part_before ps gap j) ∙ or-false (list_any piece (before ps gap j)) (list_any piece (part_before ps gap j)) here)
    ∙ ap (λ k. list_any piece (before ps gap k)) next ∙ c.parts.invariant behind filled apart
