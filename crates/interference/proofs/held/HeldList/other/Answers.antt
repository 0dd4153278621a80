use Rattle.std.proofs.Common.{◌≡◌, ◌≤◌, ◌+◌, ◌-◌, ℕ, suc, Bool, true, false, sym, ap, ◌∙◌, subst, arith}
use Rattle.std.specs.Prelude.{not, nat_eq}
use Rattle.std.specs.List.{list_any, list_all}
use Rattle.live_lanes.proofs.Held.{or-none}
use Rattle.interference.specs.declared.held.RangeExtent.{RangeExtent}
use Rattle.interference.specs.Clashes.{held_of, AreApart, begins_by, is_taken, is_taken_by}
use Rattle.interference.specs.Parts.{parts_of, part_before, before, lies_before}
use Rattle.interference.proofs.Parts.{behind_all}
use Rattle.interference.proofs.Walked.{part-apart, part-begun, touched-all, touched-step, none-ahead, found-in, or-false}
use Rattle.interference.proofs.held.HeldList.other.Goals as goal

pub parts-init : goal.parts-init
parts-init c = λ filled apart.
    let slots = c.args.slots.now in
    let gap = c.behind-gap.result in
    let e : gap.part + 1 ≡ suc gap.part = omega arith in
    ap (λ j. is_taken slots (before (parts_of c.args.self.now) gap j) c.args.but c.args.at) e
    ∙ touched-all slots (parts_of c.args.self.now) gap (held_of c.args.self.now) c.args.at apart (c.behind-gap.ensures.before filled apart) (λ h. not (nat_eq h.range c.args.but))

pub returns-in-Other : goal.returns-in-Other
returns-in-Other c = λ filled apart.
    let slots = c.args.slots.now in
    let at = c.args.at in
    let ps = parts_of c.args.self.now in
    let hs = held_of c.args.self.now in
    let gap = c.behind-gap.result in
    let same = c.behind-gap.ensures.before filled apart in
    let j : ℕ = c.parts.part - 1 in
    let le : j ≤ gap.part = omega arith in
    let next : suc j ≡ c.parts.part = omega arith in
    let stretches : c.part_before.result.now ≡ part_before ps gap j = c.part_before.ensures c.behind-gap.ensures.within in
    let n : ℕ = behind_all slots 0 (before ps gap j) in
    let begun : list_all (begins_by slots at.last) c.part_before.result.now ≡ true = ap (list_all (begins_by slots at.last)) stretches ∙ part-begun slots ps gap hs at apart same j le in
    let low : AreApart slots n c.part_before.result.now = subst (AreApart slots n) (sym stretches) (part-apart slots ps gap hs at apart same j le) in
    let met = c.in-Other.ensures begun n low in
    (met.0, found-in slots ps gap hs at apart same (λ h. nat_eq h.range c.in-Other.range) j le (ap (λ xs. is_taken_by slots xs c.in-Other.range at) (sym stretches) ∙ met.1))

pub returns-in-Behind : goal.returns-in-Behind
returns-in-Behind c = λ filled apart.
    let slots = c.args.slots.now in
    let at = c.args.at in
    let ps = parts_of c.args.self.now in
    let hs = held_of c.args.self.now in
    let gap = c.behind-gap.result in
    let same = c.behind-gap.ensures.before filled apart in
    let j : ℕ = c.parts.part - 1 in
    let le : j ≤ gap.part = omega arith in
    let next : suc j ≡ c.parts.part = omega arith in
    let stretches : c.part_before.result.now ≡ part_before ps gap j = c.part_before.ensures c.behind-gap.ensures.within in
    let n : ℕ = behind_all slots 0 (before ps gap j) in
    let begun : list_all (begins_by slots at.last) c.part_before.result.now ≡ true = ap (list_all (begins_by slots at.last)) stretches ∙ part-begun slots ps gap hs at apart same j le in
    let low : AreApart slots n c.part_before.result.now = subst (AreApart slots n) (sym stretches) (part-apart slots ps gap hs at apart same j le) in
    let met = c.in-Behind.ensures begun n low in
    let test : RangeExtent → Bool = λ h. not (nat_eq h.range c.args.but) in
    let ahead : is_taken slots (before ps gap j) c.args.but at ≡ false = none-ahead slots ps gap hs at apart same test j le (ap (list_any (lies_before slots at.first)) (sym stretches) ∙ met.1) in
    let here : is_taken slots (part_before ps gap j) c.args.but at ≡ false = ap (λ xs. is_taken slots xs c.args.but at) (sym stretches) ∙ met.0 in
    sym (c.parts.invariant filled apart) ∙ ap (λ k. is_taken slots (before ps gap k) c.args.but at) (sym next)
    ∙ touched-step slots ps gap hs at apart same test j ∙ or-none (is_taken slots (before ps gap j) c.args.but at) (is_taken slots (part_before ps gap j) c.args.but at) ahead here

pub parts-preserved : goal.parts-preserved
parts-preserved c = λ filled apart.
    let slots = c.args.slots.now in
    let at = c.args.at in
    let ps = parts_of c.args.self.now in
    let hs = held_of c.args.self.now in
    let gap = c.behind-gap.result in
    let same = c.behind-gap.ensures.before filled apart in
    let j : ℕ = c.parts.part - 1 in
    let le : j ≤ gap.part = omega arith in
    let next : suc j ≡ c.parts.part = omega arith in
    let stretches : c.part_before.result.now ≡ part_before ps gap j = c.part_before.ensures c.behind-gap.ensures.within in
    let n : ℕ = behind_all slots 0 (before ps gap j) in
    let begun : list_all (begins_by slots at.last) c.part_before.result.now ≡ true = ap (list_all (begins_by slots at.last)) stretches ∙ part-begun slots ps gap hs at apart same j le in
    let low : AreApart slots n c.part_before.result.now = subst (AreApart slots n) (sym stretches) (part-apart slots ps gap hs at apart same j le) in
    let met = c.in-Open.ensures begun n low in
    let test : RangeExtent → Bool = λ h. not (nat_eq h.range c.args.but) in
    let here : is_taken slots (part_before ps gap j) c.args.but at ≡ false = ap (λ xs. is_taken slots xs c.args.but at) (sym stretches) ∙ met in
    sym (touched-step slots ps gap hs at apart same test j ∙ or-false (is_taken slots (before ps gap j) c.args.but at) (is_taken slots (part_before ps gap j) c.args.but at) here)
    ∙ ap (λ k. is_taken slots (before ps gap k) c.args.but at) next ∙ c.parts.invariant filled apart
