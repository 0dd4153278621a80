use Rattle.std.proofs.Common.{◌≡◌, ◌<◌, ◌≤◌, ◌+◌, ◌-◌, ◌*◌, ℕ, suc, Bool, true, false, ◌&&◌, length, refl, sym, ap, ◌∙◌, subst, arith}
use Rattle.std.specs.Prelude.{not, ◌||◌, nat_eq}
use Rattle.std.specs.List.{list_any, list_all}
use Rattle.interference.specs.declared.held.RangeExtent.{RangeExtent}
use Rattle.interference.specs.Clashes.{held_of, AreApart, begins_by, is_taken_by}
use Rattle.interference.specs.Parts.{parts_of, part_before, before, lies_before}
use Rattle.interference.specs.Marked.{is_marked}
use Rattle.interference.proofs.Parts.{behind_all}
use Rattle.interference.proofs.Walked.{part-apart, part-begun, touched-all, touched-step, none-ahead, turned}
use Rattle.interference.proofs.held.HeldList.mark.Goals as goal

pub parts-init : goal.parts-init
parts-init c =
    record {
      room = refl;
      marked = λ filled apart w lt.
          let slots = c.args.slots.now in
          let gap = c.behind-gap.result in
          let e : gap.part + 1 ≡ suc gap.part = omega arith in
          ap (λ b. (not (nat_eq w c.args.but) && b) || is_marked c.args.marks.now.words.items w)
          (ap (λ j. is_taken_by slots (before (parts_of c.args.self.now) gap j) w c.args.at) e
          ∙ touched-all slots (parts_of c.args.self.now) gap (held_of c.args.self.now) c.args.at apart (c.behind-gap.ensures.before filled apart) (λ h. nat_eq h.range w));
    }

pub returns-then-not-mark_met-clause-marked : goal.returns-then-not-mark_met-clause-marked
returns-then-not-mark_met-clause-marked c = λ filled apart w lt.
    let slots = c.args.slots.now in
    let at = c.args.at in
    let ps = parts_of c.args.self.now in
    let hs = held_of c.args.self.now in
    let gap = c.behind-gap.result in
    let same = c.behind-gap.ensures.before filled apart in
    let j : ℕ = c.parts.part - 1 in
    let le : j ≤ gap.part = omega arith in
    let next : suc j ≡ c.parts.part = omega arith in
    let stretches : c.part_before.result.now ≡ part_before ps gap j = c.part_before.ensures c.behind-gap.ensures.within in
    let n : ℕ = behind_all slots 0 (before ps gap j) in
    let begun : list_all (begins_by slots at.last) c.part_before.result.now ≡ true = ap (list_all (begins_by slots at.last)) stretches ∙ part-begun slots ps gap hs at apart same j le in
    let low : AreApart slots n c.part_before.result.now = subst (AreApart slots n) (sym stretches) (part-apart slots ps gap hs at apart same j le) in
    let test : RangeExtent → Bool = λ h. nat_eq h.range w in
    let room : w < length c.parts.marks.words.items * 64 = subst (λ m. w < m * 64) (sym c.parts.invariant.room) lt in
    let ahead : is_taken_by slots (before ps gap j) w at ≡ false = none-ahead slots ps gap hs at apart same test j le (ap (list_any (lies_before slots at.first)) (sym stretches) ∙ c.mark_met.ensures.behind c.if-not-mark_met.true) in
    let all : is_taken_by slots (before ps gap c.parts.part) w at ≡ is_taken_by slots (part_before ps gap j) w at = ap (λ k. is_taken_by slots (before ps gap k) w at) (sym next) ∙ touched-step slots ps gap hs at apart same test j ∙ ap (λ b. b || is_taken_by slots (part_before ps gap j) w at) ahead in
    c.mark_met.ensures.marked begun n low w room
    ∙ ap (λ b. (not (nat_eq w c.args.but) && b) || is_marked c.parts.marks.words.items w) (ap (λ xs. is_taken_by slots xs w at) stretches ∙ sym all)
    ∙ c.parts.invariant.marked filled apart w lt

pub parts-preserved : goal.parts-preserved
parts-preserved c =
    record {
      room = c.mark_met.ensures.room ∙ c.parts.invariant.room;
      marked = λ filled apart w lt.
          let slots = c.args.slots.now in
          let at = c.args.at in
          let ps = parts_of c.args.self.now in
          let hs = held_of c.args.self.now in
          let gap = c.behind-gap.result in
          let same = c.behind-gap.ensures.before filled apart in
          let j : ℕ = c.parts.part - 1 in
          let le : j ≤ gap.part = omega arith in
          let next : suc j ≡ c.parts.part = omega arith in
          let stretches : c.part_before.result.now ≡ part_before ps gap j = c.part_before.ensures c.behind-gap.ensures.within in
          let n : ℕ = behind_all slots 0 (before ps gap j) in
          let begun : list_all (begins_by slots at.last) c.part_before.result.now ≡ true = ap (list_all (begins_by slots at.last)) stretches ∙ part-begun slots ps gap hs at apart same j le in
          let low : AreApart slots n c.part_before.result.now = subst (AreApart slots n) (sym stretches) (part-apart slots ps gap hs at apart same j le) in
          let test : RangeExtent → Bool = λ h. nat_eq h.range w in
          let room : w < length c.parts.marks.words.items * 64 = subst (λ m. w < m * 64) (sym c.parts.invariant.room) lt in
          let p : Bool = is_taken_by slots (part_before ps gap j) w at in
          let q : Bool = is_taken_by slots (before ps gap j) w at in
          let new = c.mark_met.ensures.marked begun n low w room ∙ ap (λ xs. (not (nat_eq w c.args.but) && is_taken_by slots xs w at) || is_marked c.parts.marks.words.items w) stretches in
          ap (λ b. (not (nat_eq w c.args.but) && q) || b) new
          ∙ turned (not (nat_eq w c.args.but)) q p (is_marked c.parts.marks.words.items w)
          ∙ ap (λ b. (not (nat_eq w c.args.but) && b) || is_marked c.parts.marks.words.items w) (sym (ap (λ k. is_taken_by slots (before ps gap k) w at) (sym next) ∙ touched-step slots ps gap hs at apart same test j))
          ∙ c.parts.invariant.marked filled apart w lt;
    }
