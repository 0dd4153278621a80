use Rattle.std.proofs.Common.{◌≡◌, ◌∙◌, sym, ap, arith, get_or}
use Rattle.std.proofs.lemmas.List.{get_or_default}
use Rattle.target_base.specs.Numbers.{reg_number}
use Rattle.evictor.specs.Settings.{setting_of}
use Rattle.evictor.proofs.Choosing.{best_more, best_all}
use Rattle.evictor.proofs.choice.cheapest_of.Goals as goal

pub candidates-preserved : goal.candidates-preserved
candidates-preserved c = λ ordered weighs fits.
    let a = c.args in
    let s = setting_of a.m.now a.freqs.now a.ranks.now a.v in
    let given = c.in_ok-view.ensures.given in
    let number = c.in_ok-view.ensures.number fits in
    let weight = c.in_ok-view.ensures.weight weighs in
    let is = (rw (given.0, given.1, given.2, given.3) at c.in_ok-eviction_at.ensures) ordered weighs number weight in
    let r = get_or a.found.now c.candidates.r-index (reg_number 0) in
    c.best_with-best.ensures ∙ best_more s a.found.now c.candidates.r-index r c.in_ok-eviction_at.field-0 c.candidates.best c.candidates-test.true (get_or_default a.found.now c.candidates.r-index (reg_number 0) r c.candidates-test.true) is (c.candidates.invariant ordered weighs fits)

pub returns : goal.returns
returns c = λ ordered weighs fits.
    let a = c.args in
    let s = setting_of a.m.now a.freqs.now a.ranks.now a.v in
    c.answer_of.ensures ∙ best_all s a.found.now c.candidates.r-index c.candidates.best (omega arith) (c.candidates.invariant ordered weighs fits)
