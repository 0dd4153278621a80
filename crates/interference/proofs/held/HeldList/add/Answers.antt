use Rattle.std.proofs.Common.{List, suc, sym, ap, ◌∙◌, subst}
use Rattle.std.specs.Prelude.{filter}
use Rattle.live_lanes.specs.Extents.{first_rank}
use Rattle.interference.specs.declared.held.RangeExtent.{RangeExtent}
use Rattle.interference.specs.Clashes.{AreApart, begins_by, held_of}
use Rattle.interference.specs.Parts.{parts_of, before}
use Rattle.interference.specs.Changes.{IsInserted}
use Rattle.interference.proofs.Refused.{on-err}
use Rattle.interference.proofs.held.HeldList.add.Goals as goal

pub returns-in_err-insert-clause-err : goal.returns-in_err-insert-clause-err
returns-in_err-insert-clause-err c = on-err c.from_residual-in_err-insert.result (c.in_err-insert.ensures.err ∙ c.in_ok-gap.ensures.held)

pub returns-clause-ok : goal.returns-clause-ok
returns-clause-ok c = λ full apart.
    let slots = c.args.slots.now in
    let at = first_rank slots c.args.extent in
    let hs = held_of c.args.self.now in
    let gap = c.in_ok-gap.ensures.gap in
    let same = c.in_ok-gap.ensures.held in
    let full-now = c.in_ok-gap.ensures.filled full in
    let apart-now = subst (AreApart slots 0) (sym same) apart in
    let ahead : List RangeExtent = before (parts_of c.gap_for.new.self) c.in_ok-gap.gap (suc c.in_ok-gap.gap.part) in
    let put = c.in_ok-insert.ensures.ok gap.part gap.within in
    let front = gap.begun full-now apart-now ∙ ap (λ n. filter (begins_by slots n) (held_of c.gap_for.new.self)) c.first.ensures ∙ ap (filter (begins_by slots at)) same in
    subst (λ (xs : List RangeExtent). IsInserted xs (record { range = c.args.range; extent = c.args.extent }) hs (held_of c.insert.new.self)) front
    (subst (λ (xs : List RangeExtent). IsInserted ahead (record { range = c.args.range; extent = c.args.extent }) xs (held_of c.insert.new.self)) same put)
