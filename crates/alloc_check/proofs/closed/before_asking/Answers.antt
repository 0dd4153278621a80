use Rattle.std.proofs.Common.{◌≡◌, Bool, true, false, List, Option, refl, subst, sym}
use Rattle.meaning.specs.declared.types.Row.{Row}
use Rattle.meaning.specs.declared.types.Row.TheVariants.{BothCounted}
use Rattle.meaning.specs.declared.types.Rest.{Rest}
use Rattle.meaning.specs.declared.types.EdgePair.{EdgePair}
use Rattle.meaning.specs.Lanes.{Reads, Writes}
use Rattle.meaning.specs.Facts.{Facts}
use Rattle.meaning.specs.Agree.{Family}
use Rattle.alloc_check.specs.Needs.{Carry, Leave, Least, row_asks, writes_ask}
use Rattle.alloc_check.specs.Cells.{asked}
use Rattle.alloc_check.specs.Asking.{asking, is_pair}
use Rattle.alloc_check.proofs.Asked.{asking-other}
use Rattle.alloc_check.proofs.Lawful.{if-more}
use Rattle.alloc_check.proofs.Steps.{start-least, carry-unread, counted-least, counted-never}
use Rattle.alloc_check.proofs.closed.before_asking.Goals as goal

-- a row that is no pair asks the same anyway
carries : (family : Family) (b : Bool) (row r : Row) (old new : Facts) → row ≡ r → is_pair r ≡ false → Carry family r old new → Carry family (asking b row) old new
carries family b row r old new is other h = subst (λ x. Carry family (asking b x) old new) (sym is) (subst (λ x. Carry family x old new) (sym (asking-other b r other)) h)

least : (family : Family) (b : Bool) (row r : Row) (old new : Facts) (answer : Bool) → row ≡ r → is_pair r ≡ false → Least (row_asks family r old) answer new → Least (row_asks family (asking b row) old) answer new
least family b row r old new answer is other h = subst (λ x. Least (row_asks family (asking b x) old) answer new) (sym is) (subst (λ x. Least (row_asks family x old) answer new) (sym (asking-other b r other)) h)

never : (family : Family) (b : Bool) (r : Rest) (reads reads' : Reads) (ws vs : Writes) (target : Option EdgePair) (exits : List EdgePair) (old new : Facts)
    → Least (writes_ask family ws vs target exits old) false new → Least (row_asks family (asking b (BothCounted r reads reads' ws vs target exits)) old) false new
never family true r reads reads' ws vs target exits old new h = counted-never family r reads reads' ws vs target exits old new h
never family false r reads reads' ws vs target exits old new h = h

pub returns-in-BothStart-clause-enough : goal.returns-in-BothStart-clause-enough
returns-in-BothStart-clause-enough c =
    if-more _ _ c.before_start.result
    (λ yes h x. carries c.args.family.now c.args.reads _ _ _ _ c.in-BothStart.is refl (h x))
    c.before_start.ensures

pub returns-in-BothStart-clause-least : goal.returns-in-BothStart-clause-least
returns-in-BothStart-clause-least c =
    if-more _ _ c.before_start.result
    (λ yes h. least c.args.family.now c.args.reads _ _ _ _ yes c.in-BothStart.is refl (start-least c.args.family.now c.in-BothStart.n (asked c.args.needs.now) yes (asked c.before_start.new.needs)))
    c.before_start.ensures

pub returns-in-BothEnd-clause-enough : goal.returns-in-BothEnd-clause-enough
returns-in-BothEnd-clause-enough c =
    if-more _ _ c.before_end.result
    (λ yes h x. carries c.args.family.now c.args.reads _ _ _ _ c.in-BothEnd.is refl (h x))
    c.before_end.ensures.enough

pub returns-in-BothEnd-clause-least : goal.returns-in-BothEnd-clause-least
returns-in-BothEnd-clause-least c =
    if-more _ _ c.before_end.result
    (λ yes h. least c.args.family.now c.args.reads _ _ _ _ yes c.in-BothEnd.is refl h)
    c.before_end.ensures.least

pub returns-in-FirstSilent-clause-enough : goal.returns-in-FirstSilent-clause-enough
returns-in-FirstSilent-clause-enough c =
    if-more _ _ c.before_first_silent.result
    (λ yes h x. carries c.args.family.now c.args.reads _ _ _ _ c.in-FirstSilent.is refl (h x c.args.family.now c.in-FirstSilent.field-0))
    c.before_first_silent.ensures.enough

pub returns-in-FirstSilent-clause-least : goal.returns-in-FirstSilent-clause-least
returns-in-FirstSilent-clause-least c =
    if-more _ _ c.before_first_silent.result
    (λ yes h. least c.args.family.now c.args.reads _ _ _ _ yes c.in-FirstSilent.is refl h)
    c.before_first_silent.ensures.least

pub returns-in-SecondSilent-clause-enough : goal.returns-in-SecondSilent-clause-enough
returns-in-SecondSilent-clause-enough c =
    if-more _ _ c.before_second_silent.result
    (λ yes h x. carries c.args.family.now c.args.reads _ _ _ _ c.in-SecondSilent.is refl (h x c.args.family.now c.in-SecondSilent.field-0))
    c.before_second_silent.ensures.enough

pub returns-in-SecondSilent-clause-least : goal.returns-in-SecondSilent-clause-least
returns-in-SecondSilent-clause-least c =
    if-more _ _ c.before_second_silent.result
    (λ yes h. least c.args.family.now c.args.reads _ _ _ _ yes c.in-SecondSilent.is refl h)
    c.before_second_silent.ensures.least

pub returns-then-not-branch-clause-least : goal.returns-then-not-branch-clause-least
returns-then-not-branch-clause-least c =
    let family = c.args.family.now in
    let old = asked c.args.needs.now in
    let middle = asked c.before_writes.new.needs in
    let first = c.in-BothCounted.first in
    let second = c.in-BothCounted.second in
    let target = c.in-BothCounted.target in
    let exits = c.in-BothCounted.exits in
    let writes : Least (writes_ask family first second target exits old) false middle =
    subst (λ a. Least (writes_ask family a second target exits old) false middle) c.as_slice-first.ensures
    (subst (λ b. Least (writes_ask family c.as_slice-first.result.now b target exits old) false middle) c.as_slice-second.ensures
    (subst (λ y. Least (writes_ask family c.as_slice-first.result.now c.as_slice-second.result.now target exits old) y middle) c.if-not-branch.true c.in_ok-before_writes-in-BothCounted.ensures.least)) in
    subst (λ r. Least (row_asks family (asking c.args.reads r) old) false middle) (sym c.in-BothCounted.is)
    (never family c.args.reads c.in-BothCounted.field-0 c.in-BothCounted.left c.in-BothCounted.right first second target exits old middle writes)

pub returns-then-not-reads-clause-enough : goal.returns-then-not-reads-clause-enough
returns-then-not-reads-clause-enough c =
    let family = c.args.family.now in
    let old = asked c.args.needs.now in
    let middle = asked c.before_writes.new.needs in
    let first = c.in-BothCounted.first in
    let second = c.in-BothCounted.second in
    let target = c.in-BothCounted.target in
    let exits = c.in-BothCounted.exits in
    let leaves : Leave family first second target exits old middle =
    subst (λ a. Leave family a second target exits old middle) c.as_slice-first.ensures
    (subst (λ b. Leave family c.as_slice-first.result.now b target exits old middle) c.as_slice-second.ensures (c.in_ok-before_writes-in-BothCounted.ensures.enough c.if-not-branch.false)) in
    λ x. subst (λ b. Carry family (asking b c.args.row.now) old middle) (sym c.if-not-reads.true)
    (subst (λ r. Carry family (asking false r) old middle) (sym c.in-BothCounted.is) (carry-unread family c.in-BothCounted.field-0 first second target exits old middle leaves))

pub returns-then-not-reads-clause-least : goal.returns-then-not-reads-clause-least
returns-then-not-reads-clause-least c =
    let family = c.args.family.now in
    let old = asked c.args.needs.now in
    let middle = asked c.before_writes.new.needs in
    let first = c.in-BothCounted.first in
    let second = c.in-BothCounted.second in
    let target = c.in-BothCounted.target in
    let exits = c.in-BothCounted.exits in
    let writes : Least (writes_ask family first second target exits old) true middle =
    subst (λ a. Least (writes_ask family a second target exits old) true middle) c.as_slice-first.ensures
    (subst (λ b. Least (writes_ask family c.as_slice-first.result.now b target exits old) true middle) c.as_slice-second.ensures
    (subst (λ y. Least (writes_ask family c.as_slice-first.result.now c.as_slice-second.result.now target exits old) y middle) c.if-not-branch.false c.in_ok-before_writes-in-BothCounted.ensures.least)) in
    subst (λ b. Least (row_asks family (asking b c.args.row.now) old) true middle) (sym c.if-not-reads.true)
    (subst (λ r. Least (row_asks family (asking false r) old) true middle) (sym c.in-BothCounted.is) writes)

pub returns-else-not-reads-clause-enough : goal.returns-else-not-reads-clause-enough
returns-else-not-reads-clause-enough c =
    let family = c.args.family.now in
    let old = asked c.args.needs.now in
    let middle = asked c.before_writes.new.needs in
    let first = c.in-BothCounted.first in
    let second = c.in-BothCounted.second in
    let target = c.in-BothCounted.target in
    let exits = c.in-BothCounted.exits in
    let new = asked c.before_reads.new.needs in
    let leaves : Leave family first second target exits old middle =
    subst (λ a. Leave family a second target exits old middle) c.as_slice-first.ensures
    (subst (λ b. Leave family c.as_slice-first.result.now b target exits old middle) c.as_slice-second.ensures (c.in_ok-before_writes-in-BothCounted.ensures.enough c.if-not-branch.false)) in
    if-more _ _ c.before_reads.result
    (λ yes h x. subst (λ b. Carry family (asking b c.args.row.now) old new) (sym c.if-not-reads.false)
    (subst (λ r. Carry family r old new) (sym c.in-BothCounted.is) (h x family c.in-BothCounted.field-0 first second target exits old leaves)))
    c.before_reads.ensures.enough

pub returns-else-not-reads-clause-least : goal.returns-else-not-reads-clause-least
returns-else-not-reads-clause-least c =
    let family = c.args.family.now in
    let old = asked c.args.needs.now in
    let middle = asked c.before_writes.new.needs in
    let first = c.in-BothCounted.first in
    let second = c.in-BothCounted.second in
    let target = c.in-BothCounted.target in
    let exits = c.in-BothCounted.exits in
    let new = asked c.before_reads.new.needs in
    let writes : Least (writes_ask family first second target exits old) true middle =
    subst (λ a. Least (writes_ask family a second target exits old) true middle) c.as_slice-first.ensures
    (subst (λ b. Least (writes_ask family c.as_slice-first.result.now b target exits old) true middle) c.as_slice-second.ensures
    (subst (λ y. Least (writes_ask family c.as_slice-first.result.now c.as_slice-second.result.now target exits old) y middle) c.if-not-branch.false c.in_ok-before_writes-in-BothCounted.ensures.least)) in
    if-more _ _ c.before_reads.result
    (λ yes h. subst (λ b. Least (row_asks family (asking b c.args.row.now) old) yes new) (sym c.if-not-reads.false)
    (subst (λ r. Least (row_asks family r old) yes new) (sym c.in-BothCounted.is)
    (counted-least family c.in-BothCounted.field-0 c.in-BothCounted.left c.in-BothCounted.right first second target exits old middle new yes writes h)))
    c.before_reads.ensures.least
