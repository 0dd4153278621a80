use Rattle.std.proofs.Common.{◌≡◌, ◌∙◌, ℕ, Option, set, sym, ap, arith}
use Rattle.live_lanes.specs.Table.{changed_at}
use Rattle.live_lanes.proofs.Segments.{changed-past}
use Rattle.live_edits.specs.CellChanges.{reading_into}
use Rattle.live_edits.proofs.ReadingsChanged.{set-changed, into-back}
use Rattle.live_edits.proofs.cell_change.set_at.Goals as goal

pub returns-then-at-len-clause-set : goal.returns-then-at-len-clause-set
returns-then-at-len-clause-set c = sym (changed-past (reading_into c.args.into) c.args.readings.now.items c.args.at (omega arith))

pub returns-then-at-len-clause-back : goal.returns-then-at-len-clause-back
returns-then-at-len-clause-back c = changed-past (reading_into c.args.into) c.args.readings.now.items c.args.at (omega arith)

pub returns-clause-set : goal.returns-clause-set
returns-clause-set c =
    let x = c.index_mut.result.now in
    let rs = c.args.readings.now.items in
    ap (λ (into : Option ℕ). set rs c.args.at (reading_into into x)) c.replace.ensures.after
    ∙ set-changed (reading_into c.args.into) rs c.args.at x (omega arith) c.index_mut.ensures.value

pub returns-clause-back : goal.returns-clause-back
returns-clause-back c =
    let x = c.index_mut.result.now in
    let rs = c.args.readings.now.items in
    let now : set rs c.args.at (reading_into c.replace.new.dest x) ≡ changed_at c.args.at (reading_into c.args.into) rs =
    ap (λ (into : Option ℕ). set rs c.args.at (reading_into into x)) c.replace.ensures.after
    ∙ set-changed (reading_into c.args.into) rs c.args.at x (omega arith) c.index_mut.ensures.value in
    ap (changed_at c.args.at (reading_into c.replace.result)) now
    ∙ (ap (λ (into : Option ℕ). changed_at c.args.at (reading_into into) (changed_at c.args.at (reading_into c.args.into) rs)) c.replace.ensures.value
    ∙ into-back rs c.args.at x c.args.into (omega arith) c.index_mut.ensures.value)
