use Rattle.std.proofs.Common.{◌<◌, arith, ap, sym, ◌∙◌, subst}
use Rattle.std.specs.Prelude.{slice_get}
use Rattle.slot_index.specs.Order.{ids}
use Rattle.slot_index.specs.Renewed.{low_end}
use Rattle.live_lanes.specs.Ordered.{AreRising, ids_of, last_id}
use Rattle.live_edits.proofs.DraftPlaces.{all-rising, rising-at}
use Rattle.live_edits.proofs.draft.Draft.place_in.Goals as goal

pub returns-clause-place : goal.returns-clause-place
returns-clause-place c = λ order k i e own.
    let f = c.args.self.now.func in
    let o = c.args.self.now.order in
    let high = c.highest-highest.ensures order in
    let small : low_end (last_id (ids o.slots)) o.slots < 18446744073709551616 = omega (arith, high) in
    let rising = rising-at f o c.args.position k i (all-rising f o c.instrs_of.ensures.function order small) e in
    c.place.ensures (subst (λ is. AreRising o.slots 0 (ids_of is)) (sym c.instrs_of.ensures.instrs) rising) k i (ap (λ is. slice_get is k) c.instrs_of.ensures.instrs ∙ e) own
