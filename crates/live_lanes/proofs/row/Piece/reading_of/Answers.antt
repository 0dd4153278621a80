use Rattle.std.proofs.Common.{◌≡◌, ◌∙◌, Bool, List, ap, rules, subst, sym}
use Rattle.std.specs.Prelude.{find, nat_eq}
use Rattle.std.proofs.lemmas.List.Sorted.{IsPartitionPoint-from_clause}
use Rattle.slot_index.specs.Order.{number_of}
use Rattle.live_lanes.specs.declared.row.LaneUse.{LaneUse}
use Rattle.live_lanes.specs.Ordered.{AreRising}
use Rattle.live_lanes.specs.Table.{leading}
use Rattle.live_lanes.specs.Touching.{reading_ids}
use Rattle.live_lanes.proofs.Cells.{partition-leading}
use Rattle.live_lanes.proofs.Readings.{reads-none, reads-own, reads-other, reads-parted, reads_before}
use Rattle.live_lanes.proofs.row.Piece.reading_of.Goals as goal

pub returns-then-place-readings : goal.returns-then-place-readings
returns-then-place-readings c = λ u.
    let slots = c.args.slots.now in
    let rs = c.as_slice-readings.result.now in
    let same = c.as_slice-readings.ensures.value in
    let place = c.partition_point-place.result in
    let up : AreRising slots 0 (reading_ids rs) = subst (λ ys. AreRising slots 0 (reading_ids ys)) (sym same) u in
    let test : LaneUse → Bool = reads_before slots c.number-at.result in
    let at = IsPartitionPoint-from_clause test rs place c.partition_point-place.ensures.partitioned (reads-parted slots c.number-at.result rs up) (λ a r f h. search rules) in
    let e : place ≡ leading (reads_before slots (number_of slots c.args.id)) rs = partition-leading test rs place c.partition_point-place.ensures.bound at.0 at.1 ∙ ap (λ n. leading (reads_before slots n) rs) c.number-at.ensures.value in
    reads-none slots c.args.id rs place e c.if-place-readings.true up ∙ ap (λ (ys : List LaneUse). find (λ r. nat_eq r.id c.args.id) ys) same

pub returns-then-reading-id : goal.returns-then-reading-id
returns-then-reading-id c = λ u.
    let slots = c.args.slots.now in
    let rs = c.as_slice-readings.result.now in
    let same = c.as_slice-readings.ensures.value in
    let place = c.partition_point-place.result in
    let up : AreRising slots 0 (reading_ids rs) = subst (λ ys. AreRising slots 0 (reading_ids ys)) (sym same) u in
    let test : LaneUse → Bool = reads_before slots c.number-at.result in
    let at = IsPartitionPoint-from_clause test rs place c.partition_point-place.ensures.partitioned (reads-parted slots c.number-at.result rs up) (λ a r f h. search rules) in
    let e : place ≡ leading (reads_before slots (number_of slots c.args.id)) rs = partition-leading test rs place c.partition_point-place.ensures.bound at.0 at.1 ∙ ap (λ n. leading (reads_before slots n) rs) c.number-at.ensures.value in
    reads-other slots c.args.id rs place _ e c.if-place-readings.false c.if-reading-id.true up ∙ ap (λ (ys : List LaneUse). find (λ r. nat_eq r.id c.args.id) ys) same

pub returns : goal.returns
returns c = λ u.
    let slots = c.args.slots.now in
    let rs = c.as_slice-readings.result.now in
    let same = c.as_slice-readings.ensures.value in
    let place = c.partition_point-place.result in
    let up : AreRising slots 0 (reading_ids rs) = subst (λ ys. AreRising slots 0 (reading_ids ys)) (sym same) u in
    let test : LaneUse → Bool = reads_before slots c.number-at.result in
    let at = IsPartitionPoint-from_clause test rs place c.partition_point-place.ensures.partitioned (reads-parted slots c.number-at.result rs up) (λ a r f h. search rules) in
    let e : place ≡ leading (reads_before slots (number_of slots c.args.id)) rs = partition-leading test rs place c.partition_point-place.ensures.bound at.0 at.1 ∙ ap (λ n. leading (reads_before slots n) rs) c.number-at.ensures.value in
    reads-own slots c.args.id rs place _ e c.if-place-readings.false c.if-reading-id.false up ∙ ap (λ (ys : List LaneUse). find (λ r. nat_eq r.id c.args.id) ys) same
