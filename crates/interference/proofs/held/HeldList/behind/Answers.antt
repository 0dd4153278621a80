use Rattle.std.proofs.Common.{◌≡◌, ◌<◌, ◌-◌, suc, List, rules, sym, ap, ◌∙◌, subst, Bool, length, map}
use Rattle.std.specs.Prelude.{Vec, filter}
use Rattle.std.specs.Global.{Global}
use Rattle.std.specs.List.Sorted.{IsPartitionedBy}
use Rattle.std.proofs.lemmas.Bool.{ltb-true}
use Rattle.std.proofs.lemmas.List.{length-map}
use Rattle.std.proofs.lemmas.List.Sorted.{IsPartitionPoint-from_clause}
use Rattle.live_lanes.specs.Table.{leading}
use Rattle.live_lanes.proofs.Cells.{partition-leading}
use Rattle.live_lanes.proofs.Segments.{parted-map, leading-map}
use Rattle.interference.specs.declared.held.RangeExtent.{RangeExtent}
use Rattle.interference.specs.Clashes.{part_of, AreApart, begins_by}
use Rattle.interference.specs.Parts.{parts_of, part_in, before, part_begins}
use Rattle.interference.proofs.Parts.{part-there, flat, flat-held, lead, gap_at, behind-is, parts-parted, some-apart}
use Rattle.interference.proofs.held.HeldList.behind.Goals as goal

pub returns-in-Some-clause-before : goal.returns-in-Some-clause-before
returns-in-Some-clause-before c = λ filled apart.
    let slots = c.args.slots.now in
    let at = c.args.at in
    let items = c.args.self.now.parts.items in
    let ps : List (List RangeExtent) = parts_of c.args.self.now in
    let whole : AreApart slots 0 (flat ps) = subst (AreApart slots 0) (sym (flat-held c.args.self.now)) apart in
    let begins : List RangeExtent → Bool = part_begins slots at in
    let test : Vec RangeExtent Global → Bool = λ v. begins (part_of v) in
    let same = c.as_slice-parts.ensures.value in
    let parted : IsPartitionedBy begins ps = parts-parted slots at 0 ps whole (λ h. filled (subst (λ n. 1 < n) (length-map items part_of) h)) in
    let cut = subst (IsPartitionedBy test) (sym same) (parted-map part_of begins items parted) in
    let point = IsPartitionPoint-from_clause test c.as_slice-parts.result.now c.partition_point.result c.partition_point.ensures.partitioned cut (λ a r f h. search rules) in
    let k : c.partition_point.result ≡ lead slots at ps = partition-leading test c.as_slice-parts.result.now c.partition_point.result c.partition_point.ensures.bound point.0 point.1 ∙ ap (leading test) same ∙ sym (leading-map part_of begins items) in
    let part : c.saturating_sub-part.result ≡ lead slots at ps - 1 = c.saturating_sub-part.ensures ∙ ap (λ x. x - 1) k in
    let there : c.in-Some.there.now.items ≡ part_in ps c.saturating_sub-part.result = let h = c.in-Some.ensures.lookup in
    part-there c.as_slice-parts.result.now c.saturating_sub-part.result c.in-Some.there.now (ltb-true c.saturating_sub-part.result (length c.as_slice-parts.result.now) (sym h.0)) h.1 ∙ ap (λ vs. part_in (map part_of vs) c.saturating_sub-part.result) same in
    let low = some-apart slots 0 ps c.saturating_sub-part.result whole in
    let count : c.count_by-count.result ≡ leading (begins_by slots at) (part_in ps c.saturating_sub-part.result) = c.count_by-count.ensures.count low.0 (subst (AreApart slots low.0) (sym there) low.1) ∙ ap (leading (begins_by slots at)) there in
    ap (λ x. before ps (record { part = c.saturating_sub-part.result; count = x }) (suc c.saturating_sub-part.result)) count
    ∙ ap (λ j. before ps (gap_at slots at ps j) (suc j)) part
    ∙ behind-is slots at 0 ps whole (λ h. filled (subst (λ n. 1 < n) (length-map items part_of) h)) ∙ ap (filter (begins_by slots at)) (flat-held c.args.self.now)
