use Rattle.std.proofs.Common.{rules, Bool, subst}
use Rattle.std.proofs.lemmas.List.Sorted.{IsPartitionPoint-from_clause}
use Rattle.live_lanes.specs.declared.row.DefPiece.{DefPiece}
use Rattle.live_lanes.specs.Table.{Begun, begun}
use Rattle.live_edits.specs.Renoted.{under, Cuts}
use Rattle.live_edits.proofs.RenoteCut.{cuts, cuts-mapped}
use Rattle.live_edits.proofs.renote.piece_before.Goals as goal

pub returns-clause-cut : goal.returns-clause-cut
returns-clause-cut c =
    let test : DefPiece → Bool = λ s. under c.args.slots.now c.args.id s.start in
    let segments = c.as_slice.result.now in
    let n = c.partition_point.result in
    let cut : Cuts test segments n = cuts test segments n c.partition_point.ensures.bound (λ part. IsPartitionPoint-from_clause test segments n c.partition_point.ensures.partitioned part (λ a r f h. search rules)) in
    cuts-mapped begun (λ (s : Begun). under c.args.slots.now c.args.id s.start) c.args.cell.now.segments.items n (subst (λ xs. Cuts test xs n) c.as_slice.ensures.value cut)
