use Rattle.std.proofs.Common.{◌<◌, length, arith}
use Rattle.std.specs.List.{remove}
use Rattle.interference.proofs.PutBack.{part-written}
use Rattle.interference.proofs.held.HeldList.cut_behind.Goals as goal

pub returns : goal.returns
returns c =
    let vs = c.args.self.now.parts.items in
    let lt : c.args.gap.part < length vs = omega arith in
    part-written vs c.args.gap.part c.index_mut.result.now c.remove_at.new.part (λ xs. remove xs c.args.gap.count) lt c.index_mut.ensures.value c.remove_at.ensures
