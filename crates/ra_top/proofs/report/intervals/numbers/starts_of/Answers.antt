use Rattle.std.proofs.Common.{◌≡◌, ◌+◌, ◌*◌, ◌^◌, ◌<◌, length, subst, arith}
use Rattle.ra_top.proofs.ReportLemmas.Intervals.Numbers.{none-numbered, one-numbered, all-numbered}
use Rattle.ra_top.proofs.ReportLemmas.Intervals.Rows.{drop-none}
use Rattle.ra_top.proofs.report.intervals.numbers.starts_of.Goals as goal

pub layout-init : goal.layout-init
layout-init c = rw c.new-starts.ensures.items (none-numbered c.args.blocks.now)

pub layout-preserved : goal.layout-preserved
layout-preserved c =
    let n : c.len.result ≡ length c.block-item.result.instrs = cc in
    let next : c.layout.next + 16 * (length c.block-item.result.instrs + 1) < 2 ^ 128 → c.number_behind-next.result ≡ c.layout.next + 16 * (length c.block-item.result.instrs + 1) =
    subst (λ m. c.layout.next + 16 * (m + 1) < 2 ^ 128 → c.number_behind-next.result ≡ c.layout.next + 16 * (m + 1)) n c.number_behind-next.ensures in
    one-numbered c.args.blocks.now c.layout.block-index c.layout.starts.items c.push.new.self.items c.layout.next c.number_behind-next.result c.block-item.result c.requires (omega arith) c.block-item.is c.layout.invariant c.in_ok-push.ensures.items next

pub returns : goal.returns
returns c = all-numbered c.args.blocks.now c.layout.block-index c.layout.starts.items c.push-2.new.self.items c.layout.next (drop-none c.layout.block-index c.args.blocks.now (omega arith)) c.layout.invariant c.in_ok-push-2.ensures.items
