use Rattle.std.proofs.Common.{◌≡◌, ◌∙◌, length, ap, arith}
use Rattle.live_lanes.specs.Ways.{successors}
use Rattle.split_choose.specs.Bundles.{start_of}
use Rattle.split_choose.proofs.Joining.{alone_earlier, below_first, below_last}
use Rattle.split_choose.proofs.bundles.Bundles.of.Goals as goal

pub blocks-2-init : goal.blocks-2-init
blocks-2-init c = record {
  earlier = alone_earlier c.in_ok-bundles.bundles.parents.items c.start_of.result c.in_ok-bundles.ensures;
  joins = λ closed.
      let few = closed.few in
      let n : c.block_count-count.result ≡ length c.args.live.now.func.blocks = c.block_count-count.ensures (omega arith) in
      below_first (successors c.args.live.now.table.flow.items) (length c.args.live.now.func.blocks) c.in_ok-bundles.bundles.parents.items c.start_of.result
      (c.start_of.ensures (omega arith) ∙ ap start_of n) c.in_ok-bundles.ensures;
}

pub returns-clause-exact : goal.returns-clause-exact
returns-clause-exact c = λ closed.
    let few = closed.few in
    let n : c.block_count-count.result ≡ length c.args.live.now.func.blocks = c.block_count-count.ensures (omega arith) in
    below_last (successors c.args.live.now.table.flow.items) (length c.args.live.now.func.blocks) c.blocks-2.bundles.parents.items c.shorten.new.self.parents.items c.blocks-2.position closed
    (let h = c.blocks-2-test.false in omega arith) (c.blocks-2.invariant.joins closed) (c.shorten.ensures.same c.blocks-2.invariant.earlier)
