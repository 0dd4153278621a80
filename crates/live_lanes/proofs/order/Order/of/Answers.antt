use Rattle.std.proofs.Common.{◌≡◌, ◌++◌, get_or, arith, sym, ap, ◌∙◌, ◌≤◌, ◌<◌, length, subst}
use Rattle.std.specs.Ordering.{nat_cmp}
use Rattle.std.specs.BTreeMap.{get}
use Rattle.slot_index.specs.Order.{ids, IsNumbered}
use Rattle.slot_index.specs.Renewed.{low_end}
use Rattle.live_lanes.specs.Ordered.{ids_of, all_ids, last_id, placed, AreSingle, Settles}
use Rattle.mir_func.specs.Value.{IsFunction}
use Rattle.live_lanes.proofs.Few.{few-points}
use Rattle.live_lanes.proofs.Homes.{homes-none, homes-more, homes-all, ids-below}
use Rattle.live_lanes.proofs.Ordered.{place-next, place-whole, blocks-more, blocks-ready, blocks-all, once-single}
use Rattle.live_lanes.proofs.order.Order.of.Goals as goal

pub blocks-2-init : goal.blocks-2-init
blocks-2-init c = record {
  positions = c.in_ok-order.ensures.positions;
  ids = λ single. (c.in_ok-order.ensures.ids, sym (ap last_id c.in_ok-order.ensures.ids));
  homes = λ single. homes-none c.args.func.now.blocks c.in_ok-order.order.block_of.items c.args.func.now.next_id (c.in_ok-order.ensures.room ∙ ap (λ f. f.next_id) c.func.view_is);
  numbered = c.in_ok-order.ensures.numbered;
}

pub blocks-2-preserved : goal.blocks-2-preserved
blocks-2-preserved c =
    let bs = c.args.func.now.blocks in
    let b = c.index-blocks-position.result in
    let viewed = ap (λ f. f.blocks) c.func.view_is in
    let sliced = c.as_slice-blocks.ensures in
    let same : c.as_slice-blocks.result.now ≡ c.args.func.now.blocks = cc in
    let long : length c.as_slice-blocks.result.now ≡ length c.args.func.now.blocks = ap length same in
    let within : c.blocks-2.position < length bs = omega (arith, c.in-Ok.ensures, c.blocks-2-test.true, long) in
    let own : b ≡ get_or bs c.blocks-2.position b = c.index-blocks-position.is ∙ ap (λ cs. get_or cs c.blocks-2.position b) same in
    record {
      positions = λ n. ap (λ m. get nat_cmp m n) c.in_ok-last.ensures.positions ∙ c.in_ok-add_block.ensures.positions n ∙ ap (λ q. placed q b.number n c.blocks-2.position) (c.blocks-2.invariant.positions n) ∙ place-next n bs c.blocks-2.position b within own;
      ids = λ single.
          let so = c.blocks-2.invariant.ids single in
          blocks-more bs c.blocks-2.position b (ids c.blocks-2.order.slots) (ids c.add_block.new.self.slots) (ids c.add_instrs.new.self.slots) c.blocks-2.last c.in_ok-last.last within own single (ap ids c.in_ok-add_block.ensures.slots) so.0 so.1 (subst (λ is. AreSingle (ids c.add_block.new.self.slots ++ ids_of is) → c.blocks-2.last ≡ last_id (ids c.add_block.new.self.slots) → (ids c.add_instrs.new.self.slots ≡ ids c.add_block.new.self.slots ++ ids_of is) × (c.in_ok-last.last ≡ last_id (ids c.add_instrs.new.self.slots))) c.as_slice.ensures c.in_ok-last.ensures.ids);
      homes = λ single.
          let so = c.blocks-2.invariant.ids single in
          let ready = blocks-ready bs c.blocks-2.position b (ids c.blocks-2.order.slots) (ids c.add_block.new.self.slots) c.blocks-2.last within own single (ap ids c.in_ok-add_block.ensures.slots) so.0 so.1 in
          let before = c.blocks-2.invariant.homes single in
          homes-more bs c.blocks-2.order.block_of.items c.add_instrs.new.self.block_of.items c.blocks-2.position b c.args.func.now.next_id single within own before
          (subst (λ v. Settles v.items c.add_instrs.new.self.block_of.items (ids_of b.instrs) c.blocks-2.position) c.in_ok-add_block.ensures.homes (subst (λ is. AreSingle (ids c.add_block.new.self.slots ++ ids_of is) → c.blocks-2.last ≡ last_id (ids c.add_block.new.self.slots) → Settles c.add_block.new.self.block_of.items c.add_instrs.new.self.block_of.items (ids_of is) c.blocks-2.position) c.as_slice.ensures c.in_ok-last.ensures.homes ready.0 ready.1));
      numbered = c.in_ok-last.ensures.numbered (subst IsNumbered (sym c.in_ok-add_block.ensures.slots) c.blocks-2.invariant.numbered);
    }

pub returns : goal.returns
returns c =
    let single : AreSingle (all_ids c.args.func.now.blocks) = rw (← c.func.view_is) (once-single c.func.inside.blocks c.func.inside.next_id c.func.invariant) in
    let viewed = ap (λ f. f.blocks) c.func.view_is in
    let sliced = c.as_slice-blocks.ensures in
    let same : c.as_slice-blocks.result.now ≡ c.args.func.now.blocks = cc in
    let long : length c.as_slice-blocks.result.now ≡ length c.args.func.now.blocks = ap length same in
    let whole : length c.args.func.now.blocks ≤ c.blocks-2.position = omega (arith, c.in-Ok.ensures, c.blocks-2-test.false, long) in
    let next : c.args.func.now.next_id < 4294967296 = subst (λ f. f.next_id < 4294967296) c.func.view_is (let small : c.func.inside.next_id < 4294967296 = omega arith in small) in
    let below : low_end c.blocks-2.last c.blocks-2.order.slots < 18446744073709551616 = omega (arith, c.number-highest.ensures) in
    record {
      positions = λ n. c.blocks-2.invariant.positions n ∙ place-whole n c.args.func.now.blocks c.blocks-2.position whole;
      ids = (c.blocks-2.invariant.ids single).0 ∙ blocks-all c.args.func.now.blocks c.blocks-2.position whole;
      single = single;
      homes = homes-all c.args.func.now.blocks c.blocks-2.order.block_of.items c.blocks-2.position c.args.func.now.next_id whole (c.blocks-2.invariant.homes single) (subst (λ f. IsFunction f.blocks f.next_id) c.func.view_is c.func.invariant);
      few = few-points c.args.func.now.blocks c.args.func.now.next_id (subst (λ f. IsFunction f.blocks f.next_id) c.func.view_is c.func.invariant) next (omega (arith, c.in-Ok.ensures, long));
      short = ids-below c.args.func.now.blocks c.args.func.now.next_id 4294967296 (subst (λ f. IsFunction f.blocks f.next_id) c.func.view_is c.func.invariant) next;
      small = subst (λ q. low_end q c.blocks-2.order.slots < 18446744073709551616) (c.blocks-2.invariant.ids single).1 below;
      numbered = c.blocks-2.invariant.numbered;
    }
