use Rattle.std.proofs.Common.{◌≡◌, ◌<◌, ◌≤◌, ◌-◌, suc, length, get_or, arith, ap, sym, ◌∙◌}
use Rattle.mir_func.specs.declared.func.Block.{Block}
use Rattle.live_lanes.specs.Ordered.{all_ids, last_id}
use Rattle.live_edits.proofs.DraftPlaces.{take-fewer, ids-same, last-found}
use Rattle.live_edits.proofs.draft.last_id_before.Goals as goal

pub blocks-2-init : goal.blocks-2-init
blocks-2-init c = record {
  within = omega (arith, c.min-left.ensures);
  same = ap last_id (ap all_ids (take-fewer c.args.count c.min-left.result c.args.blocks.now c.min-left.ensures));
}

pub blocks-2-preserved : goal.blocks-2-preserved
blocks-2-preserved c =
    let n = c.blocks-2.left in
    let b = c.index-blocks-left.result in
    let some = c.blocks-2-test.true in
    let next : n ≡ suc (n - 1) = omega (arith, some) in
    let bound = c.blocks-2.invariant.within in
    let within : n - 1 < length c.args.blocks.now = omega (arith, some, bound) in
    let long = ap (λ (x : Block). length x.instrs) c.index-blocks-left.is in
    let none : length b.instrs ≤ 0 = omega (arith, c.len-found.ensures, c.if-found-gt0.false, long) in
    record {
      within = omega (arith, bound);
      same = ids-same c.args.blocks.now n (n - 1) b next within c.index-blocks-left.is none ∙ c.blocks-2.invariant.same;
    }

pub returns-then-found-gt0 : goal.returns-then-found-gt0
returns-then-found-gt0 c =
    let n = c.blocks-2.left in
    let b = c.index-blocks-left.result in
    let i = c.get.result.now in
    let some = c.blocks-2-test.true in
    let next : n ≡ suc (n - 1) = omega (arith, some) in
    let bound = c.blocks-2.invariant.within in
    let within : n - 1 < length c.args.blocks.now = omega (arith, some, bound) in
    let long = ap (λ (x : Block). length x.instrs) c.index-blocks-left.is in
    let last : suc (c.len-found.result - 1) ≡ length b.instrs = omega (arith, c.len-found.ensures, c.if-found-gt0.true, long) in
    let own : i ≡ get_or b.instrs (c.len-found.result - 1) i = c.get.ensures ∙ ap (λ (x : Block). get_or x.instrs (c.len-found.result - 1) i) (sym c.index-blocks-left.is) in
    last-found c.args.blocks.now n (n - 1) (c.len-found.result - 1) b i next within c.index-blocks-left.is last own ∙ c.blocks-2.invariant.same
