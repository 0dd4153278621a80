use Rattle.std.proofs.Common.{◌≡◌, ◌∙◌, ◌+◌, ◌*◌, ap, length, arith}
use Rattle.split_choose.specs.Nets.{ranks, set_count, is_free}
use Rattle.split_choose.proofs.Netting.{free-flags, count-all}
use Rattle.split_choose.proofs.nets.bundle_nodes.Goals as goal

pub returns : goal.returns
returns c = λ test are few positions.
    let parents = c.args.view.bundles.now.parents.items in
    let spans = c.args.view.spans.now in
    let blocks = length c.args.view.m.now.live.func.blocks in
    let out = c.in_ok-outside.ensures test are (omega arith) positions in
    let named = c.in_ok-named.ensures (omega arith) positions in
    let free = c.in_ok-free.free.items in
    let flags = free-flags parents test spans (2 * blocks) c.in_ok-named.named.items c.in_ok-outside.outside.items c.as_slice.result.now c.as_slice-2.result.now free c.as_slice.ensures.value c.as_slice-2.ensures.value named out c.in_ok-free.ensures in
    let third : length c.as_slice-3.result.now ≡ 2 * blocks = ap length c.as_slice-3.ensures.value ∙ flags.size in
    let fourth : length c.as_slice-4.result.now ≡ 2 * blocks = ap length c.as_slice-4.ensures.value ∙ flags.size in
    record {
      out = out;
      free = free;
      flags = flags;
      numbers = c.in_ok-numbers_of.ensures (omega (arith, third)) ∙ ap (ranks 2) c.as_slice-3.ensures.value;
      next = c.number_behind.ensures (omega (arith, fourth)) ∙ ap (λ bs. 2 + set_count bs) c.as_slice-4.ensures.value ∙ ap (λ n. 2 + n) (count-all (2 * blocks) (is_free parents test spans) free flags);
    }
