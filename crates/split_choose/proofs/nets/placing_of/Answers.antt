use Rattle.std.proofs.Common.{◌≡◌, ◌∙◌, ◌+◌, ◌*◌, ap, length, arith}
use Rattle.split_choose.specs.Regions.{capped}
use Rattle.split_choose.specs.Nets.{is_free, node_of, has_inside, rows_from, arcs_of, base_of, inside_count}
use Rattle.split_choose.specs.Placings.{net_rows}
use Rattle.split_choose.proofs.Netting.{count-within, rows-length}
use Rattle.split_choose.proofs.nets.placing_of.Goals as goal

pub returns : goal.returns
returns c = λ test are few earlier.
    let parents = c.args.view.bundles.now.parents.items in
    let spans = c.args.view.spans.now in
    let count = 2 * length c.args.view.m.now.live.func.blocks in
    let small = few.few in
    let short = few.fewer in
    let nodes = c.in_ok-bundles.ensures test are (omega (arith, small)) few.positions in
    let next = nodes.next in
    let within = count-within (is_free parents test spans) count in
    let rows : c.in_ok-rows.rows.items ≡ net_rows parents test spans count =
    c.in_ok-rows.ensures test are (omega (arith, small)) few.positions earlier nodes (omega (arith, next, within, small, short))
    ∙ ap (λ n. rows_from (node_of parents test spans) (has_inside test) n spans) next in
    let second = c.as_slice-2.ensures.value ∙ rows in
    let many : length c.as_slice-2.result.now ≡ length spans = ap length second ∙ rows-length (node_of parents test spans) (has_inside test) _ spans in
    record {
      rows = rows;
      nodes = c.count_from.ensures (omega (arith, next, within, small, short, many))
          ∙ ap (λ rs. c.in_ok-bundles.bundles.next + inside_count rs) second
          ∙ ap (λ n. n + inside_count (net_rows parents test spans count)) next;
      arcs = c.in_ok-arcs.ensures ∙ ap arcs_of (c.as_slice.ensures.value ∙ rows);
      base = c.base_of.ensures ∙ ap (λ rs. capped (base_of rs)) (c.as_slice-3.ensures.value ∙ rows);
    }
