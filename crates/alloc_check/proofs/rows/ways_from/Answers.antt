use Rattle.std.proofs.Common.{◌≡◌, option_map, ap, ◌∙◌}
use Rattle.mir_meaning.specs.Codes.{way, target_of}
use Rattle.alloc_check.specs.Compared.{both_way}
use Rattle.alloc_check.proofs.rows.ways_from.Goals as goal

pub returns-clause-sides : goal.returns-clause-sides
returns-clause-sides c =
    let n = c.args.b.now.number in
    let own : c.target_of-target.result ≡ target_of c.args.i.now.operands = c.target_of-target.ensures ∙ ap target_of c.as_slice.ensures in (
      c.in_ok-way.ensures.sides.0 ∙ ap (option_map (way c.args.t.now c.args.f.now n)) own,
      c.in_ok-way.ensures.sides.1 ∙ ap (option_map (way c.args.t.now c.args.g.now n)) own,
    )

pub returns-clause-exact : goal.returns-clause-exact
returns-clause-exact c =
    let own : c.target_of-target.result ≡ target_of c.args.i.now.operands = c.target_of-target.ensures ∙ ap target_of c.as_slice.ensures in
    (c.in_ok-way.ensures.exact ∙ ap (option_map (both_way c.args.t.now c.args.f.now c.args.g.now c.args.b.now.number)) own, c.in_ok-exits.ensures)
