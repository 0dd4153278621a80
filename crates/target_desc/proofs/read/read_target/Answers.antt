use Rattle.std.proofs.Common.{◌≡◌, ◌∙◌, ◌∷◌, length, ap, arith}
use Rattle.std.proofs.lemmas.Grind.{common_steps}
use Rattle.target_desc.specs.Text.{lines}
use Rattle.target_desc.specs.Reading.{spelled, lines_after}
use Rattle.target_desc.proofs.Lined.{line_goes, line_stops_at, ends_without, ends_with}
use Rattle.target_desc.proofs.read.read_target.Goals as goal

pub returns-in-Err : goal.returns-in-Err
returns-in-Err c =
    let here : spelled c.args.bytes.now ≡ lines_after c.lines.number c.lines.reader.draft (c.next_part.result.0.now ∷ lines c.next_part.result.1.now) =
    c.lines.invariant.same ∙ ap (lines_after c.lines.number c.lines.reader.draft) c.next_part.ensures.whole in
    rw (c.at_line.ensures, here) (line_stops_at c.lines.number c.lines.reader.draft c.next_part.result.0.now (lines c.next_part.result.1.now) c.in-Err.stop c.in-Err.ensures)

pub lines-preserved : goal.lines-preserved
lines-preserved c = record {
  number = omega (arith, c.next_part.ensures.shorter);
  same = c.lines.invariant.same
      ∙ ap (lines_after c.lines.number c.lines.reader.draft) c.next_part.ensures.whole
      ∙ line_goes c.lines.number c.lines.reader.draft c.in-Ok.reader.draft c.next_part.result.0.now (lines c.next_part.result.1.now) c.in-Ok.ensures;
}

pub returns-in-None : goal.returns-in-None
returns-in-None c =
    let none : length c.lines.rest.now ≡ 0 = grind (arith, common_steps, c.is_empty.ensures) in
    c.lines.invariant.same ∙ ends_without c.lines.number c.lines.reader.draft c.lines.rest.now c.in_ok-end.field-0 none c.in_ok-end.ensures c.in-None.is

pub returns-in-Some : goal.returns-in-Some
returns-in-Some c =
    let none : length c.lines.rest.now ≡ 0 = grind (arith, common_steps, c.is_empty.ensures) in
    c.lines.invariant.same ∙ ends_with c.lines.number c.lines.reader.draft c.lines.rest.now c.in_ok-end.field-0 c.in-Some.target none c.in_ok-end.ensures c.in-Some.is
