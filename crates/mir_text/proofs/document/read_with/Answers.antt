use Rattle.std.proofs.Common.{◌≡◌, ◌∙◌, ◌∷◌, ◌+◌, ◌-◌, length, ap, arith}
use Rattle.std.proofs.lemmas.Result.{err_from_is_err_and}
use Rattle.mir_text.specs.Document.{lines, document_of, lines_after, at_end}
use Rattle.mir_text.proofs.Lines.{line_goes, line_stops_at, ends_so, nothing}
use Rattle.mir_text.proofs.Within.{state_grows}
use Rattle.mir_text.proofs.document.read_with.Goals as goal

pub line-requires-clause-small : goal.line-requires-clause-small
line-requires-clause-small c = state_grows (length c.args.bytes.now - length c.lines.rest.now) 8388608 c.lines.state c.lines.invariant.within (omega arith)

pub returns-in-Err-clause-exact : goal.returns-in-Err-clause-exact
returns-in-Err-clause-exact c =
    let here : document_of c.args.target.now c.args.first c.args.line c.args.bytes.now ≡ lines_after c.args.target.now c.args.first c.args.bytes.now c.lines.number c.lines.state (c.next_line.result.0.now ∷ lines c.next_line.result.1.now) =
    c.lines.invariant.same ∙ ap (lines_after c.args.target.now c.args.first c.args.bytes.now c.lines.number c.lines.state) c.next_line.ensures.whole in
    rw (c.at_line.ensures, here) (line_stops_at c.args.target.now c.args.first c.args.bytes.now c.args.names.now c.requires.named c.lines.number c.lines.state c.next_line.result.0.now (lines c.next_line.result.1.now) c.in-Err.stop c.in-Err.ensures.value)

pub lines-preserved : goal.lines-preserved
lines-preserved c = record {
  number = omega (arith, c.next_line.ensures.shorter);
  left = omega (arith, c.next_line.ensures.shorter);
  within = state_grows (length c.args.bytes.now - length c.lines.rest.now + length c.next_line.result.0.now) (length c.args.bytes.now - length c.next_line.result.1.now) c.in-Ok.state (c.in-Ok.ensures.within (length c.args.bytes.now - length c.lines.rest.now) c.lines.invariant.within) (omega (arith, c.next_line.ensures.len, c.lines.invariant.left));
  same = c.lines.invariant.same
      ∙ ap (lines_after c.args.target.now c.args.first c.args.bytes.now c.lines.number c.lines.state) c.next_line.ensures.whole
      ∙ line_goes c.args.target.now c.args.first c.args.bytes.now c.args.names.now c.requires.named c.lines.number c.lines.state c.in-Ok.state c.next_line.result.0.now (lines c.next_line.result.1.now) c.in-Ok.ensures.value;
}

pub returns-in-None-clause-exact : goal.returns-in-None-clause-exact
returns-in-None-clause-exact c =
    let none : length c.lines.rest.now ≡ 0 = nothing (length c.lines.rest.now) c.is_empty.result c.is_empty.ensures c.lines-test.false in
    c.lines.invariant.same
    ∙ ends_so c.args.target.now c.args.first c.args.bytes.now c.lines.number c.lines.state c.lines.rest.now c.in_ok-end.field-0 none c.in_ok-end.ensures.value
    ∙ ap (at_end c.lines.number) c.in-None.is

pub returns-in_err-end-clause-exact : goal.returns-in_err-end-clause-exact
returns-in_err-end-clause-exact c =
    let p = err_from_is_err_and c.from_residual.result c.from_residual.ensures.1 in
    rw (p.1, p.2) tt

pub returns-in-Some-clause-exact : goal.returns-in-Some-clause-exact
returns-in-Some-clause-exact c =
    let none : length c.lines.rest.now ≡ 0 = nothing (length c.lines.rest.now) c.is_empty.result c.is_empty.ensures c.lines-test.false in
    c.lines.invariant.same
    ∙ ends_so c.args.target.now c.args.first c.args.bytes.now c.lines.number c.lines.state c.lines.rest.now c.in_ok-end.field-0 none c.in_ok-end.ensures.value
    ∙ ap (at_end c.lines.number) c.in-Some.is

pub returns-in-Some-clause-bulk : goal.returns-in-Some-clause-bulk
returns-in-Some-clause-bulk c =
    let sized = rw c.in-Some.is at c.in_ok-end.ensures.within in
    sized (length c.args.bytes.now) (state_grows (length c.args.bytes.now - length c.lines.rest.now) (length c.args.bytes.now) c.lines.state c.lines.invariant.within (omega arith))
