use Rattle.std.proofs.Common.{◌≡◌, false, ap, sym, ◌∙◌}
use Rattle.std.specs.Prelude.{is_some, codes}
use Rattle.mir_lines.specs.Bytes.{behind_word}
use Rattle.mir_text.proofs.Bodies.{some_of, worded_successors, worded_liveins, worded_instr}
use Rattle.mir_text.proofs.reading.BodyReader.read_body_line.Goals as goal

pub returns-in-Some-clause-value : goal.returns-in-Some-clause-value
returns-in-Some-clause-value c =
    let other : is_some (behind_word (codes "bb.") c.args.text.now) ≡ false = sym (ap is_some c.behind_word.ensures.value) ∙ some_of (λ x. x.now) c.behind_word.result ∙ (sym c.is_some.ensures ∙ c.if-is_some.false) in
    rw (worded_successors c.args.target.now c.args.names.now c.args.self c.args.text.now c.in-Some.list.now other c.in-Some.ensures.value) c.successors_line.ensures.value

pub returns-in-Some-behind_word-clause-value : goal.returns-in-Some-behind_word-clause-value
returns-in-Some-behind_word-clause-value c =
    let other : is_some (behind_word (codes "bb.") c.args.text.now) ≡ false = sym (ap is_some c.behind_word.ensures.value) ∙ some_of (λ x. x.now) c.behind_word.result ∙ (sym c.is_some.ensures ∙ c.if-is_some.false) in
    rw (worded_liveins c.args.target.now c.args.names.now c.args.self c.args.text.now c.in-Some-behind_word.list.now other c.in-None.ensures.value c.in-Some-behind_word.ensures.value) c.liveins_line.ensures.value

pub returns-in-None-behind_word-clause-value : goal.returns-in-None-behind_word-clause-value
returns-in-None-behind_word-clause-value c =
    let other : is_some (behind_word (codes "bb.") c.args.text.now) ≡ false = sym (ap is_some c.behind_word.ensures.value) ∙ some_of (λ x. x.now) c.behind_word.result ∙ (sym c.is_some.ensures ∙ c.if-is_some.false) in
    rw (worded_instr c.args.target.now c.args.names.now c.args.self c.args.text.now other c.in-None.ensures.value c.in-None-behind_word.ensures.value) c.instr_line.ensures.value
