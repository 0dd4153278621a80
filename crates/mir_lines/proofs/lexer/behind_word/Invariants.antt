use Rattle.mir_lines.proofs.Words.{WordGo}
use Rattle.mir_lines.proofs.lexer.behind_word.Given as goal

abbrev pub invariant-loop-b : goal.invariant-loop-b
invariant-loop-b l = WordGo l.word l.text l.b-index l.rest
