use Rattle.mir_read.proofs.Distinct.{WordsGo}
use Rattle.mir_read.proofs.names.flag_words.Given as goal

abbrev pub invariant-loop-word : goal.invariant-loop-word
invariant-loop-word l = WordsGo l.words l.word-index l.flags
