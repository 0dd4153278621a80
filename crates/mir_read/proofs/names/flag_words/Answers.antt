use Rattle.mir_read.proofs.Distinct.{words_begin}
use Rattle.mir_read.proofs.names.flag_words.Goals as goal

pub loop-word-init : goal.loop-word-init
loop-word-init c = rw c.new-flags.ensures (words_begin c.args.words.now c.requires)
