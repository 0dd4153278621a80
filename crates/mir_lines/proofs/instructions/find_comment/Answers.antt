use Rattle.mir_lines.proofs.Comments.{comment_begin}
use Rattle.mir_lines.proofs.instructions.find_comment.Goals as goal

pub loop-k-init : goal.loop-k-init
loop-k-init c = comment_begin c.args.line.now
