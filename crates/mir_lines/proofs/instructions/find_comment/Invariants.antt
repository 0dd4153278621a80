use Rattle.mir_lines.proofs.Comments.{CommentGo}
use Rattle.mir_lines.proofs.instructions.find_comment.Given as goal

abbrev pub invariant-loop-k : goal.invariant-loop-k
invariant-loop-k l = CommentGo l.line l.k l.quoted
