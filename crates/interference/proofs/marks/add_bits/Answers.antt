use Rattle.std.proofs.Common.{◌+◌, ◌∙◌, ap, refl, arith}
use Rattle.interference.proofs.Marked.{bit_set, bit_clear, bits_all}
use Rattle.interference.proofs.marks.add_bits.Goals as goal
use Rattle.interference.proofs.marks.add_bits.Goals.{then-word-k-eq1+in_ok-push, else-word-k-eq1}

pub bits-preserved : goal.bits-preserved
bits-preserved c = elim c.if-word-k-eq1.branch [
  | then-word-k-eq1+in_ok-push w ↦ bit_set c.args.first c.args.word c.bits.k (c.args.first + c.bits.k) c.args.made.now.items c.bits.made.items c.if-word-k-eq1.made.items w.if-word-k-eq1.true refl c.bits.invariant (ap (λ v. v.items) w.made-is ∙ w.in_ok-push.ensures.items)
  | else-word-k-eq1 w ↦ ap (λ v. v.items) w.made-is ∙ bit_clear c.args.first c.args.word c.bits.k c.args.made.now.items c.bits.made.items w.if-word-k-eq1.false c.bits.invariant
]

pub returns : goal.returns
returns c = bits_all c.before.before.before.args.first c.before.before.before.args.word c.before.before.bits.k c.before.before.before.args.made.now.items c.before.before.bits.made.items (omega arith) c.before.before.bits.invariant
