use Rattle.std.proofs.Common.{◌≡◌, true, false, drop}
use Rattle.std.specs.Prelude.{is_some}
use Rattle.mir_lines.specs.Bytes.{behind_word}
use Rattle.mir_read.proofs.Found.{contains_found, contains_go}
use Rattle.mir_read.proofs.keys.contains.Goals as goal

pub returns-then-stands_at : goal.returns-then-stands_at
returns-then-stands_at c =
    let here : is_some (behind_word c.args.part.now (drop c.loop-k.k c.args.text.now)) ≡ true = cc (c.stands_at.ensures) in
    contains_found c.args.part.now c.args.text.now c.loop-k.k c.loop-k.invariant c.loop-k-test.true here

pub loop-k-preserved : goal.loop-k-preserved
loop-k-preserved c =
    let other : is_some (behind_word c.args.part.now (drop c.loop-k.k c.args.text.now)) ≡ false = cc (c.stands_at.ensures) in
    contains_go c.args.part.now c.args.text.now c.loop-k.k c.loop-k.invariant c.loop-k-test.true other
