use Rattle.std.proofs.Common.{◌+◌, length}
use Rattle.mir_text.proofs.Within.{keys_add, reading_begins}
use Rattle.mir_text.proofs.document.key_line.Goals as goal

pub returns-in_ok-new-clause-within : goal.returns-in_ok-new-clause-within
returns-in_ok-new-clause-within c = λ n h.
    let adds = rw c.get_mut.ensures.value at c.in_ok-line.ensures.adds in
    let a = keys_add n (length c.args.line.now) c.args.keys c.line.new.self h adds in
    rw c.in_ok-new.ensures (reading_begins (n + length c.args.line.now) c.line.new.self a)

pub returns-else-is_body-clause-within : goal.returns-else-is_body-clause-within
returns-else-is_body-clause-within c = λ n h.
    let adds = rw c.get_mut.ensures.value at c.in_ok-line.ensures.adds in
    keys_add n (length c.args.line.now) c.args.keys c.line.new.self h adds
