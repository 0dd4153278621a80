use Rattle.std.proofs.Common.{arith}
use Rattle.std.proofs.lemmas.Bool.Decides.{nat_tests}
use Rattle.machine_verify.proofs.Meant.{v5_is}
use Rattle.machine_verify.proofs.search.v5.Goals as goal

pub returns-then-not-has : goal.returns-then-not-has
returns-then-not-has c =
    let e = v5_is c.args.q.now.f.now c.args.k c.args.b.now c.args.known.now.numbers c.args.known.now.seen c.requires.numbers c.requires.seen in
    grind (arith, nat_tests, e, c.has.ensures, c.if-not-has.true, c.names_are_there.ensures)

pub returns-else-not-has : goal.returns-else-not-has
returns-else-not-has c =
    let e = v5_is c.args.q.now.f.now c.args.k c.args.b.now c.args.known.now.numbers c.args.known.now.seen c.requires.numbers c.requires.seen in
    grind (arith, nat_tests, e, c.has.ensures, c.if-not-has.false)
