use Rattle.std.proofs.Common.{[], ap, sym}
use Rattle.std.specs.List.{cons_option}
use Rattle.spiller.specs.Listed.{keyed_uses}
use Rattle.spiller.specs.Views.{spilling_of}
use Rattle.spiller.proofs.ListSteps.{lists-none, lists-same}
use Rattle.spiller.proofs.remat.add_tied_use.Goals as goal

pub returns-in-None : goal.returns-in-None
returns-in-None c =
    let i = c.args.instr.now in
    let old = c.args.readings.now.items in
    lists-same c.args.view c.args.definitions.now (λ s. []) (λ s. keyed_uses s i (cons_option c.args.tied [])) old old
    (λ slot facts. ap (λ q. keyed_uses (spilling_of c.args.view slot facts) i (cons_option q [])) (sym c.in-None.is))
    (lists-none c.args.view c.args.definitions.now old)
