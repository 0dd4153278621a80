use Rattle.std.proofs.Common.{codes}
use Rattle.std.specs.Fmt.{decimal}
use Rattle.ra_top.proofs.ReportLemmas.Summary.Summaries.{numbered_twice}
use Rattle.ra_top.proofs.report.summary.lines.put_allocated.Goals as goal

pub returns : goal.returns
returns c =
    numbered_twice c.args.out.now c.extend.new.self c.put_numbered.new.out c.put_numbered-2.new.out c.extend-2.new.self (codes "allocated") (codes " instructions ") (decimal c.args.made.instrs) (codes " slots ") (decimal c.args.made.slots) (codes "\n")
    c.in_ok-extend.ensures.ok c.in_ok-put_numbered.ensures c.in_ok-put_numbered-2.ensures c.in_ok-extend-2.ensures.ok
