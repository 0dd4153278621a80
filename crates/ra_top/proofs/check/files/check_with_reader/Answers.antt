use Rattle.ra_top.specs.Checked.{at_allocated}
use Rattle.ra_top.specs.Reading.{plain}
use Rattle.ra_top.proofs.CheckLemmas.Ends.{ends_at_allocated}
use Rattle.ra_top.proofs.check.files.check_with_reader.Goals as goal

pub returns-clause-checks : goal.returns-clause-checks
returns-clause-checks g c =
    at_allocated
    (ends_at_allocated c.args.reader.now c.args.source.now c.args.allocated.now (g.F.Files.contents c.args.files.now) (g.F.Files.contents c.sources_of.new.files) (g.F.Files.left c.lines_of.new.files) (g.O.Sink.written c.args.out.now) (plain c.in-Ok.sources.items) c.in-Err-lines_of.refusal c.report_refusal-in-Err-lines_of.result.status c.report_refusal-in-Err-lines_of.result.detail
    (c.in-Ok.ensures.contents c.args.allocated.now) c.in-Ok.ensures.ok c.report_refusal-in-Err-lines_of.ensures c.in-Err-lines_of.ensures.err)
