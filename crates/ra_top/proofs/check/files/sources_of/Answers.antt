use Rattle.std.proofs.Common.{◌≤◌, ◌+◌, ap, sym, subst, ◌∙◌, arith}
use Rattle.std.proofs.lemmas.Result.{err_from_is_err_and}
use Rattle.pipeline.specs.Guarded.Function.{IsTaken}
use Rattle.ra_top.specs.Commands.Spot.{file_most}
use Rattle.ra_top.specs.Checked.{SourceRefuses}
use Rattle.ra_top.specs.Reading.{plain}
use Rattle.ra_top.proofs.CheckLemmas.Reads.{begun, goes_on, over, unbegun, breaks, refuses}
use Rattle.ra_top.proofs.CheckLemmas.Ends.{source_never}
use Rattle.ra_top.proofs.check.files.sources_of.Goals as goal

pub returns-in_err-reading-clause-err : goal.returns-in_err-reading-clause-err
returns-in_err-reading-clause-err g c =
    let p = err_from_is_err_and c.from_residual.result c.from_residual.ensures.1 in
    let t = c.args.reader.now in
    rw (p.1, p.2) (unbegun (IsTaken t) t (SourceRefuses t) (g.F.Files.contents c.args.files.now c.args.name.now) (g.F.Files.left c.begin.new.files) c.in_err-reading.field-0.0 c.in_err-reading.ensures.left c.in_err-reading.ensures.err)

pub documents-init : goal.documents-init
documents-init g c = record {
  contents = c.in_ok-reading.ensures.contents;
  faults = c.in_ok-reading.ensures.cause;
  line = subst (λ s. s.line ≤ s.offset + 1) (sym c.in_ok-reading.ensures.ok.0) (omega arith);
  within = subst (λ s. s.offset ≤ file_most) (sym c.in_ok-reading.ensures.ok.0) (omega arith);
  read = begun (IsTaken c.args.reader.now) c.args.reader.now _ _ _ _ _ c.in_ok-reading.ensures.left c.in_ok-reading.ensures.ok.0 c.in_ok-reading.ensures.ok.1 (ap plain c.new-sources.ensures.items);
}

pub returns-in_err-doc-clause-err : goal.returns-in_err-doc-clause-err
returns-in_err-doc-clause-err g c =
    let p = err_from_is_err_and c.from_residual-in_err-doc.result c.from_residual-in_err-doc.ensures.1 in
    let t = c.args.reader.now in
    rw (p.1, p.2) (breaks (IsTaken t) t (SourceRefuses t) _ c.documents.reading.spot c.documents.reading.chunk _ (g.F.Files.left c.next_document.new.files) _ c.in_err-doc.field-0.0 c.documents.invariant.read c.in_err-doc.ensures.read)

pub documents-preserved : goal.documents-preserved
documents-preserved g c = record {
  contents = λ n. c.in_ok-doc.ensures.contents n ∙ c.documents.invariant.contents n;
  faults = c.in_ok-doc.ensures.cause ∙ c.documents.invariant.faults;
  line = (rw c.in-Some.is at c.in_ok-doc.ensures.moves).1;
  within = (rw c.in-Some.is at c.in_ok-doc.ensures.moves).2;
  read = goes_on (IsTaken c.args.reader.now) c.args.reader.now _ c.documents.reading.spot c.next_document.new.reading.spot c.documents.reading.chunk c.next_document.new.reading.chunk _ _ _ _ c.in-Some.doc c.documents.invariant.read (rw c.in-Some.is at c.in_ok-doc.ensures.read) c.in_ok-add_source-in-Some.ensures.ok.taken c.in_ok-add_source-in-Some.ensures.ok.added;
}

pub returns-in_err-add_source-in-Some-clause-err : goal.returns-in_err-add_source-in-Some-clause-err
returns-in_err-add_source-in-Some-clause-err g c =
    let p = err_from_is_err_and c.from_residual-in_err-add_source-in-Some.result c.from_residual-in_err-add_source-in-Some.ensures.1 in
    let t = c.args.reader.now in
    rw (p.1, p.2) (refuses (IsTaken t) t (SourceRefuses t) (source_never t) _ c.documents.reading.spot c.next_document.new.reading.spot c.documents.reading.chunk c.next_document.new.reading.chunk _ (g.F.Files.left c.next_document.new.files) _ c.in-Some.doc c.in_err-add_source-in-Some.field-0.0 c.documents.invariant.read (rw c.in-Some.is at c.in_ok-doc.ensures.read) c.in_err-add_source-in-Some.ensures.err)

pub returns-in-None-clause-ok : goal.returns-in-None-clause-ok
returns-in-None-clause-ok g c = over (IsTaken c.args.reader.now) c.args.reader.now _ c.documents.reading.spot c.documents.reading.chunk _ _ c.documents.invariant.read (rw c.in-None.is at c.in_ok-doc.ensures.read)
