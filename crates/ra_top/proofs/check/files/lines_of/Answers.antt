use Rattle.std.proofs.Common.{◌≤◌, ◌+◌, ◌++◌, [], refl, sym, subst, ◌∙◌, arith}
use Rattle.std.proofs.lemmas.Result.{err_from_is_err_and}
use Rattle.ra_top.specs.Commands.Spot.{file_most}
use Rattle.ra_top.specs.Checked.{function_of, IsWithin, LimitRefuses}
use Rattle.ra_top.proofs.CheckLemmas.Lines.{nothing_said, adds_more, all_said}
use Rattle.ra_top.proofs.CheckLemmas.Reads.{begun, goes_on, over, unbegun, breaks, refuses}
use Rattle.ra_top.proofs.CheckLemmas.Ends.{limit_never}
use Rattle.ra_top.proofs.check.files.lines_of.Goals as goal

pub returns-in_err-reading-clause-err : goal.returns-in_err-reading-clause-err
returns-in_err-reading-clause-err g c =
    let p = err_from_is_err_and c.from_residual.result c.from_residual.ensures.1 in
    let t = c.args.reader.now in
    rw (p.1, p.2) (unbegun IsWithin t LimitRefuses (g.F.Files.contents c.args.files.now c.args.name.now) (g.F.Files.left c.begin.new.files) c.in_err-reading.field-0.0 c.in_err-reading.ensures.left c.in_err-reading.ensures.err)

pub documents-init : goal.documents-init
documents-init g c = record {
  contents = c.in_ok-reading.ensures.contents;
  faults = c.in_ok-reading.ensures.cause;
  line = subst (λ s. s.line ≤ s.offset + 1) (sym c.in_ok-reading.ensures.ok.0) (omega arith);
  within = subst (λ s. s.offset ≤ file_most) (sym c.in_ok-reading.ensures.ok.0) (omega arith);
  said = ([], begun IsWithin c.args.reader.now _ _ _ _ [] c.in_ok-reading.ensures.left c.in_ok-reading.ensures.ok.0 c.in_ok-reading.ensures.ok.1 refl, nothing_said c.args.reader.now _ _ c.new-lines.result refl c.new-lines.ensures);
}

pub returns-in_err-doc-clause-err : goal.returns-in_err-doc-clause-err
returns-in_err-doc-clause-err g c =
    let p = err_from_is_err_and c.from_residual-in_err-doc.result c.from_residual-in_err-doc.ensures.1 in
    let t = c.args.reader.now in
    rw (p.1, p.2) (breaks IsWithin t LimitRefuses _ c.documents.reading.spot c.documents.reading.chunk _ (g.F.Files.left c.next_document.new.files) _ c.in_err-doc.field-0.0 c.documents.invariant.said.1 c.in_err-doc.ensures.read)

pub returns-in_err-left-in-Some-clause-err : goal.returns-in_err-left-in-Some-clause-err
returns-in_err-left-in-Some-clause-err g c =
    let p = err_from_is_err_and c.from_residual-in_err-left-in-Some.result c.from_residual-in_err-left-in-Some.ensures.1 in
    let t = c.args.reader.now in
    rw (p.1, p.2) (refuses IsWithin t LimitRefuses limit_never _ c.documents.reading.spot c.next_document.new.reading.spot c.documents.reading.chunk c.next_document.new.reading.chunk _ (g.F.Files.left c.next_document.new.files) _ c.in-Some.doc c.in_err-left-in-Some.field-0.0 c.documents.invariant.said.1 (rw c.in-Some.is at c.in_ok-doc.ensures.read) c.in_err-left-in-Some.ensures.err)

pub documents-preserved : goal.documents-preserved
documents-preserved g c =
    let gs = c.documents.invariant.said.0 in
    let d = c.in-Some.doc in
    record {
      contents = λ n. c.in_ok-doc.ensures.contents n ∙ c.documents.invariant.contents n;
      faults = c.in_ok-doc.ensures.cause ∙ c.documents.invariant.faults;
      line = (rw c.in-Some.is at c.in_ok-doc.ensures.moves).1;
      within = (rw c.in-Some.is at c.in_ok-doc.ensures.moves).2;
      said = (
        gs ++ function_of d,
        goes_on IsWithin c.args.reader.now _ c.documents.reading.spot c.next_document.new.reading.spot c.documents.reading.chunk c.next_document.new.reading.chunk _ _ gs _ d c.documents.invariant.said.1 (rw c.in-Some.is at c.in_ok-doc.ensures.read) c.in_ok-left-in-Some.ensures.ok.within refl,
        adds_more c.args.reader.now _ gs _ (function_of d) _ [] c.documents.lines _ c.documents.invariant.said.2 c.in_ok-left-in-Some.ensures.ok.lines,
      );
    }

pub returns-clause-ok : goal.returns-clause-ok
returns-clause-ok g c = record {
  partners = c.documents.invariant.said.0;
  read = over IsWithin c.args.reader.now _ c.documents.reading.spot c.documents.reading.chunk _ _ c.documents.invariant.said.1 (rw c.in-None.is at c.in_ok-doc.ensures.read);
  says = all_said c.args.reader.now _ c.documents.invariant.said.0 _ c.documents.lines _ c.documents.invariant.said.2 c.in_ok-put_left.ensures;
}
