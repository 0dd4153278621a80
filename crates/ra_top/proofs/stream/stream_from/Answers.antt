use Rattle.std.proofs.Common.{◌≤◌, ◌+◌, [], refl, sym, subst, ◌∙◌, arith}
use Rattle.ra_top.proofs.DeviceLemmas.Written.{all_after}
use Rattle.ra_top.specs.Commands.Spot.{file_most}
use Rattle.ra_top.proofs.Nothing.{writes_none}
use Rattle.ra_top.proofs.Watched.{told_none, told_more, told_end, lines_behind}
use Rattle.ra_top.proofs.Progress.{begins, goes_on, run_stops}
use Rattle.ra_top.proofs.stream.stream_from.Goals as goal

pub documents-init : goal.documents-init
documents-init g c = record {
  contents = λ n. refl;
  faults = refl;
  out_faults = refl;
  line = subst (λ s. s.line ≤ s.offset + 1) (sym c.requires.first) (omega arith);
  within = subst (λ s. s.offset ≤ file_most) (sym c.requires.first) (omega arith);
  leaves = λ e. refl;
  told = λ e. told_none (g.W.Watcher.next c.args.task.reader.now) c.args.task.reader.now (g.F.Files.left c.args.files.now) c.args.begun.spot c.args.begun.chunk c.args.watchers.now.items c.requires.first c.requires.empty;
  traced = λ e. writes_none (g.O.Sink.written c.args.out.now);
  progress = begins _ _ _ c.args.begun.spot c.args.begun.chunk _ c.requires.first c.requires.empty;
}

pub documents-preserved : goal.documents-preserved
documents-preserved g c = record {
  contents = λ n. c.in-More.ensures.contents n ∙ c.documents.invariant.contents n;
  faults = c.in-More.ensures.cause.0 ∙ c.documents.invariant.faults;
  out_faults = c.in-More.ensures.cause.1 ∙ c.documents.invariant.out_faults;
  line = c.in-More.ensures.moves.1;
  within = c.in-More.ensures.moves.2;
  leaves = λ e. c.in-More.ensures.leaves e ∙ c.documents.invariant.leaves e;
  told = λ e.
      let more = c.in-More.ensures.told e in
      told_more (g.W.Watcher.next c.args.task.reader.now) c.args.task.reader.now (g.F.Files.left c.args.files.now) c.documents.reading.spot c.document.new.reading.spot c.documents.reading.chunk c.document.new.reading.chunk (g.F.Files.left c.documents.files) (g.F.Files.left c.document.new.files) c.documents.number c.document.new.number c.args.watchers.now.items c.documents.watchers.items c.document.new.watchers.items more.0
      c.in-More.ensures.moves.0 c.documents.invariant.within (c.documents.invariant.told e) more.1 more.2;
  traced = λ e. all_after _ _ _ [] [] (c.documents.invariant.traced e) (c.in-More.ensures.traced e);
  progress = goes_on _ _ _ c.documents.reading.spot c.document.new.reading.spot c.documents.reading.chunk c.document.new.reading.chunk _ _ _ _ _ c.documents.invariant.progress c.in-More.ensures.step;
}

pub returns-in-End-clause-streamed : goal.returns-in-End-clause-streamed
returns-in-End-clause-streamed g c = run_stops _ _ _ c.documents.reading.spot c.documents.reading.chunk _ _ _ _ _ c.in-End.ending.status c.in-End.ending.detail c.documents.invariant.progress c.in-End.ensures.step

pub returns-in-End-clause-told : goal.returns-in-End-clause-told
returns-in-End-clause-told g c = λ e.
    told_end (g.W.Watcher.next c.args.task.reader.now) c.args.task.reader.now (g.F.Files.left c.args.files.now) c.documents.reading.spot c.documents.reading.chunk (g.F.Files.left c.documents.files) c.documents.number c.args.watchers.now.items c.documents.watchers.items c.document.new.watchers.items c.in-End.ending.status
    (c.documents.invariant.told e) (c.in-End.ensures.told e)

pub returns-in-End-clause-traced : goal.returns-in-End-clause-traced
returns-in-End-clause-traced g c = λ e. lines_behind c.in-End.ending.status _ _ _ _ (c.documents.invariant.traced e) (c.in-End.ensures.traced e)
