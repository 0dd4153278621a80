use Rattle.std.proofs.Common.{◌∙◌, Some, None}
use Rattle.clap.specs.Words.{found_of}
use Rattle.ra_top.specs.Words.Words.{texts_of}
use Rattle.ra_top.proofs.WordLemmas.Parse.{answered, unanswered}
use Rattle.ra_top.proofs.words.words.plain_words.Goals as goal

pub returns-in-None : goal.returns-in-None
returns-in-None c =
    let m = found_of c.in-Ok.matches in
    rw c.new.ensures.items (answered _ c.args.words.now m None c.in_ok-parser.ensures c.in-Ok.ensures.kinds (λ s. (c.in-Ok.ensures.matches s).0) c.in-None.ensures)

pub returns-in-Ok : goal.returns-in-Ok
returns-in-Ok c =
    let m = found_of c.in-Ok.matches in
    rw c.in_ok-from_slice-in-Some.ensures.items (answered _ c.args.words.now m (Some (texts_of c.in-Some.plain.now)) c.in_ok-parser.ensures c.in-Ok.ensures.kinds (λ s. (c.in-Ok.ensures.matches s).0) c.in-Some.ensures)

pub returns : goal.returns
returns c = unanswered _ c.args.words.now c.in-Err.fault c.in_ok-parser.ensures (λ memory. c.in_default.not-OutOfMemory (c.kind.ensures ∙ memory)) c.in-Err.ensures.kinds
