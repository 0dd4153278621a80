use Rattle.std.proofs.Common.{◌∙◌}
use Rattle.pipeline.proofs.PassLemmas.Live.{live_of}
use Rattle.ra_top.proofs.CommandLemmas.Ready.{may-prepare, shows}
use Rattle.ra_top.proofs.commands.intervals.text_of.Goals as goal

pub text_of_intervals-requires : goal.text_of_intervals-requires
text_of_intervals-requires c =
    let t = c.args.target.now in
    let ok = c.in_ok-name.ensures.ok in
    let live = c.in_ok-name.field-0.live in
    let may = may-prepare t c.args.f live c.requires.fits c.requires.bulk ok.2 ok.1 c.in_ok-name.ensures.target in
    let prepared = rw c.get.ensures at c.in_ok-made.ensures.prepared in
    rw c.get-2.ensures (live_of t live.func c.in_ok-made.made (prepared may))

pub returns-clause-ok : goal.returns-clause-ok
returns-clause-ok c =
    let t = c.args.target.now in
    let ok = c.in_ok-name.ensures.ok in
    let live = c.in_ok-name.field-0.live in
    let may = may-prepare t c.args.f live c.requires.fits c.requires.bulk ok.2 ok.1 c.in_ok-name.ensures.target in
    let prepared = rw c.get.ensures at c.in_ok-made.ensures.prepared in
    let told = rw c.get-2.ensures at c.in_ok-text.ensures in
    (ok.2, ok.3, shows t c.args.f live.func c.in_ok-made.made c.as_slice.result.now c.in_ok-text.text ok.1 (c.as_slice.ensures ∙ ok.0) (prepared may) told)
