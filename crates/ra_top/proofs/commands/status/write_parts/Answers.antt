use Rattle.std.proofs.Common.{sym, subst}
use Rattle.ra_top.specs.Devices.Device.{WritesPart}
use Rattle.ra_top.proofs.DeviceLemmas.Written.{part_after, part_before}
use Rattle.ra_top.proofs.CommandLemmas.Joined.{joined_cut}
use Rattle.ra_top.proofs.commands.status.write_parts.Goals as goal

pub returns-in_err-write_all-clause-part : goal.returns-in_err-write_all-clause-part
returns-in_err-write_all-clause-part g c =
    subst (λ t. WritesPart (g.E.Sink.written c.args.err.now) (g.E.Sink.written c.write_all.new.out) t) (sym (joined_cut c.args.parts.now c.loop-part.part-index _ c.loop-part-test.true))
    (part_after _ _ _ _ _ c.loop-part.invariant.written (part_before _ _ _ _ c.in_err-write_all.ensures.part))
