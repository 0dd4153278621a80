use Rattle.ra_top.proofs.DeviceLemmas.Written.{part_after, part_before}
use Rattle.ra_top.proofs.commands.status.write_named.Goals as goal

pub returns-in_err-write_text-2-clause-part : goal.returns-in_err-write_text-2-clause-part
returns-in_err-write_text-2-clause-part g c = part_after _ _ _ _ _ c.in_ok-write_text.ensures.all (part_before _ _ _ _ c.in_err-write_text-2.ensures.part)

pub returns-clause-part : goal.returns-clause-part
returns-clause-part g c = part_after _ _ _ _ _ c.in_ok-write_text.ensures.all (part_after _ _ _ _ _ c.in_ok-write_text-2.ensures.all c.write_text-3.ensures.part)
