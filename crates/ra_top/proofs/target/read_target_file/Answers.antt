use Rattle.ra_top.proofs.Verdicts.{is_target_of_first, is_refused_of_first, no_device}
use Rattle.ra_top.proofs.target.read_target_file.Goals as goal

pub returns-in-Ok-clause-ok : goal.returns-in-Ok-clause-ok
returns-in-Ok-clause-ok g c = is_target_of_first _ _ _ c.target_of.result c.in-Ok.ensures.bytes c.as_slice.ensures.value c.target_of.ensures.ok

pub returns-in-Ok-clause-err : goal.returns-in-Ok-clause-err
returns-in-Ok-clause-err g c = is_refused_of_first _ _ _ c.target_of.result c.in-Ok.ensures.bytes c.as_slice.ensures.value c.target_of.ensures.err

pub returns-in-Ok-clause-cause : goal.returns-in-Ok-clause-cause
returns-in-Ok-clause-cause g c = no_device c.target_of.result _ _ c.target_of.ensures.fault c.in-Ok.ensures.cause
