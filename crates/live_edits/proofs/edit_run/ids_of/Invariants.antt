use Rattle.std.proofs.Common.{take}
use Rattle.live_edits.specs.Runs.{HasIds}
use Rattle.live_edits.proofs.edit_run.ids_of.Given as goal

abbrev pub invariant-touched : goal.invariant-touched
invariant-touched l = HasIds (take l.instr-index l.touched) l.ids.keys
