use Rattle.std.proofs.Common.{◌≡◌, take, map}
use Rattle.instr_effects.specs.LaneActs.{no_act}
use Rattle.live_edits.proofs.act_changes.idle_acts.Given as goal

abbrev pub invariant-acts : goal.invariant-acts
invariant-acts l = l.idle.items ≡ map (λ a. no_act a.lane) (take l.act-index l.acts)
