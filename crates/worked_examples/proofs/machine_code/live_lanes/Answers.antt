use Rattle.worked_examples.proofs.MachineCodeLemmas.Living as proved
use Rattle.worked_examples.proofs.machine_code.live_lanes.Goals as goal

pub returns : goal.returns
returns c = record {
  swap_lives = proved.swaps;
  two_lanes_live = proved.lanes;
  call_in_loop_lives = proved.loop;
  idle_loop_lives = proved.idle;
  undef_begins = proved.undef_begins;
  dead_flags = proved.dead;
}
