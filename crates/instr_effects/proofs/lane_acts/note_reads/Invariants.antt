use Rattle.std.proofs.Common.{◌≡◌, ℕ, true, take}
use Rattle.instr_effects.specs.LaneActs.{first_of, act_on, is_once, add_read, read_at}
use Rattle.instr_effects.proofs.lane_acts.note_reads.Given as goal

abbrev pub invariant-reads : goal.invariant-reads
invariant-reads l = record {
  told : (k : ℕ) → act_on l.acts.items k ≡ add_read (act_on l.fn.acts.items k) (first_of (read_at k) (take l.lane-index l.reads));
  once : is_once l.fn.acts.items ≡ true → is_once l.acts.items ≡ true;
}
