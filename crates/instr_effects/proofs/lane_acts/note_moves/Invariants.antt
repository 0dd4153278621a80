use Rattle.std.proofs.Common.{◌≡◌, ℕ, true, take}
use Rattle.instr_effects.specs.LaneActs.{first_of, act_on, is_once, add_read, move_at}
use Rattle.instr_effects.proofs.lane_acts.note_moves.Given as goal

abbrev pub invariant-writes : goal.invariant-writes
invariant-writes l = record {
  told : (k : ℕ) → act_on l.acts.items k ≡ add_read (act_on l.fn.acts.items k) (first_of (move_at k) (take l.w-index l.writes));
  once : is_once l.fn.acts.items ≡ true → is_once l.acts.items ≡ true;
}
