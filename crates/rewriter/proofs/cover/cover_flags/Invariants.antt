use Rattle.std.proofs.Common.{◌≡◌, ℕ, ◌<◌, ◌-◌, ◌||◌, length}
use Rattle.mir_meaning.specs.Registers.{numbers}
use Rattle.machine_verify.specs.Liveins.{is_set}
use Rattle.rewriter.specs.Holders.{is_chosen}
use Rattle.rewriter.proofs.cover.cover_flags.Given as goal

abbrev pub invariant-units : goal.invariant-units
invariant-units l = record {
  count : length l.flags ≡ length l.target.regs;
  flags : (r : ℕ) → r < length l.target.regs → (is_set l.flags r || is_chosen l.target (is_set l.live) (numbers l.u (length l.target.units - l.u)) r) ≡ is_chosen l.target (is_set l.live) (numbers 0 (length l.target.units)) r;
}
