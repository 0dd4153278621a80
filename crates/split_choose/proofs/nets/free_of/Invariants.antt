use Rattle.std.proofs.Common.{◌≡◌, ◌<◌, ℕ, false, length, get_or}
use Rattle.std.specs.Prelude.{◌&&◌, not}
use Rattle.split_choose.proofs.nets.free_of.Given as goal

abbrev pub invariant-borders : goal.invariant-borders
invariant-borders l = record {
  size : length l.free.items ≡ l.border;
  told : (root : ℕ) → root < l.border → get_or l.free.items root false ≡ (get_or l.named root false && not (get_or l.outside root false));
}
