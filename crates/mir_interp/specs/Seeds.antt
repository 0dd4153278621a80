-- What the environment of a number gives.
use Rattle.std.specs.Prelude.{ℕ, ◌+◌, ◌*◌, ◌%◌, Some, cond}
use Rattle.mir_interp.specs.Stands.{Given}

abbrev pub of_seed : ℕ → Given
of_seed seed = record {
  entry = λ u. Some (seed + u.0);
  byte = λ a. (seed + a) % 256;
  frame = λ fixed n. cond fixed (1048576 + 4096 * n) (4096 * (n + 1));
  symbol = λ m. 16777216 + 65536 * m;
  answer = λ k j. seed + 16 * k + j;
}
